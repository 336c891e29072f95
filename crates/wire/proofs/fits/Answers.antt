-- `fits`: the first place or a later one.
use mathlib.Core.Path.{◌∙◌}
use Rattle.wire.proofs.Letters.{later_place}
use Rattle.wire.proofs.fits.Goals as goal

pub returns-then-place-eq0 : goal.returns-then-place-eq0
returns-then-place-eq0 c = rw c.if-place-eq0.true c.first_by.ensures

pub returns-else-place-eq0 : goal.returns-else-place-eq0
returns-else-place-eq0 c = c.later_by.ensures ∙ later_place _ _ _ c.if-place-eq0.false
