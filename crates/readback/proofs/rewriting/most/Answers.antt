-- At six, and at the other width that is known.
use mathlib.Core.Path.{sym, ap}
use Rattle.listing.specs.Scanning.{most_at}
use Rattle.readback.proofs.Rewrites.{known_other}
use Rattle.readback.proofs.rewriting.most.Goals as goal

pub returns-then-width-eq6 : goal.returns-then-width-eq6
returns-then-width-eq6 c = sym (ap most_at c.if-width-eq6.true)

pub returns-else-width-eq6 : goal.returns-else-width-eq6
returns-else-width-eq6 c = sym (ap most_at (known_other _ c.requires c.if-width-eq6.false))
