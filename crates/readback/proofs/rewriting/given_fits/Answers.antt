-- An item, or nothing.
use mathlib.Core.Path.{◌∙◌}
use Rattle.readback.proofs.rewriting.given_fits.Goals as goal

pub returns-in-Some : goal.returns-in-Some
returns-in-Some c = c.fits.ensures ∙ rw c.in-Some.is
