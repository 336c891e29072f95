-- The line that is always printed first.
use mathlib.Core.Path.{sym}
use Rattle.listing.proofs.printing.opening.Goals as goal

pub returns : goal.returns
returns c = rw (sym c.first.ensures) c.headed.ensures
