-- The line of an item: what is printed where it is given.
use mathlib.Core.List.{append-nil}
use Rattle.listing.proofs.printing.line.Goals as goal

pub returns : goal.returns
returns c = simp (append-nil, c.printed.ensures, c.none.ensures)
