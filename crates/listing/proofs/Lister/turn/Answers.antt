-- What was found, read and printed.
use Rattle.listing.proofs.Lister.turn.Goals as goal

pub returns : goal.returns
returns c = simp (c.printed.ensures, c.gave-gave.ensures)
