-- The last line, and the end behind it.
use Rattle.listing.specs.Feeding.{last_of}
use Rattle.listing.proofs.Grown.{grown_append}
use Rattle.listing.proofs.Lister.last.Goals as goal

pub returns : goal.returns
unfolding last_of
returns c = simp (grown_append, c.turn.ensures, c.end.ensures, c.turn-closed.ensures, c.closed.ensures, c.front.ensures)
