-- What was found, behind the front.
use Rattle.listing.proofs.Grown.{grown_append}
use Rattle.listing.proofs.Lister.opened.Goals as goal

pub returns : goal.returns
returns c = simp (grown_append, c.turn.ensures, c.front.ensures)
