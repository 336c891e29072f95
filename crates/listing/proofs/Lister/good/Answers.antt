-- The scanner and the reader, each by its own test.
use Rattle.listing.specs.Feeding.{good}
use Rattle.listing.proofs.Lister.good.Goals as goal

pub returns : goal.returns
unfolding good
returns c = rw (c.good-2.ensures, c.good.ensures)
