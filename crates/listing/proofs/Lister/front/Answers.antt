-- Whether nothing has been written yet.
use Rattle.listing.specs.Feeding.{front_of}
use Rattle.listing.proofs.Lister.front.Goals as goal

pub returns-then-scanner : goal.returns-then-scanner
unfolding front_of
returns-then-scanner c = rw c.if-scanner.true c.opening.ensures

pub returns : goal.returns
unfolding front_of
returns c = rw c.if-scanner.false c.none.ensures
