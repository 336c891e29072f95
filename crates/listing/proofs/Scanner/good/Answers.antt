-- The lines and the bytes.
use Rattle.listing.specs.Scanning.{good}
use Rattle.listing.proofs.Scanner.good.Goals as goal

pub returns : goal.returns
unfolding good
returns c = rw c.most_lines.ensures
