-- The reader and the base, each by its own test.
use Rattle.bridge.specs.Good.{good}
use Rattle.bridge.proofs.Bridge.good.Goals as goal

pub returns : goal.returns
unfolding good
returns c = rw (c.good-2.ensures, c.good.ensures)
