-- The lines, the bytes, the slots and the box.
use Rattle.driver.specs.Feeding.{good}
use Rattle.driver.proofs.Driver.good.Goals as goal

pub returns : goal.returns
unfolding good
returns c = rw c.good.ensures
