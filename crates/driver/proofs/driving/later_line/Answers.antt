-- A line behind the first, by what it says.
use Rattle.driver.specs.Driving.{slots}
use Rattle.driver.proofs.driving.later_line.Goals as goal

pub returns-in-Single : goal.returns-in-Single
returns-in-Single c = rw c.in-Single.is c.event_done.ensures

pub returns-in-Slots : goal.returns-in-Slots
unfolding slots
returns-in-Slots c = rw c.in-Slots.is
