-- `latching`: where a report is wanted.
use Rattle.ballbox.specs.Events.{latching}
use Rattle.ballbox.proofs.BallBox.latching.Goals as goal

pub returns-then-bytes_left-wanted : goal.returns-then-bytes_left-wanted
unfolding latching
returns-then-bytes_left-wanted c = simp (simp (c.wanted.ensures, c.bytes_left.ensures) at c.if-bytes_left-wanted.true) c.latched.ensures

pub returns-else-bytes_left-wanted : goal.returns-else-bytes_left-wanted
unfolding latching
returns-else-bytes_left-wanted c = simp (simp (c.wanted.ensures, c.bytes_left.ensures) at c.if-bytes_left-wanted.false)
