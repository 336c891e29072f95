-- `dropped`: bytes left, or none.
use mathlib.Core.Path.{sym, ◌∙◌}
use Rattle.ballbox.specs.Events.{dropped}
use Rattle.ballbox.proofs.BallBox.dropped.Goals as goal

pub returns-then-bytes_left : goal.returns-then-bytes_left
unfolding dropped
returns-then-bytes_left c = simp (sym c.bytes_left.ensures ∙ c.if-bytes_left.true, c.nothing-self.ensures, c.hidden-self.ensures)

pub returns-else-bytes_left : goal.returns-else-bytes_left
unfolding dropped
returns-else-bytes_left c = simp (sym c.bytes_left.ensures ∙ c.if-bytes_left.false)
