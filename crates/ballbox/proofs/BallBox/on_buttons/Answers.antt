-- `on_buttons`: the same buttons, or others, in a stream mode or not.
use borrow.Author.Tests.{eq-eqb, ne_eqb}
use mathlib.Core.Path.{sym, ◌∙◌}
use Rattle.ballbox.specs.Events.{on_buttons}
use Rattle.ballbox.proofs.BallBox.on_buttons.Goals as goal

pub returns-then-n-self : goal.returns-then-n-self
unfolding on_buttons
returns-then-n-self c = simp (eq-eqb _ _ c.if-n-self.true)

pub returns-then-is_stream : goal.returns-then-is_stream
unfolding on_buttons
returns-then-is_stream c = simp (ne_eqb _ _ c.if-n-self.false, sym c.is_stream.ensures ∙ c.if-is_stream.true, c.remembering-self.ensures)

pub returns-else-is_stream : goal.returns-else-is_stream
unfolding on_buttons
returns-else-is_stream c = simp (ne_eqb _ _ c.if-n-self.false, sym c.is_stream.ensures ∙ c.if-is_stream.false)
