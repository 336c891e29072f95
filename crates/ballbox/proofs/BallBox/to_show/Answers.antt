-- `to_show`: one is remembered, or none.
use mathlib.Core.Path.{sym, ◌∙◌}
use Rattle.ballbox.specs.Presses.{to_show}
use Rattle.ballbox.proofs.BallBox.to_show.Goals as goal

pub returns-then-any : goal.returns-then-any
unfolding to_show
returns-then-any c = simp (sym c.any.ensures ∙ c.if-any.true)

pub returns : goal.returns
unfolding to_show
returns c = simp (sym c.any.ensures ∙ c.if-any.false)
