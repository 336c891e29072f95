-- `remembers_rightly`: none, or awake in a stream mode.
use borrow.Author.Tests.{not-true, not-false}
use mathlib.Core.Path.{sym, ◌∙◌}
use Rattle.ballbox.proofs.BallBox.remembers_rightly.Goals as goal

pub returns-then-not-any : goal.returns-then-not-any
returns-then-not-any c = simp (sym c.any.ensures ∙ not-true _ c.if-not-any.true-raw)

pub returns : goal.returns
returns c = simp (sym c.any.ensures ∙ not-false _ c.if-not-any.false-raw, c.is_stream.ensures)
