-- `step`: 6 for a reader that is not good, and then the word.
use mathlib.Core.Path.{ap, sym, ◌∙◌}
use borrow.Author.Tests.{not-true, not-false}
use Rattle.replies.specs.Promises.{outcome, step_of}
use Rattle.replies.proofs.ToldReader.step.Goals as goal

pub returns-then-not-good : goal.returns-then-not-good
unfolding step_of
returns-then-not-good c = simp (sym c.good.ensures ∙ not-true _ c.if-not-good.true-raw)

pub returns : goal.returns
unfolding step_of
returns c = simp (sym c.good.ensures ∙ not-false _ c.if-not-good.false-raw) (ap outcome c.word.ensures)
