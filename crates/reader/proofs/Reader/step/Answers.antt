-- `step`: a reader that is not good is refused, and then the word.
use mathlib.Core.Path.{ap, sym, ◌∙◌}
use borrow.Author.Tests.{not-true, not-false}
use Rattle.reader.specs.Promises.{outcome, step_of}
use Rattle.reader.proofs.Reader.step.Goals as goal

pub returns-then-not-good : goal.returns-then-not-good
unfolding step_of
returns-then-not-good c = simp (sym c.good.ensures ∙ not-true _ c.if-not-good.true-raw)

pub heard-requires : goal.heard-requires
heard-requires c = sym c.good.ensures ∙ not-false _ c.if-not-good.false-raw

pub returns : goal.returns
unfolding step_of
returns c = simp (sym c.good.ensures ∙ not-false _ c.if-not-good.false-raw) (ap outcome c.heard.ensures)
