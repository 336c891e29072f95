-- `step`: 6, and then the word.
use mathlib.Core.Path.{◌∙◌, sym, ap}
use borrow.Author.Tests.{not-true, not-false}
use Rattle.puckreader.specs.Promises.{outcome, step_of}
use Rattle.puckreader.proofs.PuckReader.step.Goals as goal

pub returns-then-not-good : goal.returns-then-not-good
unfolding step_of
returns-then-not-good c = rw (sym c.good.ensures ∙ not-true _ c.if-not-good.true-raw)

pub word-requires : goal.word-requires
word-requires c = sym c.good.ensures ∙ not-false _ c.if-not-good.false-raw

pub returns : goal.returns
unfolding step_of
returns c = ap outcome c.word.ensures ∙ rw (sym c.good.ensures ∙ not-false _ c.if-not-good.false-raw)
