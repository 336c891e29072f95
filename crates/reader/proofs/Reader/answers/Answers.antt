-- `answers`: 6 for a reader that is not good, and then the line.
use mathlib.Core.Path.{sym, ◌∙◌}
use borrow.Author.Tests.{not-true, not-false}
use Rattle.fold.specs.Calls.{call}
use Rattle.reader.proofs.Reader.answers.Goals as goal

pub returns-then-not-good : goal.returns-then-not-good
unfolding call
returns-then-not-good c = rw (c.so_far.ensures, sym c.good.ensures ∙ not-true _ c.if-not-good.true-raw)

pub told-requires : goal.told-requires
told-requires c = sym c.good.ensures ∙ not-false _ c.if-not-good.false-raw

pub returns : goal.returns
unfolding call
returns c = rw (sym c.good.ensures ∙ not-false _ c.if-not-good.false-raw) c.told.ensures
