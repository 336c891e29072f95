-- `tell`: 6, and then 12.
use mathlib.Core.Path.{sym, ◌∙◌}
use borrow.Author.Tests.{not-true, not-false}
use Rattle.replies.specs.Promises.{tell_of}
use Rattle.replies.proofs.ToldReader.tell.Goals as goal

pub returns-then-not-good : goal.returns-then-not-good
unfolding tell_of
returns-then-not-good c = simp (sym c.good.ensures ∙ not-true _ c.if-not-good.true-raw)

pub returns-in_default : goal.returns-in_default
unfolding tell_of
returns-in_default c = simp (sym c.good.ensures ∙ not-false _ c.if-not-good.false-raw, sym c.in_default.ensures)

pub returns : goal.returns
unfolding tell_of
returns c = simp (sym c.good.ensures ∙ not-false _ c.if-not-good.false-raw, sym c.in-Some.ensures) (rw c.awaiting.ensures)
