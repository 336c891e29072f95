-- An end that is one, or is not.
use mathlib.Core.Path.{sym, ◌∙◌}
use native.Mathlib.Omega.{arith}
use borrow.Author.Tests.{not-true, not-false}
use Rattle.readback.specs.Promises.{finish_of}
use Rattle.readback.proofs.Goodness.{few_lines}
use Rattle.readback.proofs.Readback.finish.Goals as goal

pub returns-then-not-good : goal.returns-then-not-good
unfolding finish_of
returns-then-not-good c = rw (sym c.good.ensures ∙ not-true _ c.if-not-good.true-raw) c.back.ensures

pub returns-then-self-left : goal.returns-then-self-left
unfolding finish_of
returns-then-self-left c = rw (sym c.good.ensures ∙ not-false _ c.if-not-good.false-raw, c.if-self-left.true) c.back-then-self-left.ensures

pub overflow_add-self : goal.overflow_add-self
overflow_add-self c = record { fits = omega (arith, few_lines c.args.self (sym c.good.ensures ∙ not-false _ c.if-not-good.false-raw)) }

pub returns : goal.returns
unfolding finish_of
returns c = rw (sym c.good.ensures ∙ not-false _ c.if-not-good.false-raw, c.if-self-left.false) c.back-2.ensures
