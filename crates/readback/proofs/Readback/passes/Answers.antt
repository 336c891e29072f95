-- A number above the last, or not.
use mathlib.Core.Path.{sym, ◌∙◌}
use native.Mathlib.Omega.{arith}
use borrow.Author.Tests.{not-true, not-false}
use Rattle.readback.proofs.Goodness.{few_lines, as_number}
use Rattle.readback.proofs.Readback.passes.Goals as goal

pub returns-then-not-above : goal.returns-then-not-above
returns-then-not-above c = rw (sym c.above.ensures ∙ not-true _ c.if-not-above.true-raw)

pub returns : goal.returns
returns c =
    rw (
      sym c.above.ensures ∙ not-false _ c.if-not-above.false-raw,
      c.last_behind.ensures,
      c.from.ensures,
      as_number c.closes.result,
      c.closes.ensures,
    )

pub overflow_add-result : goal.overflow_add-result
overflow_add-result c = record { fits = omega (arith, few_lines c.args.self c.requires) }
