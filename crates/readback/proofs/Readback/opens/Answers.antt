-- A known width, or not.
use mathlib.Core.Path.{sym, ◌∙◌}
use native.Mathlib.Omega.{arith}
use borrow.Author.Tests.{not-true, not-false}
use Rattle.readback.proofs.Goodness.{known_few, as_number}
use Rattle.readback.proofs.Readback.opens.Goals as goal

pub returns-then-not-width_known : goal.returns-then-not-width_known
returns-then-not-width_known c = rw (sym c.width_known.ensures ∙ not-true _ c.if-not-width_known.true-raw)

pub overflow_cast-result : goal.overflow_cast-result
overflow_cast-result c = record { fits = omega (arith, known_few c.args.width (sym c.width_known.ensures ∙ not-false _ c.if-not-width_known.false-raw)) }

pub returns : goal.returns
returns c = rw (sym c.width_known.ensures ∙ not-false _ c.if-not-width_known.false-raw, c.from.ensures, as_number c.args.salvage)
