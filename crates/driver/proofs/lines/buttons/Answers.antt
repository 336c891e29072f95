-- A number up to a bound, or none.
use native.Mathlib.Omega.{arith}
use mathlib.Core.Path.{sym}
use Rattle.ballbox.specs.declared.Event.TheVariants.{Buttons}
use Rattle.driver.specs.declared.Order.TheVariants as order
use Rattle.driver.proofs.lines.buttons.Goals as goal

pub returns-in-None : goal.returns-in-None
returns-in-None c = sym (c.in-None.ensures (λ n. order.Single (Buttons n)))

pub overflow_cast-result : goal.overflow_cast-result
overflow_cast-result c = record { fits = omega (arith, c.in-Some.ensures.0) }

pub returns-in-Some : goal.returns-in-Some
returns-in-Some c = sym (c.in-Some.ensures.1 (λ n. order.Single (Buttons n)))
