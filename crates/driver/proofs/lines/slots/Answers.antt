-- A number up to a bound, or none.
use mathlib.Core.Path.{sym}
use Rattle.driver.specs.declared.Order.TheVariants as order
use Rattle.driver.proofs.lines.slots.Goals as goal

pub returns-in-None : goal.returns-in-None
returns-in-None c = sym (c.in-None.ensures (λ n. order.Slots n))

pub returns-in-Some : goal.returns-in-Some
returns-in-Some c = sym (c.in-Some.ensures.1 (λ n. order.Slots n))
