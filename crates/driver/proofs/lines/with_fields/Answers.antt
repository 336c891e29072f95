-- A letter, and its own fields.
use borrow.Author.Tests.{ne_eqb}
use Rattle.driver.specs.Lines.{with_fields}
use Rattle.driver.proofs.lines.with_fields.Goals as goal

pub returns-in-70 : goal.returns-in-70
unfolding with_fields
returns-in-70 c = rw c.in-70.is c.format.ensures

pub returns-in-77 : goal.returns-in-77
unfolding with_fields
returns-in-77 c = rw c.in-77.is c.motion.ensures

pub returns-in-78 : goal.returns-in-78
unfolding with_fields
returns-in-78 c = rw c.in-78.is c.buttons.ensures

pub returns-in-67 : goal.returns-in-67
unfolding with_fields
returns-in-67 c = rw c.in-67.is c.host.ensures

pub returns-in-83 : goal.returns-in-83
unfolding with_fields
returns-in-83 c = rw c.in-83.is c.slots.ensures

pub returns-in_default : goal.returns-in_default
unfolding with_fields
returns-in_default c = rw (ne_eqb _ _ c.in_default.in_default-own.rest.0.0.0.0.1, ne_eqb _ _ c.in_default.in_default-own.rest.0.0.0.1, ne_eqb _ _ c.in_default.in_default-own.rest.0.0.1, ne_eqb _ _ c.in_default.in_default-own.rest.0.1, ne_eqb _ _ c.in_default.in_default-own.rest.1)
