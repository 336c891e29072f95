-- The word, if any.
use borrow.Author.Tests.{eq-eqb, ne_eqb}
use Rattle.driver.proofs.driving.given.Goals as goal

pub returns-then-sent-eq1 : goal.returns-then-sent-eq1
returns-then-sent-eq1 c = rw (eq-eqb _ _ c.if-sent-eq1.true)

pub returns-else-sent-eq1 : goal.returns-else-sent-eq1
returns-else-sent-eq1 c = rw (ne_eqb _ _ c.if-sent-eq1.false)
