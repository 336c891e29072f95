-- A letter that is this one, or another.
use borrow.Author.Tests.{eq-eqb, ne_eqb}
use Rattle.readback.proofs.fields.counts.Goals as goal

pub returns-then-b-letter : goal.returns-then-b-letter
returns-then-b-letter c = rw (eq-eqb _ _ c.if-b-letter.true)

pub returns-else-b-letter : goal.returns-else-b-letter
returns-else-b-letter c = rw (ne_eqb _ _ c.if-b-letter.false)
