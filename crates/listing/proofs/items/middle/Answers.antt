-- The middle button, by the letter.
use borrow.Author.Tests.{eq-eqb, ne_eqb}
use Rattle.numbers.specs.Bits.{bit}
use Rattle.listing.proofs.items.middle.Goals as goal

pub returns-then-letter-eq86 : goal.returns-then-letter-eq86
unfolding bit
returns-then-letter-eq86 c = rw (eq-eqb _ _ c.if-letter-eq86.true)

pub returns-then-buttons-eq1 : goal.returns-then-buttons-eq1
unfolding bit
returns-then-buttons-eq1 c = rw (ne_eqb _ _ c.if-letter-eq86.false, eq-eqb _ _ c.if-buttons-eq1.true)

pub returns-else-buttons-eq1 : goal.returns-else-buttons-eq1
unfolding bit
returns-else-buttons-eq1 c = rw (ne_eqb _ _ c.if-letter-eq86.false, ne_eqb _ _ c.if-buttons-eq1.false)
