-- Six, or another.
use borrow.Author.Tests.{eq-eqb, ne_eqb}
use Rattle.readback.proofs.rewriting.other_width.Goals as goal

pub returns-then-width-eq6 : goal.returns-then-width-eq6
returns-then-width-eq6 c = rw (eq-eqb _ _ c.if-width-eq6.true)

pub returns-else-width-eq6 : goal.returns-else-width-eq6
returns-else-width-eq6 c = rw (ne_eqb _ _ c.if-width-eq6.false)
