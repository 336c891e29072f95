-- `shows_rightly`: the size is the wire's.
use borrow.Author.Tests.{eq-eqb, ne_eqb}
use Rattle.ballbox.proofs.Memory.shows_rightly.Goals as goal

pub returns-then-self-ne1 : goal.returns-then-self-ne1
returns-then-self-ne1 c = simp (ne_eqb _ _ c.if-self-ne1.true)

pub returns : goal.returns
returns c = simp (eq-eqb _ _ c.if-self-ne1.false, c.size.ensures, c.any.ensures)
