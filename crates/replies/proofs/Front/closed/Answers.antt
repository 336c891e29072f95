-- `closed`: by whether the report reader took a word.
use borrow.Author.Tests.{ne_eqb}
use Rattle.replies.specs.Fronts.{closed}
use Rattle.replies.proofs.Front.closed.Goals as goal

pub returns-then-taken-eq0 : goal.returns-then-taken-eq0
unfolding closed
returns-then-taken-eq0 c = rw c.if-taken-eq0.true

pub returns : goal.returns
unfolding closed
returns c = simp (ne_eqb _ 0 c.if-taken-eq0.false) (rw (c.or.ensures, c.broken.ensures, c.nothing.ensures) at c.at_front.ensures)
