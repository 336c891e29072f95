-- Whether a line is unfinished.
use borrow.Author.Tests.{eq-eqb, ne_eqb}
use Rattle.listing.specs.Scanning.{closed_of}
use Rattle.listing.proofs.Scanner.closed.Goals as goal

pub returns-then-self-eq0 : goal.returns-then-self-eq0
unfolding closed_of
returns-then-self-eq0 c = rw (eq-eqb _ _ c.if-self-eq0.true)

pub returns : goal.returns
unfolding closed_of
returns c = rw (ne_eqb _ _ c.if-self-eq0.false) (rw c.says.ensures at c.taken.ensures)
