-- The end of the input: ended, no first line, or whole.
use borrow.Author.Tests.{eq-eqb, ne_eqb}
use Rattle.listing.specs.Scanning.{end_of}
use Rattle.listing.proofs.Scanner.end.Goals as goal

pub returns-then-self : goal.returns-then-self
unfolding end_of
returns-then-self c = rw c.if-self.true c.at_line.ensures

pub returns-then-self-eq0 : goal.returns-then-self-eq0
unfolding end_of
returns-then-self-eq0 c = rw (c.if-self.false, eq-eqb _ _ c.if-self-eq0.true) c.at_line-then-self-eq0.ensures

pub returns : goal.returns
unfolding end_of
returns c = rw (c.if-self.false, ne_eqb _ _ c.if-self-eq0.false) c.at_line-2.ensures
