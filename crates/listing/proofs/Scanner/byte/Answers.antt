-- A newline, a sixth byte, or a byte more.
use borrow.Author.Tests.{eq-eqb, ne_eqb, le-leb, lt-leb}
use Rattle.listing.specs.Scanning.{scanned_byte}
use Rattle.listing.proofs.Scanner.byte.Goals as goal

pub returns-then-b-eq10 : goal.returns-then-b-eq10
unfolding scanned_byte
returns-then-b-eq10 c = rw (eq-eqb _ _ c.if-b-eq10.true) (rw c.says.ensures at c.taken.ensures)

pub returns-then-n-ge5 : goal.returns-then-n-ge5
unfolding scanned_byte
returns-then-n-ge5 c = rw (ne_eqb _ _ c.if-b-eq10.false, le-leb _ _ c.if-n-ge5.true) c.taken-then-n-ge5.ensures

pub returns : goal.returns
unfolding scanned_byte
returns c = rw (ne_eqb _ _ c.if-b-eq10.false, lt-leb _ _ c.if-n-ge5.false)
