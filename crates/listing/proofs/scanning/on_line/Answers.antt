-- What a line gives, by what it says and whether it is the first.
use borrow.Author.Tests.{eq-eqb, ne_eqb}
use Rattle.listing.proofs.scanning.on_line.Goals as goal

pub returns-in-Bad : goal.returns-in-Bad
returns-in-Bad c = rw c.in-Bad.is

pub returns-then-n-eq0 : goal.returns-then-n-eq0
returns-then-n-eq0 c = rw (c.in-Format.is, eq-eqb _ _ c.if-n-eq0.true)

pub returns-else-n-eq0 : goal.returns-else-n-eq0
returns-else-n-eq0 c = rw (c.in-Format.is, ne_eqb _ _ c.if-n-eq0.false)

pub returns-then-n-eq0-2 : goal.returns-then-n-eq0-2
returns-then-n-eq0-2 c = rw (c.in-Word.is, eq-eqb _ _ c.if-n-eq0-2.true)

pub returns-else-n-eq0-2 : goal.returns-else-n-eq0-2
returns-else-n-eq0-2 c = rw (c.in-Word.is, ne_eqb _ _ c.if-n-eq0-2.false)
