-- `kind_of`: 2, or 1.
use borrow.Author.Tests.{le-leb, lt-leb}
use Rattle.puckreader.proofs.line.kind_of.Goals as goal

pub returns-then-error-ge-FATAL : goal.returns-then-error-ge-FATAL
returns-then-error-ge-FATAL c = rw (le-leb 0x20 _ c.if-error-ge-FATAL.true)

pub returns-else-error-ge-FATAL : goal.returns-else-error-ge-FATAL
returns-else-error-ge-FATAL c = rw (lt-leb 0x20 _ c.if-error-ge-FATAL.false)
