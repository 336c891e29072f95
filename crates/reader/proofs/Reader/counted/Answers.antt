-- `counted`: a refusal, and each case of the answer.
use borrow.Author.Tests.{ne_eqb, le-leb, lt-leb}
use native.Mathlib.Omega.{arith}
use lib.ListN.{length}
use Rattle.reader.proofs.Numbered.{refuses}
use Rattle.reader.proofs.Reader.counted.Goals as goal

pub returns-in-Err : goal.returns-in-Err
returns-in-Err c = rw (c.reading.ensures, c.in-Err.is, ne_eqb _ _ (refuses c.in-Err.refusal))

pub returns-then-out-lt5 : goal.returns-then-out-lt5
returns-then-out-lt5 c = rw (c.reading-then-out-lt5.ensures, c.in-Ok.is, c.in-Report.is, lt-leb _ _ c.if-out-lt5.true)

pub returns-in-Nothing : goal.returns-in-Nothing
returns-in-Nothing c = rw (c.reading-in-Nothing.ensures, c.in-Ok.is, c.in-Nothing.is, le-leb 0 (length c.args.out.now) (omega arith))

pub returns-in-Dropped : goal.returns-in-Dropped
returns-in-Dropped c = rw (c.reading-in-Dropped.ensures, c.in-Ok.is, c.in-Dropped.is, le-leb 0 (length c.args.out.now) (omega arith))

pub returns-else-out-lt5 : goal.returns-else-out-lt5
returns-else-out-lt5 c = rw (c.reading-in-Report.ensures, c.put.ensures, c.in-Ok.is, c.in-Report.is, le-leb _ _ c.if-out-lt5.false)
