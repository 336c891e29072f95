-- `holds_first`: a kept byte, or 0.
use borrow.Author.Tests.{lt-ltb, le-ltb}
use Rattle.puckreader.proofs.good.holds_first.Goals as goal

pub returns-then-count-gt0 : goal.returns-then-count-gt0
returns-then-count-gt0 c = rw (lt-ltb 0 _ c.if-count-gt0.true) c.fits_start.ensures

pub returns : goal.returns
returns c = rw (le-ltb 0 _ c.if-count-gt0.false)
