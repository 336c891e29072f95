-- `holds`: a kept byte, or 0.
use borrow.Author.Tests.{lt-ltb, le-ltb}
use Rattle.puckreader.proofs.good.holds.Goals as goal

pub returns-then-place-count : goal.returns-then-place-count
returns-then-place-count c = rw (lt-ltb _ _ c.if-place-count.true) c.fits_behind.ensures

pub returns : goal.returns
returns c = rw (le-ltb _ _ c.if-place-count.false)
