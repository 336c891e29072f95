-- `holds`: a byte that is valid in its place, or 0 where none is kept.
use borrow.Author.Tests.{lt-ltb, le-ltb}
use Rattle.reader.specs.Good.{placed}
use Rattle.reader.proofs.Reader.holds.Goals as goal

pub returns-then-place-self : goal.returns-then-place-self
unfolding placed
returns-then-place-self c = rw (← c.requires.0, lt-ltb _ _ c.if-place-self.true) c.fits.ensures

pub returns : goal.returns
unfolding placed
returns c = rw (le-ltb _ _ c.if-place-self.false)
