-- `holds`: by whether a byte has come to the place.
use borrow.Author.Tests.{lt-ltb, le-ltb}
use Rattle.replies.specs.Replying.{placed}
use Rattle.replies.proofs.Awaited.holds.Goals as goal

pub returns-then-place-self : goal.returns-then-place-self
unfolding placed
returns-then-place-self c = simp (lt-ltb _ _ c.if-place-self.true) c.fits.ensures

pub returns : goal.returns
unfolding placed
returns c = simp (le-ltb _ _ c.if-place-self.false)
