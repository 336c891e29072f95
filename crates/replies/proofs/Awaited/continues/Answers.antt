-- `continues`: a byte that fits.
use borrow.Author.Tests.{le-leb, lt-leb}
use Rattle.replies.proofs.Awaited.continues.Goals as goal

pub returns-then-word-le255 : goal.returns-then-word-le255
returns-then-word-le255 c = simp (le-leb _ _ c.if-word-le255.true) c.takes.ensures

pub returns : goal.returns
returns c = simp (lt-leb _ _ c.if-word-le255.false)
