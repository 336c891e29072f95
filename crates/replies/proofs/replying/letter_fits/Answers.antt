-- `letter_fits`: a format, and then a mode.
use borrow.Author.Tests.{ne_eqb}
use Rattle.replies.specs.Replying.{letter_fits}
use Rattle.replies.proofs.replying.letter_fits.Goals as goal

pub returns-then-place-eq0 : goal.returns-then-place-eq0
unfolding letter_fits
returns-then-place-eq0 c = rw c.if-place-eq0.true c.known.ensures

pub returns : goal.returns
unfolding letter_fits
returns c = simp (ne_eqb _ 0 c.if-place-eq0.false) c.is_mode.ensures
