-- `has_moved`: by the format.
use borrow.Author.Tests.{eq-eqb, ne_eqb}
use Rattle.ballbox.specs.Motion.{has_moved}
use Rattle.ballbox.proofs.Track.has_moved.Goals as goal

pub returns-then-letter-eq-FORMAT_A : goal.returns-then-letter-eq-FORMAT_A
unfolding has_moved
returns-then-letter-eq-FORMAT_A c = simp (eq-eqb _ _ c.if-letter-eq-FORMAT_A.true) c.apart.ensures

pub returns-else-letter-eq-FORMAT_A : goal.returns-else-letter-eq-FORMAT_A
unfolding has_moved
returns-else-letter-eq-FORMAT_A c = simp (ne_eqb _ _ c.if-letter-eq-FORMAT_A.false) c.apart-else-letter-eq-FORMAT_A.ensures
