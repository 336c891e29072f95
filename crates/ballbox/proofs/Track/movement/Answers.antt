-- `movement`: by the format.
use borrow.Author.Tests.{eq-eqb, ne_eqb}
use Rattle.ballbox.specs.Latching.{movement}
use Rattle.ballbox.proofs.Track.movement.Goals as goal

pub returns-then-letter-eq-FORMAT_A : goal.returns-then-letter-eq-FORMAT_A
unfolding movement
returns-then-letter-eq-FORMAT_A c = simp (eq-eqb _ _ c.if-letter-eq-FORMAT_A.true)

pub returns-else-letter-eq-FORMAT_A : goal.returns-else-letter-eq-FORMAT_A
unfolding movement
returns-else-letter-eq-FORMAT_A c = simp (ne_eqb _ _ c.if-letter-eq-FORMAT_A.false)
