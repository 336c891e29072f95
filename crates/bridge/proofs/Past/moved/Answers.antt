-- By the letter.
use borrow.Author.Tests.{eq-eqb, ne_eqb}
use Rattle.bridge.specs.Remembered.{movement}
use Rattle.bridge.proofs.Past.moved.Goals as goal

pub returns-then-letter-eq-FORMAT_A : goal.returns-then-letter-eq-FORMAT_A
unfolding movement
returns-then-letter-eq-FORMAT_A c = rw (eq-eqb _ _ c.if-letter-eq-FORMAT_A.true) c.since.ensures

pub returns : goal.returns
unfolding movement
returns c = rw (ne_eqb _ _ c.if-letter-eq-FORMAT_A.false) c.summed.ensures
