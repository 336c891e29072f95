-- No reader that we make is ever refused: a fresh one is good, and every step and read of a good one gives a good one.
use Prim.Native.Nat.{ℕ}
use mathlib.Core.Path.{◌≡◌, ◌∙◌}
use mathlib.Core.Bool.{true}
use mathlib.Core.List.{List}
use lib.IntN.{ℤ}
use Rattle.fold.proofs.Calls as calls
use Rattle.puckreader.specs.State.{PuckRead}
use Rattle.puckreader.specs.Good.{good}
use Rattle.puckreader.specs.Rules.{word_of}
use Rattle.puckreader.specs.Line.{PuckReading, reads_line}
use Rattle.puckreader.specs.Promises.{FreshPromise, StepPromise, ReadPromise, step_of}
use Rattle.puckreader.specs.declared.PuckReader.{PuckReader}
use Rattle.puckreader.proofs.Kept.{none, held_good}
use Rattle.puckreader.proofs.Word.{word_good}
use Rattle.puckreader.proofs.Counting.{lawful}
use Rattle.puckreader.proofs.Permitted.{step_is}

-- to a good reader a step is the word
pub step_word : (r : PuckReader) (w : ℕ) → good r ≡ true → step_of r w ≡ word_of r w
unfolding step_of
step_word r w g = rw g

pub fresh_is_good : (r : PuckReader) → FreshPromise r → good r ≡ true
fresh_is_good r e = rw e (held_good _ none)

pub step_stays_good : (r : PuckReader) (w : ℕ) (s : PuckRead) → good r ≡ true → StepPromise r w s → good s.next ≡ true
step_stays_good r w s g e = rw (step_is r w s e ∙ step_word r w g) (word_good r g w)

pub read_stays_good : (r : PuckReader) (words : List ℕ) (out : List ℤ) (a : PuckReading) (after : List ℤ) → good r ≡ true → ReadPromise r words out a after → good a.next ≡ true
read_stays_good r words out a after g e = calls.stays_good reads_line lawful r words out e g
