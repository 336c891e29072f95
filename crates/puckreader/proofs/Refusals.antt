-- The refusals, in their order: 6 and then 4; and a long read that does all before the bad word.
use Prim.Native.Nat.{ℕ, ◌<◌}
use mathlib.Core.Path.{◌≡◌, refl, ◌∙◌}
use mathlib.Core.Bool.{true, false}
use mathlib.Core.List.Memᴰ.{head as here}
use mathlib.Core.List.Memᴰ.{tail as there}
use mathlib.Core.List.{List}
use mathlib.Core.Logic.{◌⊎◌, inl, inr}
use native.Mathlib.Omega.{arith}
use lib.ListN.{get_or}
use lib.Dec.{leb}
use lib.IntN.{ℤ}
use borrow.Author.Tests.{lt-leb}
use Rattle.numbers.proofs.Choices.{cases}
use Rattle.frames.specs.Words.{silence}
use Rattle.fold.specs.Calls.{stopped, Refuses}
use Rattle.fold.proofs.Calls as calls
use Rattle.wire.specs.Numbers.{success, bad_state, bad_word, accepted, refusal}
use Rattle.puckreader.specs.State.{PuckRead}
use Rattle.puckreader.specs.Rules.{refusing, word_of}
use Rattle.puckreader.specs.Good.{good}
use Rattle.puckreader.specs.Line.{PuckReading, reads_line, whole}
use Rattle.puckreader.specs.Promises.{StepPromise, StepRefusal, ReadPromise, ReadRefusal, before_bad, step_of}
use Rattle.puckreader.specs.declared.PuckReader.{PuckReader}
use Rattle.puckreader.proofs.Counting.{lawful}
use Rattle.puckreader.proofs.Word.{by_rules}
use Rattle.puckreader.proofs.Permitted.{step_is}
use Rattle.puckreader.proofs.Goodness.{step_word}

pub bad_state_lem : (r : PuckReader) (w : ℕ) (s : PuckRead) → good r ≡ false → StepPromise r w s → s ≡ refusing bad_state r
unfolding step_of
bad_state_lem r w s g e = step_is r w s e ∙ rw g

pub bad_word_lem : (r : PuckReader) (w : ℕ) (s : PuckRead) → good r ≡ true → silence < w → StepPromise r w s → s ≡ refusing bad_word r
unfolding word_of
bad_word_lem r w s g l e = step_is r w s e ∙ step_word r w g ∙ rw (lt-leb w silence l)

-- a word is refused exactly where it is above 257
word_above : (r : PuckReader) (w : ℕ) → silence < w → (word_of r w).refusal ≡ bad_word
unfolding word_of
word_above r w l = rw (lt-leb w silence l)

word_number : (r : PuckReader) (w : ℕ) → ((word_of r w).refusal ≡ success) ⊎ (((word_of r w).refusal ≡ bad_word) × (silence < w))
word_number r w = by_rules (λ (s : PuckRead). (s.refusal ≡ success) ⊎ ((s.refusal ≡ bad_word) × (silence < w))) r w (λ _ _. inl refl) (λ _ _. inl refl) (λ _. inl refl) (λ _. inl refl) (λ l. inr (refl, l))

pub step_refusals : (r : PuckReader) (w : ℕ) (s : PuckRead) → StepPromise r w s → StepRefusal r s
unfolding step_of word_of
step_refusals r w s e =
    rw (step_is r w s e)
    (cases (StepRefusal r) (good r) (λ _. cases (StepRefusal r) (leb w silence) (λ _. accepted refl) (λ _. refusal (there (here refl)))) (λ _. refusal (here refl)))

-- 4 just for a word above 257
pub refuses : Refuses reads_line bad_word silence
refuses =
    record {
      some = λ z. omega (arith, z);
      either = λ r w g. word_number r w;
      above = λ r w g h. word_above r w h;
    }

-- a long read
pub bad_state_read : (r : PuckReader) (words : List ℕ) (out : List ℤ) (a : PuckReading) (after : List ℤ) → good r ≡ false → ReadPromise r words out a after → whole a after ≡ stopped reads_line bad_state r out
bad_state_read r words out a after g e = calls.bad_state_lem reads_line lawful r words out e g

-- it ends with 0, or with 4 before a word above 257
pub read_ends : (r : PuckReader) (words : List ℕ) (out : List ℤ) (a : PuckReading) (after : List ℤ) → good r ≡ true → ReadPromise r words out a after
    → (a.refusal ≡ success) ⊎ ((a.refusal ≡ bad_word) × (silence < get_or words a.taken 0))
read_ends r words out a after g e = calls.ends reads_line lawful refuses r words out e g

-- 4 leaves all as the words before the bad one do
pub before_bad_lem : (r : PuckReader) (words : List ℕ) (out : List ℤ) (a : PuckReading) (after : List ℤ) → good r ≡ true → ReadPromise r words out a after → a.refusal ≡ bad_word
    → whole a after ≡ before_bad r words out a
before_bad_lem r words out a after g e = calls.before_bad_lem reads_line lawful refuses r words out e g

pub read_refusals : (r : PuckReader) (words : List ℕ) (out : List ℤ) (a : PuckReading) (after : List ℤ) → ReadPromise r words out a after → ReadRefusal r words out a after
read_refusals r words out a after e = calls.outcomes reads_line lawful refuses r words out e accepted (λ x. refusal (here x)) (λ x. refusal (there (here x)))
