-- Refusals: 6 before 4, the old reader, no answer, counts of 0 and an unchanged slice; and 4 in a long read or a telling.
use Prim.Native.Nat.{ℕ, ◌<◌, ◌≤◌}
use mathlib.Core.Path.{◌≡◌, refl, ◌∙◌, ap}
use mathlib.Core.Bool.{true, false}
use mathlib.Core.Logic.{◌⊎◌, ⊎_elim}
use mathlib.Core.List.Memᴰ
use mathlib.Core.List.{List, ◌∷◌, ◌++◌}
use native.Mathlib.Omega.{arith}
use lib.ListN.{length, get_or}
use lib.IntN.{ℤ}
use borrow.Author.Tests.{lt-leb, ne_eqb}
use Rattle.fold.specs.Calls.{stopped, with_refusal, Refuses}
use Rattle.fold.proofs.Calls as calls
use Rattle.frames.specs.Words.{break, silence}
use Rattle.wire.specs.Line.{known, letter_of}
use Rattle.wire.specs.Numbers.{success, bad_state, bad_letter, bad_word, accepted, refusal}
use Rattle.wire.specs.declared.Format.TheVariants.{FiveByte}
use Rattle.reader.specs.State.{fresh, NewReader, Read}
use Rattle.reader.specs.Good.{good}
use Rattle.reader.specs.Rules.{refusing, word_of}
use Rattle.reader.specs.Line.{Reading, Long, whole, reading, reads_line}
use Rattle.reader.specs.Telling.{Answers, told, tells_line}
use Rattle.reader.specs.Promises.{FreshPromise, StepPromise, ReadPromise, AnswersPromise, FreshRefusal, StepRefusal, ReadRefusal, AnswersRefusal, new_reader, fresh_of, step_of}
use Rattle.reader.specs.declared.Reader.{Reader}
use Rattle.numbers.proofs.Choices.{cases}
use Rattle.reader.proofs.Word.{word_number}
use Rattle.reader.proofs.Counted.{lawful, told_lawful}
use Rattle.reader.proofs.Permitted.{step_is}
use Rattle.reader.proofs.Goodness.{step_word}

-- "(1 for a new reader: a fresh one of U)"
pub unknown_letter : (letter : ℕ) (a : NewReader) → known letter ≡ false → FreshPromise letter a → a ≡ new_reader bad_letter (fresh (letter_of FiveByte))
unfolding fresh_of
unknown_letter letter a k e = rw (e, k)

-- 6: whatever the word
pub bad_state_lem : (r : Reader) (w : ℕ) (s : Read) → good r ≡ false → StepPromise r w s → s ≡ refusing bad_state r
unfolding step_of
bad_state_lem r w s g e = rw (step_is r w s e, g)

pub bad_state_read : (r : Reader) (words : List ℕ) (out : List ℤ) (a : Reading) (after : List ℤ) → good r ≡ false → ReadPromise r words out a after → whole a after ≡ stopped reads_line bad_state r out
bad_state_read r words out a after g e = calls.bad_state_lem reads_line lawful r words out e g

pub bad_state_answers : (r : Reader) (words : List ℕ) (out : List ℤ) (a : Answers) (after : List ℤ) → good r ≡ false → AnswersPromise r words out a after → told a after ≡ stopped tells_line bad_state r out
bad_state_answers r words out a after g e = calls.bad_state_lem tells_line told_lawful r words out e g

-- 4: a line word above 257, to a good reader
pub above : (r : Reader) (w : ℕ) → silence < w → word_of r w ≡ refusing bad_word r
unfolding word_of
above r w h =
    simp
    (lt-leb w 255 (omega arith), ne_eqb w break (λ e. omega arith), ne_eqb w silence (λ e. omega arith))

pub bad_word_lem : (r : Reader) (w : ℕ) (s : Read) → good r ≡ true → silence < w → StepPromise r w s → s ≡ refusing bad_word r
bad_word_lem r w s g h e = step_is r w s e ∙ step_word r w g ∙ above r w h

-- and no other: a good reader takes every line word
pub word_taken : (r : Reader) (w : ℕ) → w ≤ silence → (word_of r w).refusal ≡ success
word_taken r w h = ⊎_elim (λ z. z) (λ b. absurd (omega (arith, b.1))) (word_number r w)

pub takes_line_words : (r : Reader) (w : ℕ) (s : Read) → good r ≡ true → w ≤ silence → StepPromise r w s → s.refusal ≡ success
takes_line_words r w s g h e = rw (step_is r w s e ∙ step_word r w g) (word_taken r w h)

-- 4 just for a word above 257, whatever the answers write
pub refuses : Refuses reads_line bad_word silence
refuses = record { some = λ z. omega (arith, z); either = λ r w g. word_number r w; above = λ r w g h. ap (λ (s : Read). s.refusal) (above r w h) }

pub told_refuses : Refuses tells_line bad_word silence
told_refuses = record { some = refuses.some; either = refuses.either; above = refuses.above }

pub bad_word_read : (r : Reader) (p q : List ℕ) (w : ℕ) (out : List ℤ) (a b : Reading) (x y : List ℤ)
    → good r ≡ true
    → silence < w
    → ReadPromise r p out b y
    → b.taken ≡ length p
    → ReadPromise r (p ++ w ∷ q) out a x
    → whole a x ≡ with_refusal bad_word (whole b y)
bad_word_read r p q w out a b x y = calls.bad_word_lem reads_line lawful refuses r p q w out

-- of a good reader it ends with 0, or with 4 before a word above 257
pub read_ends : (r : Reader) (words : List ℕ) (out : List ℤ) (a : Reading) (after : List ℤ) → good r ≡ true → ReadPromise r words out a after
    → (a.refusal ≡ success) ⊎ ((a.refusal ≡ bad_word) × (silence < get_or words a.taken 0))
read_ends r words out a after g e = calls.ends reads_line lawful refuses r words out e g

pub answers_end : (r : Reader) (words : List ℕ) (out : List ℤ) (a : Answers) (after : List ℤ) → good r ≡ true → AnswersPromise r words out a after
    → (a.refusal ≡ success) ⊎ ((a.refusal ≡ bad_word) × (silence < get_or words a.taken 0))
answers_end r words out a after g e = calls.ends tells_line told_lawful told_refuses r words out e g

-- every answer is a success, or a refusal with a number from the list and what it leaves
pub fresh_refusals : (letter : ℕ) (a : NewReader) → FreshPromise letter a → FreshRefusal a
unfolding fresh_of
fresh_refusals letter a e = rw e (cases FreshRefusal (known letter) (λ _. accepted refl) (λ _. refusal (Memᴰ.head refl)))

pub step_refusals : (r : Reader) (w : ℕ) (s : Read) → StepPromise r w s → StepRefusal r s
unfolding step_of
step_refusals r w s e =
    rw (step_is r w s e)
    (cases (StepRefusal r) (good r) (λ _. ⊎_elim accepted (λ b. refusal (Memᴰ.tail (Memᴰ.head (above r w b.1)))) (word_number r w))
    (λ _. refusal (Memᴰ.head refl)))

pub read_refusals : (r : Reader) (words : List ℕ) (out : List ℤ) (a : Reading) (after : List ℤ) → ReadPromise r words out a after → ReadRefusal r words out a after
read_refusals r words out a after e = calls.outcomes reads_line lawful refuses r words out e accepted (λ x. refusal (Memᴰ.head x)) (λ x. refusal (Memᴰ.tail (Memᴰ.head x)))

pub answers_refusals : (r : Reader) (words : List ℕ) (out : List ℤ) (a : Answers) (after : List ℤ) → AnswersPromise r words out a after → AnswersRefusal r words out a after
answers_refusals r words out a after e =
    calls.outcomes tells_line told_lawful told_refuses r words out e accepted (λ x. refusal (Memᴰ.head x)) (λ x. refusal (Memᴰ.tail (Memᴰ.head x)))

-- "a bad word behind a stop for room is not reached": where words are left, what follows them changes nothing
pub not_reached : (r : Reader) (p q : List ℕ) (out : List ℤ) (a b : Reading) (x y : List ℤ)
    → ReadPromise r p out b y
    → b.taken < length p
    → ReadPromise r (p ++ q) out a x
    → (a ≡ b) × (x ≡ y)
not_reached r p q out a b x y f t e =
    let i = calls.not_reached reads_line lawful r p q out f t e in
    (ap reading i, ap (λ (l : Long). l.out) i)
