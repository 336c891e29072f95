-- Refusals: 6 before 4, and 1 before 4; the old check, and counts of 0; a word above 257 anywhere in a log.
use Prim.Native.Nat.{ℕ, ◌<◌, ◌≤◌}
use mathlib.Core.Path.{◌≡◌, refl, sym, ◌∙◌}
use mathlib.Core.Bool.{true, false, and-false}
use mathlib.Core.List.Memᴰ
use mathlib.Core.List.{List, ◌++◌, ◌∷◌, []}
use lib.Dec.{leb}
use borrow.Author.Tests.{lt-leb, le-leb}
use Rattle.numbers.proofs.Choices.{cases}
use Rattle.numbers.proofs.Tested.{holds}
use Rattle.frames.specs.Words.{silence, line_words}
use Rattle.wire.specs.Line.{known, letter_of}
use Rattle.wire.specs.Numbers.{success, bad_state, bad_letter, bad_word, accepted, refusal}
use Rattle.wire.specs.declared.Format.TheVariants.{FiveByte}
use Rattle.yard.specs.State.{none_gone}
use Rattle.yard.specs.Good.{good}
use Rattle.yard.specs.Rules.{refusing, word_of}
use Rattle.yard.specs.Log.{refused, checked_of}
use Rattle.yard.specs.Promises.{new_yard, fresh_of, step_of, check_of, FreshPromise, StepPromise, CheckPromise, FreshRefusal, StepRefusal, CheckRefusal}
use Rattle.yard.specs.declared.Yard.{Yard}
use Rattle.yard.specs.declared.NewYard.{NewYard}
use Rattle.yard.specs.declared.Judged.{Judged}
use Rattle.yard.specs.declared.Checked.{Checked}
use Rattle.yard.proofs.Keeps.{by_word}
use Rattle.yard.proofs.Goodness.{step_word}

-- 1: a letter that is not in the table
pub unknown_letter : (letter : ℕ) (a : NewYard) → known letter ≡ false → FreshPromise letter a → a ≡ new_yard bad_letter (none_gone (letter_of FiveByte))
unfolding fresh_of
unknown_letter letter a k p = rw (p, k)

pub unknown_check : (letter : ℕ) (words : List ℕ) (a : Checked) → known letter ≡ false → CheckPromise letter words a → a ≡ refused bad_letter
unfolding check_of
unknown_check letter words a k p = rw (p, k)

-- 6: whatever the word
pub bad_state_lem : (y : Yard) (w : ℕ) (a : Judged) → good y ≡ false → StepPromise y w a → a ≡ refusing bad_state y
unfolding step_of
bad_state_lem y w a g p = rw (p, g)

-- 4: a word above 257, to a good check; and to it no other word is refused
above : (y : Yard) (w : ℕ) → silence < w → word_of y w ≡ refusing bad_word y
unfolding word_of
above y w h = rw (lt-leb w silence h)

pub bad_word_lem : (y : Yard) (w : ℕ) (a : Judged) → good y ≡ true → silence < w → StepPromise y w a → a ≡ refusing bad_word y
bad_word_lem y w a g h p = p ∙ step_word y w g ∙ above y w h

pub takes_line_words : (y : Yard) (w : ℕ) (a : Judged) → good y ≡ true → w ≤ silence → StepPromise y w a → a.refusal ≡ success
takes_line_words y w a g h p =
    rw (p ∙ step_word y w g)
    (by_word (λ j. j.refusal ≡ success) y w (λ b. absurd (holds (sym b ∙ le-leb w silence h))) (λ _. refl) (λ _. refl) (λ _ _ _. refl))

-- "A word above 257 anywhere is refusal 4", before and behind any others
not_line : (front : List ℕ) (w : ℕ) (behind : List ℕ) → silence < w → line_words (front ++ w ∷ behind) ≡ false
unfolding line_words
not_line [] w behind h = rw (lt-leb w silence h)
not_line (v ∷ front) w behind h = rw (not_line front w behind h, and-false (leb v silence))

pub anywhere : (letter : ℕ) (front : List ℕ) (w : ℕ) (behind : List ℕ) (a : Checked) → known letter ≡ true → silence < w → CheckPromise letter (front ++ w ∷ behind) a → a ≡ refused bad_word
unfolding check_of checked_of
anywhere letter front w behind a k h p = rw (p, k, not_line front w behind h)

-- and where there is none the log is judged
pub judged : (letter : ℕ) (words : List ℕ) (a : Checked) → known letter ≡ true → line_words words ≡ true → CheckPromise letter words a → a.refusal ≡ success
unfolding check_of checked_of
judged letter words a k l p = rw (p, k, l)

-- each has its number, and what it hands back
pub fresh_refusal : (letter : ℕ) (a : NewYard) → FreshPromise letter a → FreshRefusal a
unfolding fresh_of
fresh_refusal letter a p = rw p (cases FreshRefusal (known letter) (λ _. accepted refl) (λ _. refusal (Memᴰ.head refl)))

pub step_refusal : (y : Yard) (w : ℕ) (a : Judged) → StepPromise y w a → StepRefusal y a
unfolding step_of
step_refusal y w a p =
    rw p
    (cases (StepRefusal y) (good y)
    (λ _. by_word (StepRefusal y) y w (λ _. refusal (Memᴰ.tail (Memᴰ.head refl))) (λ _. accepted refl) (λ _. accepted refl) (λ _ _ _. accepted refl))
    (λ _. refusal (Memᴰ.head refl)))

pub check_refusal : (letter : ℕ) (words : List ℕ) (a : Checked) → CheckPromise letter words a → CheckRefusal a
unfolding check_of checked_of
check_refusal letter words a p =
    rw p
    (cases CheckRefusal (known letter)
    (λ _. cases CheckRefusal (line_words words) (λ _. accepted refl) (λ _. refusal (Memᴰ.tail (Memᴰ.head refl))))
    (λ _. refusal (Memᴰ.head refl)))
