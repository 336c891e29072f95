-- No check that we make is ever refused: a fresh one is good, and every step of a good one gives a good one of the same format.
use Prim.Native.Nat.{ℕ}
use mathlib.Core.Path.{◌≡◌, refl, ◌∙◌}
use mathlib.Core.Bool.{true}
use Rattle.numbers.proofs.Choices.{cases}
use Rattle.wire.specs.Line.{letter_of, named_by, known}
use Rattle.wire.specs.declared.Format.TheVariants.{FiveByte}
use Rattle.yard.specs.Good.{good}
use Rattle.yard.specs.Rules.{one_more, word_of}
use Rattle.yard.specs.Promises.{fresh_of, step_of, FreshPromise, StepPromise}
use Rattle.yard.specs.declared.Yard.{Yard}
use Rattle.yard.specs.declared.NewYard.{NewYard}
use Rattle.yard.specs.declared.Judged.{Judged}
use Rattle.yard.proofs.Keeps.{by_word, none_good, word_good}

pub fresh_is_good : (letter : ℕ) (a : NewYard) → FreshPromise letter a → good a.yard ≡ true
unfolding fresh_of known named_by
fresh_is_good letter a p =
    rw p (cases (λ (n : NewYard). good n.yard ≡ true) (known letter) (none_good letter) (λ _. none_good (letter_of FiveByte) refl))

-- to a good check a step is the word
pub step_word : (y : Yard) (w : ℕ) → good y ≡ true → step_of y w ≡ word_of y w
unfolding step_of
step_word y w g = rw g

word_format : (y : Yard) (w : ℕ) → (word_of y w).next.format ≡ y.format
unfolding one_more
word_format y w = by_word (λ j. j.next.format ≡ y.format) y w (λ _. refl) (λ _. refl) (λ _. refl) (λ _ _ _. refl)

pub step_stays_good : (y : Yard) (w : ℕ) (a : Judged) → good y ≡ true → StepPromise y w a → (good a.next ≡ true) × (a.next.format ≡ y.format)
step_stays_good y w a g p = rw (p ∙ step_word y w g) (word_good y g w, word_format y w)
