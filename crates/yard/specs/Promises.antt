-- What is promised of `Yard::fresh`, `Yard::step` and `check`. "Tested in that order, where they apply; 0 is success."
use Rattle.std.specs.Prelude.{ℕ, ◌≡◌, cond, List, [], ◌∷◌}
use Rattle.wire.specs.Line.{letter_of, known}
use Rattle.wire.specs.Numbers.{success, bad_state, bad_letter, bad_word, RefusesRightly}
use Rattle.wire.specs.declared.Format.TheVariants.{FiveByte}
use Rattle.yard.specs.State.{none_gone}
use Rattle.yard.specs.Good.{good}
use Rattle.yard.specs.Rules.{refusing, word_of}
use Rattle.yard.specs.Log.{refused, checked_of}
use Rattle.yard.specs.declared.Yard.{Yard}
use Rattle.yard.specs.declared.NewYard.{NewYard}
use Rattle.yard.specs.declared.Judged.{Judged}
use Rattle.yard.specs.declared.Checked.{Checked}

-- "a format letter not in the table", 1, with a check of U, as for a new reader
abbrev pub new_yard : ℕ → Yard → NewYard
new_yard n y = record { refusal = n; yard = y }

unfoldable pub fresh_of : ℕ → NewYard
fresh_of letter = cond (known letter) (new_yard success (none_gone letter)) (new_yard bad_letter (none_gone (letter_of FiveByte)))

abbrev pub FreshPromise : ℕ → NewYard → Type 0
FreshPromise letter answer = answer ≡ fresh_of letter

abbrev pub FreshRefusal : NewYard → Type 0
FreshRefusal answer = RefusesRightly (λ (n : NewYard). n.refusal) (new_yard bad_letter (none_gone (letter_of FiveByte)) ∷ []) answer

-- "a state that breaks the rules", 6, before "a line word above 257", 4
unfoldable pub step_of : Yard → ℕ → Judged
step_of y w = cond (good y) (word_of y w) (refusing bad_state y)

abbrev pub StepPromise : Yard → ℕ → Judged → Type 0
StepPromise y w answer = answer ≡ step_of y w

abbrev pub StepRefusal : Yard → Judged → Type 0
StepRefusal y answer = RefusesRightly (λ (j : Judged). j.refusal) (refusing bad_state y ∷ refusing bad_word y ∷ []) answer

-- `check(letter, words)`: 1 before 4
unfoldable pub check_of : ℕ → List ℕ → Checked
check_of letter words = cond (known letter) (checked_of (none_gone letter) words) (refused bad_letter)

abbrev pub CheckPromise : ℕ → List ℕ → Checked → Type 0
CheckPromise letter words answer = answer ≡ check_of letter words

abbrev pub CheckRefusal : Checked → Type 0
CheckRefusal answer = RefusesRightly (λ (c : Checked). c.refusal) (refused bad_letter ∷ refused bad_word ∷ []) answer
