-- The public functions give one answer: two that the promise permits are equal.
use Prim.Native.Nat.{ℕ}
use mathlib.Core.Path.{◌≡◌, sym, ◌∙◌}
use mathlib.Core.List.{List}
use Rattle.yard.specs.Promises.{FreshPromise, StepPromise, CheckPromise}
use Rattle.yard.specs.declared.Yard.{Yard}
use Rattle.yard.specs.declared.NewYard.{NewYard}
use Rattle.yard.specs.declared.Judged.{Judged}
use Rattle.yard.specs.declared.Checked.{Checked}

pub one_fresh : (letter : ℕ) (a b : NewYard) → FreshPromise letter a → FreshPromise letter b → a ≡ b
one_fresh letter a b p q = p ∙ sym q

pub one_step : (y : Yard) (w : ℕ) (a b : Judged) → StepPromise y w a → StepPromise y w b → a ≡ b
one_step y w a b p q = p ∙ sym q

pub one_check : (letter : ℕ) (words : List ℕ) (a b : Checked) → CheckPromise letter words a → CheckPromise letter words b → a ≡ b
one_check letter words a b p q = p ∙ sym q
