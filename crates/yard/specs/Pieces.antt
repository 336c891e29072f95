-- Steps, one after the other: a log that comes in pieces, a word at a time.
use Rattle.std.specs.Prelude.{ℕ, ◌+◌, List, [], ◌∷◌}
use Rattle.yard.specs.Promises.{StepPromise}
use Rattle.yard.specs.declared.Yard.{Yard}
use Rattle.yard.specs.declared.Judged.{Judged}

-- any steps that the promise permits: each starts with the check that came back from the one before
unfoldable pub StepsPromise : Yard → List ℕ → List Judged → Type 0
StepsPromise y [] [] = Unit
StepsPromise y [] (s ∷ steps) = ⊥
StepsPromise y (w ∷ words) [] = ⊥
StepsPromise y (w ∷ words) (s ∷ steps) = StepPromise y w s × StepsPromise s.next words steps

-- how many of their words can be sent
unfoldable pub can_count : List Judged → ℕ
can_count [] = 0
can_count (s ∷ steps) = s.can + can_count steps
