-- Steps, one after the other: the answers over a list of words.
use Rattle.std.specs.Prelude.{ℕ, List, [], ◌∷◌, map}
use Rattle.puckreader.specs.State.{PuckRead}
use Rattle.puckreader.specs.Promises.{StepPromise}
use Rattle.puckreader.specs.declared.PuckReader.{PuckReader}
use Rattle.puckreader.specs.declared.PuckAnswer.{PuckAnswer}

-- any steps that the promise permits: each starts with the reader that came back from the one before
unfoldable pub StepsPromise : PuckReader → List ℕ → List PuckRead → Type 0
StepsPromise r [] [] = Unit
StepsPromise r [] (s ∷ steps) = ⊥
StepsPromise r (w ∷ words) [] = ⊥
StepsPromise r (w ∷ words) (s ∷ steps) = StepPromise r w s × StepsPromise s.next words steps

-- their answers, and the reader that comes back from the last
abbrev pub answers : List PuckRead → List PuckAnswer
answers steps = map (λ (s : PuckRead). s.answer) steps

abbrev pub reader_after : PuckReader → List PuckRead → PuckReader
reader_after r [] = r
reader_after r (s ∷ steps) = reader_after s.next steps
