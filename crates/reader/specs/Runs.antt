-- Steps, one after the other: the answers over a list of words.
use Rattle.std.specs.Prelude.{ℕ, Bool, false, ◌||◌, List, [], ◌∷◌, map, eqb}
use Rattle.frames.specs.Words.{silence}
use Rattle.reader.specs.Promises.{StepPromise, step_of}
use Rattle.reader.specs.declared.Reader.{Reader}
use Rattle.reader.specs.State.{Read}
use Rattle.reader.specs.declared.Answer.{Answer}

-- the steps of a reader over words
unfoldable pub steps_of : Reader → List ℕ → List Read
steps_of r [] = []
steps_of r (w ∷ words) = step_of r w ∷ steps_of (step_of r w).next words

-- any steps that the promise permits: each starts with the reader that came back from the one before
unfoldable pub StepsPromise : Reader → List ℕ → List Read → Type 0
StepsPromise r [] [] = Unit
StepsPromise r [] (s ∷ steps) = ⊥
StepsPromise r (w ∷ words) [] = ⊥
StepsPromise r (w ∷ words) (s ∷ steps) = StepPromise r w s × StepsPromise s.next words steps

-- their answers, and the reader that comes back from the last
abbrev pub answers : List Read → List Answer
answers steps = map (λ (s : Read). s.answer) steps

abbrev pub reader_after : Reader → List Read → Reader
reader_after r [] = r
reader_after r (s ∷ steps) = reader_after s.next steps

-- whether a silence is among words
unfoldable pub has_silence : List ℕ → Bool
has_silence [] = false
has_silence (w ∷ words) = eqb w silence || has_silence words
