-- A run: a list of events, and the answers of the public step to them.
use Rattle.std.specs.Prelude.{ℕ, List, [], ◌∷◌, ◌++◌}
use Rattle.ballbox.specs.Promises.{stepped, sent_words, step_of, StepPromise}
use Rattle.ballbox.specs.declared.BallBox.{BallBox}
use Rattle.ballbox.specs.declared.Event.{Event}
use Rattle.ballbox.specs.declared.Stepped.{Stepped}

-- any answers that the promise permits, each for the box before it and its event
unfoldable pub RunPromise : BallBox → List Event → List Stepped → Type 0
RunPromise b [] [] = Unit
RunPromise b [] (a ∷ answers) = ⊥
RunPromise b (e ∷ events) [] = ⊥
RunPromise b (e ∷ events) (a ∷ answers) = StepPromise b e a × RunPromise a.next events answers

-- the words that they give
abbrev pub words_given : List Stepped → List ℕ
words_given [] = []
words_given (a ∷ answers) = sent_words a ++ words_given answers

-- the answers that the rules give: of a step, and of a run
unfoldable pub answer_to : BallBox → Event → Stepped
answer_to b e = stepped (step_of b e)

unfoldable pub answers_to : BallBox → List Event → List Stepped
answers_to b [] = []
answers_to b (e ∷ events) = answer_to b e ∷ answers_to (step_of b e).next events
