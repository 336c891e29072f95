-- The answers that the rules give are permitted: a run of them is a run of the box.
use mathlib.Core.Path.{refl}
use mathlib.Core.List.{List, [], ◌∷◌}
use Rattle.ballbox.specs.Promises.{step_of, StepPromise}
use Rattle.ballbox.specs.declared.BallBox.{BallBox}
use Rattle.ballbox.specs.declared.Event.{Event}
use Rattle.history.specs.Runs.{RunPromise, answer_to, answers_to}

pub answer_permitted : (b : BallBox) (e : Event) → StepPromise b e (answer_to b e)
unfolding answer_to
answer_permitted b e = refl

pub answers_permitted : (b : BallBox) (events : List Event) → RunPromise b events (answers_to b events)
unfolding answers_to answer_to RunPromise
answers_permitted b [] = tt
answers_permitted b (e ∷ events) = (answer_permitted b e, answers_permitted (step_of b e).next events)
