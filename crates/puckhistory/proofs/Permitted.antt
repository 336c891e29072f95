-- The answers that the rules give are permitted: a run of them is a run of the device.
use mathlib.Core.Path.{refl}
use mathlib.Core.List.{List, [], ◌∷◌}
use Rattle.ballbox.specs.declared.Event.{Event}
use Rattle.puck.specs.Promises.{StepPromise}
use Rattle.puck.specs.declared.Puck.{Puck}
use Rattle.puckhistory.specs.Runs.{RunPromise, next_puck, answer_to, answers_to}

answer_permitted : (p : Puck) (e : Event) → StepPromise p e (answer_to p e)
unfolding answer_to
answer_permitted p e = refl

pub answers_permitted : (p : Puck) (events : List Event) → RunPromise p events (answers_to p events)
unfolding answers_to answer_to RunPromise
answers_permitted p [] = tt
answers_permitted p (e ∷ events) = (answer_permitted p e, answers_permitted (next_puck p e) events)
