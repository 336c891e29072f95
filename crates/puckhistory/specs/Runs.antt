-- A run of the device: a list of events, and the answers of the public step to them.
use Rattle.std.specs.Prelude.{ℕ, Bool, not, List, [], ◌∷◌, ◌++◌, eqb}
use Rattle.ballbox.specs.declared.Event.{Event}
use Rattle.ballbox.specs.declared.Stepped.{Stepped}
use Rattle.history.specs.Asked.{all_hosts}
use Rattle.puck.specs.Rules.{letter_t}
use Rattle.puck.specs.Promises.{stepped, sent_words, StepPromise, step_of}
use Rattle.puck.specs.declared.Puck.{Puck}
use Rattle.puck.specs.declared.PuckStepped.{PuckStepped}

-- any answers that the promise permits, each for the device before it and its event
unfoldable pub RunPromise : Puck → List Event → List PuckStepped → Type 0
RunPromise p [] [] = Unit
RunPromise p [] (a ∷ answers) = ⊥
RunPromise p (e ∷ events) [] = ⊥
RunPromise p (e ∷ events) (a ∷ answers) = StepPromise p e a × RunPromise a.next events answers

-- the words that they give, and the last device
abbrev pub words_given : List PuckStepped → List ℕ
words_given [] = []
words_given (a ∷ answers) = sent_words a ++ words_given answers

abbrev pub last_puck : Puck → List PuckStepped → Puck
last_puck p [] = p
last_puck p (a ∷ answers) = last_puck a.next answers

-- the device after a run, by the rules
abbrev pub next_puck : Puck → Event → Puck
next_puck p e = (step_of p e).next

unfoldable pub puck_after : Puck → List Event → Puck
puck_after p [] = p
puck_after p (e ∷ events) = puck_after (next_puck p e) events

-- the words of a run, by the rules
unfoldable pub puck_words : Puck → List Event → List ℕ
puck_words p [] = []
puck_words p (e ∷ events) = (step_of p e).words ++ puck_words (next_puck p e) events

-- the answers that the rules give: of a step, and of a run
unfoldable pub answer_to : Puck → Event → PuckStepped
answer_to p e = stepped (step_of p e)

unfoldable pub answers_to : Puck → List Event → List PuckStepped
answers_to p [] = []
answers_to p (e ∷ events) = answer_to p e ∷ answers_to (next_puck p e) events

-- an answer of the device, as its box gave it; and events of which none is T
abbrev pub as_box_answer : PuckStepped → Stepped
as_box_answer a = record { refusal = a.refusal; sent = a.sent; word = a.word; rest = a.rest; next = a.next.ball }

abbrev pub without_t : List Event → Bool
without_t events = all_hosts (λ byte. not (eqb byte letter_t)) events
