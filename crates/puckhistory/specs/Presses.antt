-- Presses in a run of the device: what is asked of its events, and what its reports show.
use Rattle.std.specs.Prelude.{ℕ, Bool, not, ◌||◌, List, [], ◌∷◌, eqb}
use Rattle.frames.specs.Passages.{Passage, silent, finished, broken}
use Rattle.wire.specs.Messages.{Message}
use Rattle.ballbox.specs.Box.{mode_d}
use Rattle.ballbox.specs.Commands.{letter_p}
use Rattle.ballbox.specs.declared.Event.{Event}
use Rattle.history.specs.Asked.{all_hosts}
use Rattle.history.specs.Presses.{shown_in}
use Rattle.vsxxx.specs.Reports.{PuckReport, movement, self_test, PuckMessage, of_box_lem, of_test}
use Rattle.puck.specs.Rules.{letter_t}

-- any byte of the host's but D, P and T
abbrev pub leaves : ℕ → Bool
leaves byte = not (eqb byte mode_d || eqb byte letter_p || eqb byte letter_t)

abbrev pub all_leave : List Event → Bool
all_leave events = all_hosts leaves events

-- the states that finished reports of a device showed
abbrev pub shown_in_puck : PuckMessage → List ℕ
shown_in_puck (of_box_lem m) = shown_in m
shown_in_puck (of_test t) = []

-- the passages of its box: those that are no self-test
abbrev pub of_box : List (Passage PuckMessage) → List (Passage Message)
of_box [] = []
of_box (silent ∷ passages) = silent ∷ of_box passages
of_box (finished (of_box_lem m) ∷ passages) = finished m ∷ of_box passages
of_box (finished (of_test t) ∷ passages) = of_box passages
of_box (broken n (of_box_lem m) ∷ passages) = broken n m ∷ of_box passages
of_box (broken n (of_test t) ∷ passages) = of_box passages

-- the buttons of a report that is handed out
abbrev pub buttons_in : PuckReport → ℕ
buttons_in (movement r) = r.buttons
buttons_in (self_test t) = t.buttons
