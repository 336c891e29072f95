-- The whole account of a move, of a device: every count that its ball made, axis by axis, in a report, in the device,
-- or in a loss that has a name. The parts are those of the box's account; "cleared by T" takes the place of "cleared by
-- format commands".
use Rattle.std.specs.Prelude.{Bool, false, not, cond, ◌&&◌, List, [], ◌∷◌, ◌++◌, eqb, ℤ, pos}
use Rattle.frames.specs.Passages.{Passage, UnderWay}
use Rattle.ballbox.specs.Excesses.{thrown}
use Rattle.ballbox.specs.declared.Event.{Event}
use Rattle.ballbox.specs.declared.Event.TheVariants.{Motion, Buttons, Host, Latch, Send, Period}
use Rattle.history.specs.Sums.{Kind, Axis, excess_of}
use Rattle.history.specs.Account as box
use Rattle.history.specs.Account.{added_over, values_finished, value_going, values_broken}
use Rattle.vsxxx.specs.Reports.{PuckMessage, of_box_lem, of_test}
use Rattle.puck.specs.Device.{testing}
use Rattle.puck.specs.Rules.{letter_t, as_box}
use Rattle.puck.specs.declared.Puck.{Puck}
use Rattle.puckhistory.specs.Runs.{next_puck}

-- what the events of a run come to, added up; a device is always awake
abbrev pub over : (Puck → Event → ℤ) → Puck → List Event → ℤ
over part p events = added_over next_puck part p events

-- "The motion fed while awake", in a self-test too
abbrev pub fed_by : Axis → Puck → Event → ℤ
fed_by a p e = box.fed_by a p.ball e

-- the movement of what it sends; a self-test has none
abbrev pub value_in : Axis → PuckMessage → ℤ
value_in a (of_box_lem m) = box.value_in a m
value_in a (of_test t) = pos 0

-- "values in finished reports"
abbrev pub in_finished : Axis → List (Passage PuckMessage) → ℤ
in_finished a passages = values_finished (value_in a) passages

-- "what is latched in the report now going"
abbrev pub in_going : Axis → UnderWay PuckMessage → ℤ
in_going a g = value_going (value_in a) g

-- "the counter"
abbrev pub in_counter : Axis → Puck → ℤ
in_counter a p = box.in_counter a p.ball

-- "excess over the report limit", "excess over the 16-bit counter": of a Latch that latches and of a Motion, as in the box
abbrev pub excess_by : Kind → Axis → Puck → Event → ℤ
excess_by k a p e = excess_of k a (thrown p.ball (as_box e))

-- "what was latched in broken-off reports"
abbrev pub in_broken : Axis → List (Passage PuckMessage) → ℤ
in_broken a passages = values_broken (value_in a) passages

-- T, which is obeyed but in a self-test
abbrev pub is_t : Puck → Event → Bool
is_t p (Motion dx dy) = false
is_t p (Buttons n) = false
is_t p (Host byte) = not (testing p) && eqb byte letter_t
is_t p Latch = false
is_t p Send = false
is_t p Period = false

-- "cleared by T"
abbrev pub cleared_by : Axis → Puck → Event → ℤ
cleared_by a p e = cond (is_t p e) (in_counter a p) (pos 0)

-- "the excesses since the last T or the making": those so far and behind them the step's own; T begins anew
abbrev pub thrown_then : Kind → Axis → List ℤ → Puck → Event → List ℤ
thrown_then k a sofar p e = cond (is_t p e) [] (sofar ++ (excess_by k a p e ∷ []))

unfoldable pub thrown_since : Kind → Axis → List ℤ → Puck → List Event → List ℤ
thrown_since k a sofar p [] = sofar
thrown_since k a sofar p (e ∷ events) = thrown_since k a (thrown_then k a sofar p e) (next_puck p e) events
