-- The history of a run of the device: its passages and what is going at its end, told from the events and the device's
-- own states, never from the words. Out of a self-test it is the box's history.
use Rattle.std.specs.Prelude.{ℕ, cond, List, [], eqb}
use Rattle.frames.specs.Passages.{Passage, UnderWay, nothing, first}
use Rattle.frames.specs.Sender.{Told, told, sent_one, broken_off, passages_over, going_over}
use Rattle.frames.specs.Retold.{told_as}
use Rattle.wire.specs.Messages.{Message}
use Rattle.ballbox.specs.declared.Event.{Event}
use Rattle.ballbox.specs.declared.Event.TheVariants.{Motion, Buttons, Host, Latch, Send, Period}
use Rattle.history.specs.History as box
use Rattle.vsxxx.specs.Reports.{PuckMessage, of_box_lem, of_test, puck_bytes}
use Rattle.puck.specs.Device.{testing, test_of}
use Rattle.puck.specs.Rules.{letter_t, as_box}
use Rattle.puck.specs.declared.Puck.{Puck}
use Rattle.puckhistory.specs.Runs.{next_puck}

-- of what is under way, what the box has going: nothing while a self-test is
abbrev pub in_box : UnderWay PuckMessage → UnderWay Message
in_box nothing = nothing
in_box (first n (of_box_lem m)) = first n m
in_box (first n (of_test t)) = nothing

-- what an event ends, and what is under way then: as the box tells it
unfoldable pub box_tells : Puck → Event → UnderWay PuckMessage → Told PuckMessage
box_tells p e g = told_as of_box_lem (box.told_by p.ball (as_box e) (in_box g))

-- T breaks off what is going, and a self-test is under way of which no byte has gone
unfoldable pub test_tells : Puck → UnderWay PuckMessage → Told PuckMessage
test_tells p g = told (broken_off g) (first 0 (of_test (test_of p.revision p.maker p.ball.settings.buttons)))

abbrev pub tells_out : Puck → Event → UnderWay PuckMessage → Told PuckMessage
tells_out p (Motion dx dy) g = box_tells p (Motion dx dy) g
tells_out p (Buttons n) g = box_tells p (Buttons n) g
tells_out p (Host byte) g = cond (eqb byte letter_t) (test_tells p g) (box_tells p (Host byte) g)
tells_out p Latch g = box_tells p Latch g
tells_out p Send g = box_tells p Send g
tells_out p Period g = box_tells p Period g

-- in a self-test only Send does anything to the line
abbrev pub tells_in : Puck → Event → UnderWay PuckMessage → Told PuckMessage
tells_in p (Motion dx dy) g = told [] g
tells_in p (Buttons n) g = told [] g
tells_in p (Host byte) g = told [] g
tells_in p Latch g = told [] g
tells_in p Send g = sent_one puck_bytes g
tells_in p Period g = told [] g

unfoldable pub told_by : Puck → Event → UnderWay PuckMessage → Told PuckMessage
told_by p e g = cond (testing p) (tells_in p e g) (tells_out p e g)

-- over a list of events, from a device of which this is going: the passages, and what is going after them
abbrev pub passages_of : Puck → UnderWay PuckMessage → List Event → List (Passage PuckMessage)
passages_of p g events = passages_over next_puck told_by p g events

abbrev pub going_after : Puck → UnderWay PuckMessage → List Event → UnderWay PuckMessage
going_after p g events = going_over next_puck told_by p g events

-- "Power-up [..] start[s] a self-test": it is under way when the device is made, and none of its bytes has gone
abbrev pub at_power_up : ℕ → ℕ → ℕ → UnderWay PuckMessage
at_power_up buttons revision maker = first 0 (of_test (test_of revision maker buttons))
