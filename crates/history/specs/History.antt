-- The history of a run: its passages and what is going at its end, told from the events and the box's own states, never from the words.
use Rattle.std.specs.Prelude.{ℕ, Bool, cond, ◌&&◌, List, [], ◌∷◌, eqb}
use Rattle.wire.specs.Line.{letter_of, named_by, of_named}
use Rattle.frames.specs.Passages.{Passage, UnderWay, nothing, first}
use Rattle.frames.specs.Sender.{Told, told, sent_one, broken_off, passages_over, going_over}
use Rattle.wire.specs.Messages.{Latched, Message, report, reply, message_bytes}
use Rattle.wire.specs.declared.Report.{Report}
use Rattle.wire.specs.declared.Format.{Format}
use Rattle.wire.specs.declared.Format.TheVariants.{FiveByte}
use Rattle.ballbox.specs.Box.{dormant}
use Rattle.ballbox.specs.Presses.{any_remembered}
use Rattle.ballbox.specs.Latching.{taken, latched_report}
use Rattle.ballbox.specs.Commands.{command_of, ack, reply_to}
use Rattle.ballbox.specs.Events.{wanted}
use Rattle.ballbox.specs.Promises.{above_seven, step_of}
use Rattle.ballbox.specs.declared.BallBox.{BallBox}
use Rattle.ballbox.specs.declared.Pair.{Pair}
use Rattle.ballbox.specs.declared.Event.{Event}
use Rattle.ballbox.specs.declared.Event.TheVariants.{Motion, Buttons, Host, Latch, Send, Period}

-- the format that is set
abbrev pub format_of : BallBox → Format
format_of b = of_named FiveByte (λ f. f) (named_by b.settings.format)

-- the report that is latched
abbrev pub latched_now : BallBox → Latched
latched_now b = record { format = format_of b; report = latched_report b; shows = any_remembered b.memory }

-- Latch: where nothing is going and a report is wanted, one is latched, and none of its bytes has gone
abbrev pub begun : BallBox → UnderWay Message → UnderWay Message
begun b nothing = cond (wanted b) (first 0 (report (latched_now b))) nothing
begun b (first n m) = first n m

-- a report of U with its second pair
abbrev pub with_pair : Pair → Report → Report
with_pair p r = record { buttons = r.buttons; x1 = r.x1; y1 = r.y1; x2 = p.x; y2 = p.y }

abbrev pub is_five : Format → Bool
is_five f = eqb (letter_of f) (letter_of FiveByte)

-- "U's second pair is still latched when byte 4 is sent."
abbrev pub paired_at : BallBox → ℕ → Message → Message
paired_at b n (report l) =
    cond (is_five l.format && eqb n 3)
    (report (record { format = l.format; report = with_pair (taken b.settings.format b.track) l.report; shows = l.shows }))
    (report l)
paired_at b n (reply bytes) = reply bytes

abbrev pub paired : BallBox → UnderWay Message → UnderWay Message
paired b nothing = nothing
paired b (first n m) = first n (paired_at b n m)

-- a reply of which no byte has gone; none where it has no bytes
abbrev pub unsent_reply : List ℕ → UnderWay Message
unsent_reply [] = nothing
unsent_reply (byte ∷ bytes) = first 0 (reply (byte ∷ bytes))

-- an event of a box that is awake, and of one that is dormant
abbrev pub when_awake : BallBox → Event → UnderWay Message → Told Message
when_awake b (Motion dx dy) g = told [] g
when_awake b (Buttons n) g = told [] g
when_awake b (Host byte) g = told (broken_off g) (unsent_reply (reply_to b (command_of byte)))
when_awake b Latch g = told [] (begun b g)
when_awake b Send g = sent_one message_bytes (paired b g)
when_awake b Period g = told [] g

abbrev pub when_asleep : BallBox → Event → UnderWay Message → Told Message
when_asleep b (Motion dx dy) g = told [] g
when_asleep b (Buttons n) g = told [] g
when_asleep b (Host byte) g = told [] (unsent_reply ack)
when_asleep b Latch g = told [] g
when_asleep b Send g = sent_one message_bytes g
when_asleep b Period g = told [] g

-- a refused event ends nothing and changes nothing
unfoldable pub told_by : BallBox → Event → UnderWay Message → Told Message
told_by b e g = cond (above_seven e) (told [] g) (cond (dormant b) (when_asleep b e g) (when_awake b e g))

-- over a list of events, from a box of which this is going: the passages, and what is going after them
abbrev pub next_box : BallBox → Event → BallBox
next_box b e = (step_of b e).next

abbrev pub passages_of : BallBox → UnderWay Message → List Event → List (Passage Message)
passages_of b g events = passages_over next_box told_by b g events

abbrev pub going_after : BallBox → UnderWay Message → List Event → UnderWay Message
going_after b g events = going_over next_box told_by b g events
