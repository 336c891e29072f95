-- The six events, awake and dormant.
use Rattle.std.specs.Prelude.{ℕ, ◌+◌, ◌≡◌, Bool, true, false, not, cond, ◌&&◌, ◌||◌, List, [], ◌∷◌, eqb, ltb, ℤ}
use Rattle.frames.specs.Words.{break, silence}
use Rattle.wire.specs.Line.{letter_of}
use Rattle.wire.specs.Numbers.{success}
use Rattle.wire.specs.Reading.{at}
use Rattle.wire.specs.declared.Format.TheVariants.{FiveByte}
use Rattle.ballbox.specs.Box.{mode_o, nothing, with_buttons, with_track, with_going, with_memory, with_due, with_dormant, over_counter, Step, dormant, due}
use Rattle.ballbox.specs.Presses.{any_remembered, remembering, shown, hidden}
use Rattle.ballbox.specs.Motion.{counted_over, moved_by, has_moved}
use Rattle.ballbox.specs.Latching.{latched, second_latched}
use Rattle.ballbox.specs.Commands.{is_timed, is_stream, command_of, obeyed, replying, ack}
use Rattle.ballbox.specs.declared.Going.{Going}
use Rattle.ballbox.specs.declared.Memory.{Memory}
use Rattle.ballbox.specs.declared.BallBox.{BallBox}
use Rattle.ballbox.specs.declared.Event.{Event}
use Rattle.ballbox.specs.declared.Event.TheVariants.{Motion, Buttons, Host, Latch, Send, Period}

-- the box and the words that a step gives
abbrev pub gives : List ℕ → BallBox → Step
gives words b = record { refusal = success; next = b; words = words }

-- "the other steps give none"
abbrev pub quietly : BallBox → Step
quietly b = gives [] b

abbrev pub moved : BallBox → Bool
moved b = has_moved b.settings.format b.track

-- Motion: "Each counter takes the sum", and the position
abbrev pub on_motion : ℤ → ℤ → BallBox → BallBox
on_motion dx dy b = over_counter (counted_over b.track.counter dx dy) (with_track (moved_by dx dy b.track) b)

-- Buttons: "A change is kept"; "In stream modes the box shall remember button states", "prompt mode remembers nothing"; "Buttons no longer
-- sets due itself"
unfoldable pub on_buttons : ℕ → BallBox → BallBox
on_buttons n b =
    cond (eqb n b.settings.buttons) b
    (with_buttons n (with_memory (cond (is_stream b.settings.mode) (remembering n b.memory) b.memory) b))

-- Period: "In modes J K L R M Q N, if moved, a report is due."
unfoldable pub on_period : BallBox → BallBox
on_period b = with_due (due b || (is_timed b.settings.mode && moved b)) b

-- "bytes are left"
abbrev pub bytes_left : BallBox → Bool
bytes_left b = ltb b.going.sent b.going.length

-- "a report is due, or mode is O and the box has moved"; "While any state is remembered a report counts as due"
abbrev pub wanted : BallBox → Bool
wanted b = due b || any_remembered b.memory || (eqb b.settings.mode mode_o && moved b)

-- Latch: "which does the latching when nothing is going and sends no word"
unfoldable pub latching : BallBox → BallBox
latching b = cond (not (bytes_left b) && wanted b) (latched b) b

-- "U's second pair is still latched when byte 4 is sent."
abbrev pub second_now : BallBox → Bool
second_now b = eqb b.settings.format (letter_of FiveByte) && eqb b.going.sent 3

unfoldable pub with_byte_ready : BallBox → BallBox
with_byte_ready b = cond (second_now b) (second_latched b) b

-- "the next goes out; after the last, nothing is going"
abbrev pub more_behind : Going → Bool
more_behind g = ltb (g.sent + 1) g.length

unfoldable pub after : Going → Going
after g = cond (more_behind g) (record { length = g.length; sent = g.sent + 1; bytes = g.bytes }) nothing

-- "until the report's last byte has gone"
unfoldable pub memory_after : Going → Memory → Memory
memory_after g m = cond (more_behind g) m (shown m)

unfoldable pub next_byte : BallBox → Step
next_byte b =
    gives (at b.going.sent b.going.bytes ∷ [])
    (with_memory (memory_after b.going b.memory) (with_going (after b.going) b))

-- Send: "which sends the next byte, or 257 when nothing is going"
unfoldable pub sending : BallBox → Step
sending b = cond (bytes_left b) (next_byte (with_byte_ready b)) (gives (silence ∷ []) b)

-- Host: "if bytes are left, 256 goes out and they are dropped. Then the byte is obeyed."; the state that they showed "keeps its place"
unfoldable pub dropped : BallBox → BallBox
dropped b = cond (bytes_left b) (with_memory (hidden b.memory) (with_going nothing b)) b

abbrev pub broken_off : BallBox → List ℕ
broken_off b = cond (bytes_left b) (break ∷ []) []

unfoldable pub on_host : ℕ → BallBox → Step
on_host byte b = gives (broken_off b) (obeyed (command_of byte) (dropped b))

-- "If dormant: the box wakes, the byte is not interpreted, ACK (06H) is to be sent."
unfoldable pub woken : BallBox → BallBox
woken b = replying ack (with_dormant false b)

-- an event of a box that is awake
unfoldable pub awake : BallBox → Event → Step
awake b (Motion dx dy) = quietly (on_motion dx dy b)
awake b (Buttons n) = quietly (on_buttons n b)
awake b (Host byte) = on_host byte b
awake b Latch = quietly (latching b)
awake b Send = sending b
awake b Period = quietly (on_period b)

-- "Dormant: Motion, Buttons and Period do nothing" and Send "gives 257"; "Dormant, Latch does nothing."
unfoldable pub asleep : BallBox → Event → Step
asleep b (Motion dx dy) = quietly b
asleep b (Buttons n) = quietly b
asleep b (Host byte) = quietly (woken b)
asleep b Latch = quietly b
asleep b Send = gives (silence ∷ []) b
asleep b Period = quietly b

-- "Only" Send, "and Host when it breaks off, give a word; the other steps give none."
abbrev pub Speaks : BallBox → Event → Type 0
Speaks b (Motion dx dy) = ⊥
Speaks b (Buttons n) = ⊥
Speaks b (Host n) = (dormant b ≡ false) × (bytes_left b ≡ true)
Speaks b Latch = ⊥
Speaks b Send = Unit {0}
Speaks b Period = ⊥
