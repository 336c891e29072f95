-- The driver, fed in pieces: a tick is a byte of the input, a slot that is owed, or the end; it stops before a tick whose text has no room.
use Rattle.std.specs.Prelude.{ℕ, zero, suc, ◌+◌, ◌-◌, ◌<◌, ◌≤◌, ◌≡◌, Bool, true, false, cond, ◌&&◌, List, [], ◌∷◌, ◌++◌, map, length, take, drop, set, replicate, leb, eqb}
use Rattle.fold.specs.Fold.{Machine, Ran, written, run}
use Rattle.text.specs.Growth.{capacity, text_of}
use Rattle.text.specs.declared.Text.{Text}
use Rattle.listing.specs.Lines.{newline}
use Rattle.listing.specs.Scanning.{most_lines}
use Rattle.ballbox.specs.Good as ball
use Rattle.ballbox.specs.Box.{fresh_box}
use Rattle.ballbox.specs.declared.BallBox.{BallBox}
use Rattle.driver.specs.Lines.{said_by}
use Rattle.driver.specs.Recorded.{all_lines}
use Rattle.driver.specs.Driving.{Leaves, slot, line_done, end_done}
use Rattle.driver.specs.declared.Record.{Record}
use Rattle.driver.specs.declared.Record.TheVariants.{Word}
use Rattle.driver.specs.declared.Order.{Order}
use Rattle.driver.specs.declared.Order.TheVariants as order
use Rattle.driver.specs.declared.Driver.{Driver}
use Rattle.driver.specs.declared.Turn.{Turn}
use Rattle.driver.specs.declared.Tick.{Tick}

-- the most bytes of a good line: `M`, and -32768 twice, each behind a tab
abbrev pub longest : ℕ
longest = 15

-- a driver at the start of a line, behind n others
abbrev pub at_line : ℕ → Bool → ℕ → BallBox → Driver
at_line n ended owed b = record { line = n; ended = ended; held = replicate longest 0; count = 0; owed = owed; ball = b }

-- the driver that was fed nothing yet
abbrev pub fresh : Driver
fresh = at_line 0 false 0 fresh_box

-- a driver, and the text that it writes
pub record Turning : Type 0 where
  pub next : Driver
  pub text : List ℕ

abbrev pub turning : Driver → List Record → Turning
turning m records = record { next = m; text = all_lines records }

-- the bytes of the unfinished line
abbrev pub unfinished : Driver → List ℕ
unfinished m = take m.count m.held

-- the slots that a line owes, and what it does besides
abbrev pub owed_by : Order → ℕ
owed_by (order.Slots k) = k
owed_by order.Bad = 0
owed_by (order.Format f) = 0
owed_by (order.Single e) = 0

abbrev pub besides : Order → Order
besides (order.Slots k) = order.Slots 0
besides order.Bad = order.Bad
besides (order.Format f) = order.Format f
besides (order.Single e) = order.Single e

-- a line has passed, or it was the last, which owes nothing
abbrev pub passing : ℕ → ℕ → Leaves → Turning
passing n owed d = turning (at_line (cond d.ends n (n + 1)) d.ends (cond d.ends 0 owed) d.next) d.records

-- a whole line: nothing is done after the end
unfoldable pub taken_of : Driver → Order → Turning
taken_of m o =
    cond m.ended (turning (at_line m.line true m.owed m.ball) [])
    (passing m.line (owed_by o) (line_done m.line m.ball (besides o)))

-- what the functions give: a text that holds so many bytes at most, and a turn whose text is held
abbrev pub Holds : ℕ → Text → List ℕ → Type 0
Holds most t bytes = (t ≡ text_of bytes) × (length bytes ≤ most)

abbrev pub turned : Turning → Turn
turned t = record { next = t.next; text = text_of t.text }

abbrev pub Turned : Turn → Turning → Type 0
Turned r t = (r ≡ turned t) × (length t.text ≤ capacity)

-- a byte more of the unfinished line
abbrev pub more : Driver → ℕ → Turning
more m c =
    turning (record { line = m.line; ended = m.ended; held = set m.held m.count c; count = m.count + 1; owed = m.owed; ball = m.ball }) []

-- a newline ends the line, and a sixteenth byte that is none makes it bad at once
unfoldable pub byte_of : Driver → ℕ → Turning
byte_of m c =
    cond (eqb c newline) (taken_of m (said_by (unfinished m)))
    (cond (leb longest m.count) (taken_of m order.Bad)
    (more m c))

-- a slot that is owed
unfoldable pub slot_of : Driver → Turning
slot_of m =
    record {
      next = record { line = m.line; ended = m.ended; held = m.held; count = m.count; owed = m.owed - 1; ball = (slot m.ball).next };
      text = all_lines (map Word (slot m.ball).words);
    }

-- the end of the input
unfoldable pub end_of : Driver → Turning
end_of m = turning (at_line m.line true m.owed m.ball) (cond m.ended [] (end_done m.line))

-- ticks: a byte is itself
abbrev pub slot_tick : ℕ
slot_tick = 256

abbrev pub end_tick : ℕ
end_tick = 257

unfoldable pub tick_of : Driver → ℕ → Turning
tick_of m t = cond (eqb t slot_tick) (slot_of m) (cond (eqb t end_tick) (end_of m) (byte_of m t))

-- the driver as a machine over ticks: a tick's answer is the text that it writes
abbrev pub drives : Machine Driver (List ℕ) ℕ
drives = record { refusal = λ m t. 0; next = λ m t. (tick_of m t).next; answer = λ m t. (tick_of m t).text; writes = λ text. text }

-- the ticks of an input: before each byte, and behind the last, the slots that are owed by then
abbrev pub slots_then : ℕ → Driver → (Driver → List ℕ) → List ℕ
slots_then zero m rest = rest m
slots_then (suc k) m rest = slot_tick ∷ slots_then k (slot_of m).next rest

unfoldable pub ticks_from : List ℕ → Driver → List ℕ
ticks_from [] m = slots_then m.owed m (λ p. [])
ticks_from (c ∷ cs) m = slots_then m.owed m (λ p. c ∷ ticks_from cs (tick_of p c).next)

-- how many of them are of the input itself
abbrev pub input_among : List ℕ → ℕ
input_among [] = 0
input_among (t ∷ ts) = cond (eqb t slot_tick) (input_among ts) (suc (input_among ts))

-- a slot or a byte is still to come: a slot is owed, or a line of fifteen bytes at most goes on
abbrev pub Due : Driver → List ℕ → Type 0
Due m input = (m.count ≤ longest) × ((m.owed ≡ 0) → 0 < length input)

-- the tick that is next: how many bytes of the piece it takes, what it does, and the ticks behind it
pub record Ticks (m : Driver) (input : List ℕ) (t : Tick) : Type 0 where
  pub tick : ℕ
  pub turns : Turned t.turn (tick_of m tick)
  pub takes : t.taken ≡ input_among (tick ∷ [])
  pub few : t.taken ≤ length input
  pub first : ticks_from input m ≡ tick ∷ ticks_from (drop t.taken input) (tick_of m tick).next

-- a piece of the input: the driver after it, the bytes taken and the text
pub record Feed : Type 0 where
  pub next : Driver
  pub taken : ℕ
  pub text : List ℕ

abbrev pub fed_by : List ℕ → Ran Driver (List ℕ) → Feed
fed_by ticks f = record { next = f.next; taken = input_among (take (length f.answers) ticks); text = written drives f.answers }

unfoldable pub feed_in : Driver → List ℕ → ℕ → Feed
feed_in m input room = fed_by (ticks_from input m) (run drives m (ticks_from input m) room)

-- the end of the input, behind a last line that may lack its newline
abbrev pub lacking : Driver → List ℕ
lacking m = cond (eqb m.count 0) [] (newline ∷ [])

abbrev pub closing : Driver → List ℕ
closing m = lacking m ++ end_tick ∷ []

-- a good driver: no line too many, a line of fifteen bytes at most, no more slots than a line may ask for, and a good box
unfoldable pub good : Driver → Bool
good m = leb m.line most_lines && leb m.count longest && leb m.owed most_lines && ball.good m.ball
