-- What lines of events do to a box, and what is recorded of them.
use Rattle.std.specs.Prelude.{ℕ, zero, suc, ◌+◌, Bool, true, false, cond, List, [], ◌∷◌, ◌++◌, map, leb, eqb, Result, Ok, Err}
use Rattle.listing.specs.Lines.{lines_in}
use Rattle.listing.specs.Scanning.{most_lines}
use Rattle.ballbox.specs.Box.{Step, fresh_box}
use Rattle.ballbox.specs.Promises.{step_of}
use Rattle.ballbox.specs.declared.BallBox.{BallBox}
use Rattle.ballbox.specs.declared.Event.TheVariants.{Host, Latch, Send}
use Rattle.driver.specs.Lines.{said_by}
use Rattle.driver.specs.Recorded.{records_in, all_lines}
use Rattle.driver.specs.declared.Record.{Record}
use Rattle.driver.specs.declared.Record.TheVariants.{Format, Word, Bad, Over}
use Rattle.driver.specs.declared.Done.{Done}
use Rattle.driver.specs.declared.Order.{Order}
use Rattle.driver.specs.declared.Order.TheVariants as order

-- what a line leaves: the box, what is recorded, and whether it is the last
pub record Leaves : Type 0 where
  pub next : BallBox
  pub records : List Record
  pub ends : Bool

abbrev pub going : BallBox → List ℕ → Leaves
going b words = record { next = b; records = map Word words; ends = false }

abbrev pub ending : BallBox → Record → Leaves
ending b r = record { next = b; records = r ∷ []; ends = true }

-- what a line is answered by: the last one by its record alone, and the box is as it was
abbrev pub leaves : BallBox → Result Done Record → Leaves
leaves b (Ok d) = record { next = d.next; records = records_in d.given; ends = false }
leaves b (Err r) = ending b r

-- "`F` and a letter first (the box, fresh, is set to it)"
abbrev pub set : ℕ → BallBox
set f = (step_of fresh_box (Host f)).next

-- "an event that the box refuses, ends it with `E` and the line's number"
abbrev pub event_done : ℕ → BallBox → Step → Leaves
event_done n b s = cond (eqb s.refusal 0) (going s.next s.words) (ending b (Bad n))

-- a slot, "latch and send", and "so many times"
abbrev pub slot : BallBox → Step
slot b = step_of (step_of b Latch).next Send

unfoldable pub slots : ℕ → BallBox → Step
slots zero b = record { refusal = 0; next = b; words = [] }
slots (suc k) b =
    let later = slots k (slot b).next in
    record { refusal = 0; next = later.next; words = (slot b).words ++ later.words }

-- the first line, and the line behind n others
abbrev pub first_line : BallBox → Order → Leaves
first_line b (order.Format f) = record { next = set f; records = Format f ∷ []; ends = false }
first_line b order.Bad = ending b (Bad 1)
first_line b (order.Single e) = ending b (Bad 1)
first_line b (order.Slots k) = ending b (Bad 1)

abbrev pub later_line : ℕ → BallBox → Order → Leaves
later_line n b order.Bad = ending b (Bad n)
later_line n b (order.Format f) = ending b (Bad n)
later_line n b (order.Single e) = event_done n b (step_of b e)
later_line n b (order.Slots k) = going (slots k b).next (slots k b).words

-- "At most 999,999 lines in"
unfoldable pub line_done : ℕ → BallBox → Order → Leaves
line_done n b o = cond (leb most_lines n) (ending b Over) (cond (eqb n 0) (first_line b o) (later_line (n + 1) b o))

-- the end behind n lines: a missing first line is a bad one
abbrev pub end_done : ℕ → List Record
end_done n = cond (eqb n 0) (Bad 1 ∷ []) []

-- what is recorded of the lines behind n others
unfoldable pub records_from : ℕ → BallBox → List (List ℕ) → List Record
records_from n b [] = end_done n
records_from n b (l ∷ ls) =
    let d = line_done n b (said_by l) in
    d.records ++ cond d.ends [] (records_from (n + 1) d.next ls)

abbrev pub records_of : List ℕ → List Record
records_of input = records_from 0 fresh_box (lines_in input)

-- from the lines of events to the lines of the recording
unfoldable pub recording_of : List ℕ → List ℕ
recording_of input = all_lines (records_of input)
