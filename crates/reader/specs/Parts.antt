-- A part of a line, read apart: where a long read stands behind it.
use Rattle.std.specs.Prelude.{ℕ, ◌*◌, ◌<◌, ◌≤◌, ◌≡◌, Bool, true, false, cond, ◌&&◌, List, [], ◌++◌, length, get_or, drop, leb, eqb, ℤ}
use Rattle.fold.specs.Fold.{ran, run}
use Rattle.fold.specs.Calls.{counts, stopped}
use Rattle.fold.specs.Calls as calls
use Rattle.frames.specs.Words.{is_byte}
use Rattle.wire.specs.Line.{size_by, marked_by}
use Rattle.reader.specs.Good.{good}
use Rattle.reader.specs.Counts.{reports_in, dropped_in, written_in}
use Rattle.reader.specs.Line.{Reading, Long, whole, reads, reads_line}
use Rattle.reader.specs.declared.Reader.{Reader}
use Rattle.reader.specs.State.{Read}

-- what a reader keeps over a line: that it is good, its format, and fewer bytes than a report of it has
pub record Sized (size : ℕ) (marked : Bool) (r : Reader) : Type 0 where
  pub sound : good r ≡ true
  pub below : r.count < size
  pub sized : size ≡ size_by r.format
  pub mark : marked ≡ marked_by r.format

-- words at the front of a line are taken: the reader behind them, the places used, the reports among their answers, the
-- bytes dropped, and the slice
abbrev pub Stands : Reader → List ℕ → List ℤ → Reader → ℕ → ℕ → ℕ → ℕ → List ℤ → Type 0
Stands r words before next taken used reports dropped after = calls.Stands reads_line r words before next taken used (counts reports dropped) after

-- what is given back for them, by a reader that stays good and of its format; where no word is taken the line ends there
pub record Begins (r : Reader) (words : List ℕ) (before : List ℤ) (t : Reading) (after : List ℤ) : Type 0 where
  pub stands : Stands r words before t.next t.taken (5 * t.reports) t.reports t.dropped after
  pub stops : t.taken ≡ 0 → run reads r words (length before) ≡ ran t.refusal r []
  pub sound : good t.next ≡ true
  pub same_format : t.next.format ≡ r.format

-- the first word of a line, by what it gives: it is taken where it is not refused and its answer has room
abbrev pub first_of : Reader → Read → List ℤ → Long
first_of r s out =
    cond (eqb s.refusal 0 && leb (5 * reports_in s.answer) (length out))
    (whole (record { refusal = 0; next = s.next; taken = 1; reports = reports_in s.answer; dropped = dropped_in s.answer })
    (written_in s.answer ++ drop (5 * reports_in s.answer) out))
    (stopped reads_line s.refusal r out)

-- the first of the words lie between two: 0 and 255, bytes; 257 and 257, silences
pub record Alike (low high n : ℕ) (words : List ℕ) : Type 0 where
  pub within : n ≤ length words
  pub between : (i : ℕ) → i < n → (low ≤ get_or words i 0) × (get_or words i 0 ≤ high)

-- "U, T, W then await silence": behind a byte that was dropped
abbrev pub AwaitsBehind : Reader → List ℕ → Reading → Type 0
AwaitsBehind r words t = marked_by r.format ≡ false → is_byte (get_or words 0 0) ≡ true → (t.dropped ≡ 0 → ⊥) → t.next.awaiting ≡ true
