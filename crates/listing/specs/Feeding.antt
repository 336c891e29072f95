-- The lister, byte by byte: the rule. The scanner and the reader behind it, the text of each byte; and a piece of the
-- input, which stops for room. Batches is the quick way.
use Rattle.std.specs.Prelude.{ℕ, ◌≡◌, Bool, false, not, cond, ◌&&◌, List, [], ◌++◌, length, ltb, eqb}
use Rattle.fold.specs.Fold.{Machine, Ran, ran, written, run, Part}
use Rattle.reader.specs.Good as reader
use Rattle.reader.specs.declared.Reader.{Reader}
use Rattle.text.specs.Growth.{grown_by, text_of}
use Rattle.text.specs.declared.Text.{Text}
use Rattle.listing.specs.Scanning as scanner
use Rattle.listing.specs.Scanning.{width, scan, unfed, scanned_byte, closed_of, end_of}
use Rattle.listing.specs.Items.{gave_of, items_in}
use Rattle.listing.specs.Printing.{line_of, opening, all_bytes}
use Rattle.listing.specs.Listing.{waiting}
use Rattle.listing.specs.declared.Found.TheVariants.{Nothing}
use Rattle.listing.specs.declared.Item.{Item}
use Rattle.listing.specs.declared.Scan.{Scan}
use Rattle.listing.specs.declared.Scanner.{Scanner}
use Rattle.listing.specs.declared.Lister.{Lister}
use Rattle.listing.specs.declared.Turn.{Turn}
use Rattle.listing.specs.declared.Front.{Front}

-- the lister that was fed nothing yet
abbrev pub fresh : Lister
fresh = record { scanner = unfed; reader = waiting }

-- nothing has been written yet, so that the opening is still to come
abbrev pub unopened : Scanner → Bool
unopened s = eqb s.line 0 && eqb s.count 0 && not s.ended

unfoldable pub front_of : Lister → List ℕ
front_of m = cond (unopened m.scanner) (line_of width (opening width)) []

-- what the reader makes of what was found: the lister after it, and the items
abbrev pub after : Lister → Scan → Lister
after m s = record { scanner = s.next; reader = (gave_of m.reader s.found).next }

abbrev pub items_of : Lister → Scan → List Item
items_of m s = items_in (gave_of m.reader s.found).given

-- the lister at the start of a line, behind n others
abbrev pub passed_to : ℕ → Reader → Lister
passed_to n r = record { scanner = (scan n false Nothing).next; reader = r }

-- a lister, and the text that it writes
pub record Turning : Type 0 where
  pub next : Lister
  pub text : List ℕ

abbrev pub turning : Lister → Scan → Turning
turning m s = record { next = after m s; text = front_of m ++ all_bytes width (items_of m s) }

-- a byte
unfoldable pub fed_byte : Lister → ℕ → Turning
fed_byte m c = turning m (scanned_byte m.scanner c)

-- the end of the input, behind a last line that may lack its newline
abbrev pub closed : Lister → Lister
closed m = after m (closed_of m.scanner)

unfoldable pub last_of : Lister → Turning
last_of m =
    let s = end_of (closed m).scanner in
    record { next = after (closed m) s; text = front_of m ++ all_bytes width (items_of m (closed_of m.scanner)) ++ all_bytes width (items_of (closed m) s) }

-- what the functions give: items behind a text, and a turn
abbrev pub turn_of : Text → Lister → Scan → Turn
turn_of front m s = record { next = after m s; text = grown_by front (all_bytes width (items_of m s)) }

abbrev pub turned : Turning → Turn
turned t = record { next = t.next; text = text_of t.text }

-- a piece of the input: the lister after it, the bytes taken and the text
pub record Feed : Type 0 where
  pub next : Lister
  pub taken : ℕ
  pub text : List ℕ

abbrev pub stopped : Lister → Feed
stopped m = record { next = m; taken = 0; text = [] }

-- the lister as a machine over the bytes of the input: a byte's answer is the text that it writes
abbrev pub feeds : Machine Lister (List ℕ) ℕ
feeds = record { refusal = λ m c. 0; next = λ m c. (fed_byte m c).next; answer = λ m c. (fed_byte m c).text; writes = λ text. text }

abbrev pub fed : Ran Lister (List ℕ) → Feed
fed f = record { next = f.next; taken = length f.answers; text = written feeds f.answers }

-- it stops before a byte whose text has no room
unfoldable pub feed_in : Lister → List ℕ → ℕ → Feed
feed_in m input room = fed (run feeds m input room)

-- bytes at the front of a piece are taken: the lister behind them, their texts, and the slice
pub record Stands (m : Lister) (input before : List ℕ) (next : Lister) (taken used : ℕ) (after : List ℕ) : Type 0 where
  pub texts : List (List ℕ)
  pub part : Part feeds m input before texts taken used next after

-- what is given back for them; where no byte is taken the piece ends there
pub record Begins (m : Lister) (input before : List ℕ) (f : Front) (after : List ℕ) : Type 0 where
  pub stands : Stands m input before f.next f.taken f.used after
  pub stops : f.taken ≡ 0 → run feeds m input (length before) ≡ ran 0 m []

-- the end: all of it, or nothing where it has no room
unfoldable pub finish_in : Lister → ℕ → Feed
finish_in m room =
    cond (ltb room (length (last_of m).text)) (stopped m) (record { next = (last_of m).next; taken = 0; text = (last_of m).text })

-- a good lister: a good scanner, and a good reader
unfoldable pub good : Lister → Bool
good m = scanner.good m.scanner && reader.good m.reader
