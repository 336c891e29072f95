-- "Over many words": a line of words, word by word, and a lent slice; what is counted.
use Rattle.std.specs.Prelude.{ℕ, ◌+◌, ◌*◌, ◌≤◌, ◌≡◌, cond, List, [], ◌∷◌, ◌++◌, length, take, drop, ℤ, Option, None, Some}
use Rattle.frames.specs.Words.{is_byte}
use Rattle.fold.specs.Fold.{Machine}
use Rattle.fold.specs.Calls.{Call, Counts, counts, reporting}
use Rattle.fold.specs.Calls as calls
use Rattle.wire.specs.Numbers.{success, bad_state}
use Rattle.wire.specs.Refusals.{number_if}
use Rattle.wire.specs.declared.refusal.Refusal.{Refusal}
use Rattle.vsxxx.specs.Reports.{PuckReport, movement, self_test, six_of, size_of_report}
use Rattle.puckreader.specs.Rules.{word_of}
use Rattle.puckreader.specs.Good.{good}
use Rattle.puckreader.specs.declared.PuckReader.{PuckReader}
use Rattle.puckreader.specs.declared.PuckReading as declared
use Rattle.puckreader.specs.declared.PuckAnswer.{PuckAnswer}
use Rattle.puckreader.specs.declared.PuckAnswer.TheVariants.{Nothing, Movement, Test, Dropped}

-- the reports of an answer, one or none, and of answers, one after the other
abbrev pub report_of : PuckAnswer → List PuckReport
report_of Nothing = []
report_of (Movement r) = movement r ∷ []
report_of (Test t) = self_test t ∷ []
report_of (Dropped k) = []

abbrev pub handed_out : List PuckAnswer → List PuckReport
handed_out [] = []
handed_out (a ∷ answers) = report_of a ++ handed_out answers

-- "six numbers each"
abbrev pub numbers : List PuckReport → List ℤ
numbers [] = []
numbers (p ∷ reports) = six_of p ++ numbers reports

-- what an answer counts: its reports, their bytes, and the bytes dropped
abbrev pub reports_in : PuckAnswer → ℕ
reports_in a = length (report_of a)

abbrev pub bytes_reported : List PuckReport → ℕ
bytes_reported [] = 0
bytes_reported (p ∷ reports) = size_of_report p + bytes_reported reports

abbrev pub dropped_in : PuckAnswer → ℕ
dropped_in Nothing = 0
dropped_in (Movement r) = 0
dropped_in (Test t) = 0
dropped_in (Dropped k) = k

-- "256 and 257 are never counted as bytes."
abbrev pub byte_in : ℕ → ℕ
byte_in w = cond (is_byte w) 1 0

unfoldable pub bytes_in : List ℕ → ℕ
bytes_in [] = 0
bytes_in (w ∷ words) = byte_in w + bytes_in words

-- the reader as a machine over the words of a line
abbrev pub reads : Machine PuckReader PuckAnswer ℤ
reads = record { refusal = λ r w. (word_of r w).refusal; next = λ r w. (word_of r w).next; answer = λ r w. (word_of r w).answer; writes = λ a. numbers (report_of a) }

-- the long read: a report has six numbers. "It stops, with answer 0, before a word that would finish a report when fewer
-- than" six "places are left."
abbrev pub reads_line : Call PuckReader PuckAnswer Counts ℤ
reads_line = record { machine = reads; tally = reporting 6 reports_in dropped_in; good = good; bad = bad_state }

-- what it gives back ("words taken, reports written, bytes dropped"), and every number of the lent slice after it
abbrev pub Long : Type 0
Long = calls.Long PuckReader Counts ℤ

-- the answer by itself: a number, 0 where it is not refused, the reader, and the counts
pub record PuckReading : Type 0 where
  pub refusal : ℕ
  pub next : PuckReader
  pub taken : ℕ
  pub reports : ℕ
  pub dropped : ℕ

abbrev pub reading_in : declared.PuckReading → PuckReading
reading_in a = record { refusal = number_if a.refusal; next = a.next; taken = a.taken; reports = a.reports; dropped = a.dropped }

abbrev pub whole : PuckReading → List ℤ → Long
whole a out = record { refusal = a.refusal; next = a.next; taken = a.taken; counts = counts a.reports a.dropped; out = out }

abbrev pub reading : Long → PuckReading
reading l = record { refusal = l.refusal; next = l.next; taken = l.taken; reports = l.counts.reports; dropped = l.counts.dropped }

-- how far a long read goes: no more words than there are, no more reports than have room, no more bytes dropped and kept than it took and had kept
pub record Bounds (r : PuckReader) (words : List ℕ) (out : List ℤ) (a : PuckReading) : Type 0 where
  pub some : a.taken ≤ length words
  pub room : 6 * a.reports ≤ length out
  pub few : a.dropped + a.next.count ≤ a.taken + r.count

-- the reports found by a long read, their numbers in the slice and their bytes in the account
pub record Found (r : PuckReader) (words : List ℕ) (before : List ℤ) (a : PuckReading) (after : List ℤ) : Type 0 where
  pub reports : List PuckReport
  pub many : a.reports ≡ length reports
  pub written : after ≡ numbers reports ++ drop (6 * length reports) before
  pub balance : bytes_in (take a.taken words) + r.count ≡ bytes_reported reports + a.dropped + a.next.count

-- what is given back for words at the front of a line, by a reader that stays good; where no word is taken the line ends there
abbrev pub Begins : PuckReader → List ℕ → List ℤ → PuckReading → List ℤ → Type 0
Begins r words before t after = calls.Begins reads_line r words before (whole t after)
