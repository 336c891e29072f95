-- "Over many words": a line of words, word by word, and a lent slice.
use Rattle.std.specs.Prelude.{ℕ, List, ℤ, Option, None, Some}
use Rattle.fold.specs.Fold.{Machine}
use Rattle.fold.specs.Calls.{Call, Counts, counts, reporting}
use Rattle.fold.specs.Calls as calls
use Rattle.wire.specs.Numbers.{success, bad_state}
use Rattle.wire.specs.Refusals.{number_if}
use Rattle.wire.specs.declared.refusal.Refusal.{Refusal}
use Rattle.reader.specs.Good.{good}
use Rattle.reader.specs.Rules.{word_of}
use Rattle.reader.specs.Counts.{reports_in, dropped_in, written_in}
use Rattle.reader.specs.declared.Reader.{Reader}
use Rattle.reader.specs.declared.Reading as declared
use Rattle.reader.specs.declared.Answer.{Answer}

-- the reader as a machine over the words of a line: what one word does, and the numbers that an answer writes
abbrev pub reads : Machine Reader Answer ℤ
reads = record { refusal = λ r w. (word_of r w).refusal; next = λ r w. (word_of r w).next; answer = λ r w. (word_of r w).answer; writes = written_in }

-- the long read: a report has five numbers. "It stops, with answer 0, before a word that would finish a report when fewer
-- than five places are left."
abbrev pub reads_line : Call Reader Answer Counts ℤ
reads_line = record { machine = reads; tally = reporting 5 reports_in dropped_in; good = good; bad = bad_state }

-- what it gives back ("words taken, reports written, bytes dropped"), and every number of the lent slice after it
abbrev pub Long : Type 0
Long = calls.Long Reader Counts ℤ

-- the answer by itself: a number, 0 where it is not refused, the reader, and the counts
pub record Reading : Type 0 where
  pub refusal : ℕ
  pub next : Reader
  pub taken : ℕ
  pub reports : ℕ
  pub dropped : ℕ

abbrev pub reading_in : declared.Reading → Reading
reading_in a = record { refusal = number_if a.refusal; next = a.next; taken = a.taken; reports = a.reports; dropped = a.dropped }

abbrev pub whole : Reading → List ℤ → Long
whole a out = record { refusal = a.refusal; next = a.next; taken = a.taken; counts = counts a.reports a.dropped; out = out }

abbrev pub reading : Long → Reading
reading l = record { refusal = l.refusal; next = l.next; taken = l.taken; reports = l.counts.reports; dropped = l.counts.dropped }
