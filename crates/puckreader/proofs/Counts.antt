-- What a step and a long read count, of any answers that the promises permit.
use Prim.Native.Nat.{ℕ, ◌+◌}
use mathlib.Core.Path.{◌≡◌, ◌∙◌, ap}
use mathlib.Core.Bool.{true}
use mathlib.Core.List.{List}
use lib.ListN.{length}
use lib.IntN.{ℤ}
use Rattle.fold.specs.Fold.{run}
use Rattle.fold.specs.Calls.{line}
use Rattle.fold.proofs.Calls.{call_line, places_sum}
use Rattle.wire.specs.Numbers.{success}
use Rattle.puckreader.specs.State.{PuckRead}
use Rattle.puckreader.specs.Good.{good}
use Rattle.puckreader.specs.Line.{PuckReading, Long, reading, report_of, handed_out, bytes_reported, dropped_in, byte_in, reads, reads_line, Found}
use Rattle.puckreader.specs.Promises.{StepPromise, ReadPromise}
use Rattle.puckreader.specs.declared.PuckReader.{PuckReader}
use Rattle.puckreader.proofs.Kept.{held}
use Rattle.puckreader.proofs.Counting.{lawful, word_counts, line_counts}
use Rattle.puckreader.proofs.Permitted.{step_is}
use Rattle.puckreader.proofs.Goodness.{step_word}
use Rattle.puckreader.proofs.Handed.{reports_total, numbers_written}

pub step_counts : (r : PuckReader) (w : ℕ) (s : PuckRead) → good r ≡ true → StepPromise r w s → s.refusal ≡ success
    → byte_in w + r.count ≡ bytes_reported (report_of s.answer) + dropped_in s.answer + s.next.count
step_counts r w s g p z = let e = step_is r w s p ∙ step_word r w g in rw e (word_counts r w (held r g) (rw e at z))

-- the reports found by a long read, their numbers and their bytes
pub read_counts : (r : PuckReader) (words : List ℕ) (before : List ℤ) (a : PuckReading) (after : List ℤ) → good r ≡ true → ReadPromise r words before a after → Found r words before a after
unfolding line
read_counts r words before a after g p =
    let e = p ∙ call_line reads_line lawful r words before g in
    let l = (run reads r words (length before)).answers in
    record {
      reports = handed_out l;
      many = ap (λ (x : Long). x.counts.reports) e ∙ reports_total l;
      written = ap (λ (x : Long). x.out) e ∙ rw (places_sum reads_line lawful l, reports_total l, numbers_written l);
      balance = rw (ap reading e) (line_counts words r (length before) (held r g));
    }
