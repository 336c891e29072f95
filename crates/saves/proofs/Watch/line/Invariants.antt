-- What is counted so far, and then what the numbers that are left give, is what all of them give.
use Prim.Native.Nat.{◌+◌, ◌≤◌}
use mathlib.Core.Path.{◌≡◌}
use lib.ListN.{length}
use Rattle.std.specs.Slice.Iter.{chunks_exact_rest, chunks_exact_size}
use Rattle.saves.specs.Rules.{buttons_among}
use Rattle.saves.specs.Promises.{over_of}
use Rattle.saves.proofs.Counting.{going}
use Rattle.saves.proofs.Watch.line.Given as goal

abbrev pub invariant-loop-report : goal.invariant-loop-report
invariant-loop-report l = record {
  counted : going l.watched (buttons_among (chunks_exact_rest l.report-iterator)) ≡ over_of l.initial.watched.next (buttons_among l.numbers);
  fives : chunks_exact_size l.report-iterator ≡ 5;
  few_left : l.watched.left + length (chunks_exact_rest l.report-iterator) ≤ length l.numbers;
  few_middle : l.watched.middle + length (chunks_exact_rest l.report-iterator) ≤ length l.numbers;
  few_right : l.watched.right + length (chunks_exact_rest l.report-iterator) ≤ length l.numbers;
}
