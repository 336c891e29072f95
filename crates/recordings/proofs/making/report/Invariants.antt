-- The lines lie within the slice.
use Prim.Native.Nat.{◌≤◌}
use lib.ListN.{length}
use Rattle.recordings.proofs.making.report.Given as goal

abbrev pub invariant-loop-b : goal.invariant-loop-b
invariant-loop-b l = l.end ≤ length l.out
