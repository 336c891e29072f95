-- The silences lie within the slice.
use Prim.Native.Nat.{◌≤◌}
use lib.ListN.{length}
use Rattle.recordings.proofs.long.silences.Given as goal

abbrev pub invariant-loop : goal.invariant-loop
invariant-loop l = l.n ≤ length l.out
