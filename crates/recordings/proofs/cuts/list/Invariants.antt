-- What is written lies within the slice, and what is left of the recording falls.
use Prim.Native.Nat.{◌≤◌}
use lib.ListN.{length}
use Rattle.recordings.proofs.cuts.list.Given as goal

abbrev pub invariant-loop-rest : goal.invariant-loop-rest
invariant-loop-rest l = l.written ≤ length l.out

abbrev pub decreases-loop-rest : goal.decreases-loop-rest
decreases-loop-rest l = length l.rest
