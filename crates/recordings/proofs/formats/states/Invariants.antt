-- The reports lie within the slice.
use Prim.Native.Nat.{◌≤◌}
use lib.ListN.{length}
use Rattle.recordings.proofs.formats.states.Given as goal

abbrev pub invariant-loop-buttons : goal.invariant-loop-buttons
invariant-loop-buttons l = l.n ≤ length l.out
