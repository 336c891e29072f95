-- `pick_runs`: at the loop's head the words passed have given their runs, and the others are still to give theirs.
use Prim.Native.Nat.{◌-◌}
use lib.ListN.{length}
use Rattle.salvage.proofs.Loop.{Going}
use Rattle.salvage.proofs.pick_runs.Given as goal

abbrev pub invariant-loop-at : goal.invariant-loop-at
invariant-loop-at l = Going l.letter l.words l.initial.places l.places l.at l.runs l.left

abbrev pub decreases-loop-at : goal.decreases-loop-at
decreases-loop-at l = length l.words - l.at
