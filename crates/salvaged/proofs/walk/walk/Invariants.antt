-- `walk`: at the loop's head some pieces are printed, and the others are left.
use Prim.Native.Nat.{◌-◌}
use mathlib.Core.Path.{◌≡◌}
use lib.ListN.{length}
use Rattle.salvaged.proofs.Walking.{Walking}
use Rattle.salvaged.proofs.walk.walk.Given as goal

abbrev pub invariant-loop-s : goal.invariant-loop-s
invariant-loop-s l = Walking l.letter l.words l.initial.s.told l.initial.out l.s l.out × (length l.out ≡ length l.initial.out)

abbrev pub decreases-loop-s : goal.decreases-loop-s
decreases-loop-s l = length l.words - l.s.at
