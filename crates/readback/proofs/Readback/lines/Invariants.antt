-- Line after line.
use Prim.Native.Nat.{◌-◌}
use lib.ListN.{length}
use Rattle.readback.proofs.Loop.{StandsRead}
use Rattle.readback.proofs.Readback.lines.Given as goal

abbrev pub invariant-loop-at : goal.invariant-loop-at
invariant-loop-at l = StandsRead l.initial.r l.input l.initial.out l.r l.at l.used l.items l.out

abbrev pub decreases-loop-at : goal.decreases-loop-at
decreases-loop-at l = length l.input - l.at
