-- Line after line.
use Prim.Native.Nat.{◌-◌}
use lib.ListN.{length}
use Rattle.readback.specs.Rewriting.{rewrites}
use Rattle.readback.specs.Parts.{Stands}
use Rattle.readback.proofs.Readback.rewrite_lines.Given as goal

abbrev pub invariant-loop-at : goal.invariant-loop-at
invariant-loop-at l = Stands rewrites l.initial.r l.input l.initial.out l.r l.at l.used l.out

abbrev pub decreases-loop-at : goal.decreases-loop-at
decreases-loop-at l = length l.input - l.at
