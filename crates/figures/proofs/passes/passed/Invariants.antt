-- `passed`: the words left fall, what is written has its place, and no more is dropped than was taken and kept.
use lib.ListN.{length}
use mathlib.Core.Path.{◌≡◌}
use Prim.Native.Nat.{◌+◌, ◌*◌, ◌≤◌}
use Rattle.figures.proofs.passes.passed.Given as goal

abbrev pub invariant-loop-rest : goal.invariant-loop-rest
invariant-loop-rest l =
    (l.taken + length l.rest ≡ length l.words)
    × (5 * l.reports ≤ length l.out)
    × (l.dropped + l.next.count ≤ l.taken)
    × (l.calls ≤ l.taken)

abbrev pub decreases-loop-rest : goal.decreases-loop-rest
decreases-loop-rest l = length l.rest
