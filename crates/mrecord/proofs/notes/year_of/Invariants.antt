-- The days left fall.
use Prim.Native.Nat.{◌+◌, ◌≤◌}
use Rattle.mrecord.proofs.notes.year_of.Given as goal

abbrev pub invariant-years : goal.invariant-years
invariant-years l = l.year + l.day ≤ 3002000

abbrev pub decreases-years : goal.decreases-years
decreases-years l = l.day
