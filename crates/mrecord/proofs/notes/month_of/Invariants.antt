-- The days left fall.
use Prim.Native.Nat.{◌≤◌}
use Rattle.mrecord.proofs.notes.month_of.Given as goal

abbrev pub invariant-loop-month : goal.invariant-loop-month
invariant-loop-month l = l.day ≤ l.since
