-- `alike`: those passed lie between the two.
use Prim.Native.Nat.{ℕ, ◌<◌, ◌≤◌}
use lib.ListN.{get_or}
use Rattle.reader.proofs.line.alike.Given as goal

abbrev pub invariant-loop-n : goal.invariant-loop-n
invariant-loop-n l = (i : ℕ) → i < l.n → (l.low ≤ get_or l.words i 0) × (get_or l.words i 0 ≤ l.high)
