-- `lay`: before each report the line has at most five words for each and a silence.
use Prim.Native.Nat.{◌+◌, ◌*◌, ◌≤◌}
use Rattle.figures.proofs.lines.lay.Given as goal

abbrev pub invariant-loop-n : goal.invariant-loop-n
invariant-loop-n l = l.at ≤ 1 + 5 * l.n
