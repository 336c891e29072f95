-- `over`: what is left of the line gives what is left of the reply.
use Prim.Native.Nat.{◌≤◌}
use mathlib.Core.Path.{◌≡◌}
use lib.ListN.{length, drop}
use Rattle.replies.specs.Fronts.{ahead, front_of}
use Rattle.replies.proofs.Awaited.over.Given as goal

abbrev pub invariant-loop-at : goal.invariant-loop-at
invariant-loop-at l =
    (front_of l.initial.awaited l.words ≡ ahead l.at (front_of l.awaited (drop l.at l.words))) × (l.at ≤ length l.words)
