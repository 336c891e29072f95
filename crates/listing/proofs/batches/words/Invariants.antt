-- `words`: at the loop's head the lines passed are a part of the piece, and so with some more.
use Prim.Native.Nat.{◌-◌, ◌<◌, ◌≤◌}
use mathlib.Core.Path.{◌≡◌}
use lib.ListN.{length}
use Rattle.listing.specs.Feeding.{passed_to, Stands}
use Rattle.listing.proofs.batches.words.Given as goal

abbrev pub invariant-loop-n : goal.invariant-loop-n
invariant-loop-n l =
    Stands (passed_to l.line l.initial.r) l.input l.initial.out (passed_to l.n l.r) l.at l.used l.out × ((l.at ≤ length l.input) × (l.used ≤ length l.out) × (length l.out ≡ length l.initial.out)) × (0 < l.n) × (length l.words ≡ 32) × (length l.told ≡ 192)

abbrev pub decreases-loop-n : goal.decreases-loop-n
decreases-loop-n l = l.most - l.n
