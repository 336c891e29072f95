-- The bytes of a piece: what is done, and what the rest gives.
use Prim.Native.Nat.{◌-◌, ◌≤◌}
use mathlib.Core.Path.{◌≡◌}
use lib.ListN.{length}
use Rattle.listing.specs.Feeding.{Stands}
use Rattle.listing.proofs.Lister.bytes.Given as goal

abbrev pub invariant-loop-at : goal.invariant-loop-at
invariant-loop-at l = Stands l.initial.m l.input l.initial.out l.m l.at l.used l.out × ((l.at ≤ length l.input) × (l.used ≤ length l.out) × (length l.out ≡ length l.initial.out))

abbrev pub decreases-loop-at : goal.decreases-loop-at
decreases-loop-at l = length l.input - l.at
