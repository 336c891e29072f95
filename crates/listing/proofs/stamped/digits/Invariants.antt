-- `digits`: those behind the place are written.
use mathlib.Core.Path.{◌≡◌}
use Prim.Native.Nat.{◌≤◌}
use lib.ListN.{length}
use lib.Seq.{sets}
use Rattle.text.specs.Decimals.{digits_of}
use Rattle.listing.proofs.stamped.digits.Given as goal

abbrev pub invariant-loop-k : goal.invariant-loop-k
invariant-loop-k l = (sets l.out l.at (digits_of l.k l.v) ≡ sets l.initial.out l.at (digits_of l.places l.n)) × (l.k ≤ l.places) × (length l.out ≡ length l.initial.out)

abbrev pub decreases-loop-k : goal.decreases-loop-k
decreases-loop-k l = l.k
