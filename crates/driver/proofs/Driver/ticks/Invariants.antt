-- The ticks of a piece: what is done, and what the rest gives.
use mathlib.Core.Path.{◌≡◌}
use Prim.Native.Nat.{◌≤◌}
use lib.ListN.{length, drop}
use Rattle.driver.specs.Feeding.{ticks_from}
use Rattle.driver.proofs.Keeps.{Good}
use Rattle.driver.proofs.Feeds.{Stands}
use Rattle.driver.proofs.Driver.ticks.Given as goal

abbrev pub invariant-loop-at : goal.invariant-loop-at
invariant-loop-at l = Stands l.initial.m l.input l.initial.out l.m l.at l.used l.out × Good l.m × ((l.at ≤ length l.input) × (l.used ≤ length l.out) × (length l.out ≡ length l.initial.out))

abbrev pub decreases-loop-at : goal.decreases-loop-at
decreases-loop-at l = length (ticks_from (drop l.at l.input) l.m)
