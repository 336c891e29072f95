-- `unread`: at the loop's head the lines passed are silences, and so with a line more.
use Prim.Native.Nat.{◌≤◌}
use lib.ListN.{length, replicate}
use Rattle.frames.specs.Words.{silence}
use Rattle.listing.specs.Batches.{Gathered}
use Rattle.listing.proofs.batches.unread.Given as goal

abbrev pub invariant-loop-count : goal.invariant-loop-count
invariant-loop-count l = Gathered l.input l.from (replicate l.count silence) l.count l.end × (l.end ≤ length l.input)
