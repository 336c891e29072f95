-- `gathered`: at the loop's head the words are those of the lines passed, and so with a line more.
use Prim.Native.Nat.{◌≤◌}
use lib.ListN.{length}
use Rattle.listing.specs.Batches.{Gathered}
use Rattle.listing.proofs.batches.gathered.Given as goal

abbrev pub invariant-loop-count : goal.invariant-loop-count
invariant-loop-count l = Gathered l.input l.from l.words l.count l.end × (l.end ≤ length l.input)
