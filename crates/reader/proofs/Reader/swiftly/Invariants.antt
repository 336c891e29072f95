-- `swiftly`: at the loop's head the reader is ready, and what is done, joined to what the rest of the line does, is the whole.
use Prim.Native.Nat.{◌-◌, ◌*◌}
use lib.ListN.{length}
use Rattle.reader.specs.State.{ready}
use Rattle.reader.specs.Parts.{Stands}
use Rattle.reader.proofs.Reader.swiftly.Given as goal

abbrev pub invariant-loop-at : goal.invariant-loop-at
invariant-loop-at l = Stands (ready l.self.format) l.words l.initial.out (ready l.self.format) l.at (5 * l.reports) l.reports l.dropped l.out

abbrev pub decreases-loop-at : goal.decreases-loop-at
decreases-loop-at l = length l.words - l.at
