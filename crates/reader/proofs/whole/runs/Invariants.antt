-- `runs`: at the loop's head the words passed are a part of the line, and so with a report more, and a silence more.
use Prim.Native.Nat.{◌-◌, ◌/◌}
use lib.ListN.{length}
use Rattle.reader.specs.State.{ready}
use Rattle.reader.specs.Parts.{Stands}
use Rattle.reader.proofs.Loop.{Far}
use Rattle.reader.proofs.whole.runs.Given as goal

abbrev pub invariant-loop-taken : goal.invariant-loop-taken
invariant-loop-taken l =
    Stands (ready l.letter) l.words l.initial.out (ready l.letter) l.taken l.used (l.used / 5) 0 l.out
    × Far (ready l.letter) l.words l.initial.out l.taken l.used (l.used / 5) 0 l.out

abbrev pub decreases-loop-taken : goal.decreases-loop-taken
decreases-loop-taken l = length l.words - l.taken
