-- `slowly`: up to its end nothing is written, what is done is a part of the line, and a silence is awaited where the format is unmarked.
use Prim.Native.Nat.{◌-◌}
use mathlib.Core.Path.{◌≡◌}
use mathlib.Core.Bool.{true, not}
use lib.ListN.{length}
use Rattle.wire.specs.Line.{marked_by}
use Rattle.reader.specs.Good.{good}
use Rattle.reader.specs.Parts.{Stands}
use Rattle.reader.proofs.Loop.{Far}
use Rattle.reader.proofs.Reader.slowly.Given as goal

abbrev pub invariant-loop-at : goal.invariant-loop-at
invariant-loop-at l =
    Stands l.initial.r l.words l.initial.out l.r l.at 0 0 l.dropped l.out
    × (good l.r ≡ true)
    × (l.r.format ≡ l.initial.r.format)
    × Far l.initial.r l.words l.initial.out l.at 0 0 l.dropped l.out
    × (l.at ≡ 0 → l.r ≡ l.initial.r)
    × (l.awaits ≡ not (marked_by l.initial.r.format))

abbrev pub decreases-loop-at : goal.decreases-loop-at
decreases-loop-at l = length l.words - l.at
