-- `line`: at the loop's head what is done, joined to what the rest of the line does, is the whole.
use Prim.Native.Nat.{◌-◌, ◌*◌}
use mathlib.Core.Path.{◌≡◌}
use mathlib.Core.Bool.{true}
use lib.ListN.{length}
use Rattle.reader.specs.Good.{good}
use Rattle.reader.specs.Parts.{Stands}
use Rattle.reader.proofs.Reader.line.Given as goal

abbrev pub invariant-loop-at : goal.invariant-loop-at
invariant-loop-at l =
    Stands l.initial.r l.words l.initial.out l.r l.at (5 * l.reports) l.reports l.dropped l.out × (good l.r ≡ true) × (l.r.format ≡ l.initial.r.format)

abbrev pub decreases-loop-at : goal.decreases-loop-at
decreases-loop-at l = length l.words - l.at
