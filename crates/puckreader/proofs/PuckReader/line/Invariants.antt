-- `line`: at the loop's head what is done, joined to what the rest of the line does, is the whole.
use mathlib.Core.Path.{◌≡◌}
use mathlib.Core.Bool.{true}
use Rattle.fold.specs.Calls.{Stands, counts}
use Rattle.puckreader.specs.Good.{good}
use Rattle.puckreader.specs.Line.{reads_line}
use Rattle.puckreader.proofs.PuckReader.line.Given as goal

abbrev pub invariant-loop-at : goal.invariant-loop-at
invariant-loop-at l =
    record {
      stands : Stands reads_line l.initial.r l.words l.initial.out l.r l.at l.used (counts l.reports l.dropped) l.out;
      sound : good l.r ≡ true;
    }
