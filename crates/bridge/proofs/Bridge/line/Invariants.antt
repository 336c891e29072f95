-- At the loop's head what is done, joined to what the rest of the line does, is the whole.
use Rattle.std.proofs.Common.{◌*◌}
use mathlib.Core.Bool.{true}
use mathlib.Core.Path.{◌≡◌}
use Rattle.bridge.specs.Good.{good}
use Rattle.fold.specs.Calls.{Stands}
use Rattle.bridge.specs.Line.{counts, converts}
use Rattle.bridge.proofs.Bridge.line.Given as goal

abbrev pub invariant-loop-at : goal.invariant-loop-at
invariant-loop-at l =
    record {
      stands : Stands converts l.initial.b l.words l.initial.out l.b l.at (3 * l.sent) (counts l.reports l.sent l.dropped) l.out;
      sound : good l.b ≡ true;
    }
