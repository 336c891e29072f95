-- Each call of the end leaves less of it, and what it wrote is handed out.
use Rattle.std.proofs.Common.{◌≡◌, [], ◌+◌, ◌≤◌, length}
use Rattle.shell.specs.Standing.{Closes}
use Rattle.driver.specs.Promises.{enough}
use Rattle.driver.proofs.Kept.{Kept}
use Rattle.driver.proofs.Whole.{all_of}
use Rattle.mbox.specs.Program.{mbox}
use Rattle.mbox.proofs.Turns.{calls_left}
use Rattle.mbox.proofs.DrivingFilter.finish.Given as goal

abbrev pub invariant-loop : goal.invariant-loop
invariant-loop l =
    record {
      room : length l.out ≡ length l.initial.out;
      goes : Kept l.initial.here → enough ≤ length l.initial.out → Closes mbox l.initial.system.turn (all_of l.initial.here []) []
          → Kept l.here × Closes mbox l.system.turn (all_of l.here []) [] × (calls_left l.here + l.counter ≤ calls_left l.initial.here);
    }
