-- All of the bytes are taken: each call takes a byte or a slot, and what it wrote is handed out.
use Rattle.std.proofs.Common.{◌≡◌, List, ℕ, ◌++◌, length}
use Rattle.shell.specs.Standing.{Stands, silent}
use Rattle.driver.proofs.Kept.{Kept}
use Rattle.driver.proofs.Whole.{all_of}
use Rattle.mbox.specs.Program.{mbox}
use Rattle.mbox.proofs.Turns.{Here, left_of}
use Rattle.mbox.proofs.DrivingFilter.feed.Given as goal

abbrev pub invariant-loop-rest : goal.invariant-loop-rest
invariant-loop-rest l =
    record {
      room : length l.out ≡ length l.initial.out;
      goes : Kept l.initial.here → Stands mbox l.initial.system.turn (λ (q : List ℕ). all_of l.initial.here (l.bytes ++ q)) silent
          → Here l.system.turn l.initial.here l.bytes l.here l.rest;
    }

abbrev pub decreases-loop-rest : goal.decreases-loop-rest
decreases-loop-rest l = left_of l.rest l.here
