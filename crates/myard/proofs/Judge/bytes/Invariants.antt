-- Those behind a place are judged from where the judge stands there.
use Rattle.std.proofs.Common.{◌≡◌, drop}
use Rattle.myard.specs.Hearing.{behind_bytes}
use Rattle.myard.proofs.Judge.bytes.Given as goal

abbrev pub invariant-loop-b : goal.invariant-loop-b
invariant-loop-b l = behind_bytes l.initial.judge l.bytes ≡ behind_bytes l.judge (drop l.b-index l.bytes)
