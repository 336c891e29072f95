-- What the read told has passed.
use Rattle.std.proofs.Common.{ℕ, List, [], refl, Result, Ok, Err}
use Rattle.shell.specs.declared.Failure.{Failure}
use Rattle.shell.specs.Outside.{Trace, Listened}
use Rattle.shell.proofs.System.hear.Goals as goal

passed : (name : List ℕ) (t t' : ℕ) (got : Result ℕ Failure) (part : List ℕ) → Listened name t t' got part
unfolding Trace
passed name t t' (Ok n) part = record { reads = λ some ins outs errs t. tt }
passed name t t' (Err e) part =
    record { fails = λ ins outs errs t. record { more = []; told = record { why = []; count = 0; so = refl }; traced = tt } }

pub returns-clause-listened : goal.returns-clause-listened
returns-clause-listened c = passed _ _ _ c.read-came.result _
