-- What the read brought has passed.
use Rattle.std.proofs.Common.{ℕ, List, [], refl, Result, Ok, Err}
use Rattle.shell.specs.declared.Failure.{Failure}
use Rattle.shell.specs.Outside.{Trace, Over, Brought}
use Rattle.shell.proofs.System.more.Goals as goal

passed : (name : List ℕ) (t t' : ℕ) (got : Result ℕ Failure) (part : List ℕ) → Brought name t t' got part
unfolding Trace Over
passed name t t' (Ok n) part = record { reads = λ ins outs errs t. tt; over = λ some z. tt }
passed name t t' (Err e) part =
    record { fails = λ ins outs errs t. record { more = []; told = record { why = []; count = 0; so = refl }; traced = tt } }

pub returns-clause-brought : goal.returns-clause-brought
returns-clause-brought c = passed _ _ _ c.read-came.result _
