-- What was handed to standard output has passed.
use Rattle.std.proofs.Common.{[], refl}
use Rattle.shell.specs.Outside.{Trace, Over}
use Rattle.shell.proofs.System.show.Goals as goal

pub returns-clause-handed : goal.returns-clause-handed
unfolding Trace Over
returns-clause-handed c =
    record {
      writes = λ w ins outs errs t. tt;
      fails = λ w ins outs errs t. (0, record { more = []; told = record { why = []; count = 0; so = refl }; traced = tt });
      still = λ v. tt;
    }
