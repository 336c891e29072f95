-- What was handed to standard error has passed.
use Rattle.shell.specs.Outside.{Trace, Over}
use Rattle.shell.proofs.System.say.Goals as goal

pub returns-clause-said : goal.returns-clause-said
unfolding Trace Over
returns-clause-said c = record { says = λ w ins outs errs t. tt; fails = λ w ins outs errs t. (0, tt); still = λ v. tt }
