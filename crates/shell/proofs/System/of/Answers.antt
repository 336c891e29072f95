-- Nothing has passed.
use Rattle.shell.specs.Outside.{Trace}
use Rattle.shell.proofs.System.of.Goals as goal

pub returns-clause-trace : goal.returns-clause-trace
unfolding Trace
returns-clause-trace c = tt
