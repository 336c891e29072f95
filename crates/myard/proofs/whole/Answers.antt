-- It begins at the first byte.
use Rattle.std.proofs.Common.{refl, arith}
use Rattle.myard.proofs.Turns.{begins}
use Rattle.myard.proofs.whole.Goals as goal

pub returns : goal.returns
returns c =
    c.run.ensures
    (record {
      named = refl;
      ready = rw c.unheard.ensures (omega arith, omega arith);
      some = c.requires.input_nonzero;
      fits = omega arith;
      stands = begins c.args.system.now.turn c.requires.trace c.unheard.result c.unheard.ensures;
    })
