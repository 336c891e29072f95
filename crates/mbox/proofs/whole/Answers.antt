-- It begins at the first byte.
use Rattle.std.proofs.Common.{refl, arith}
use Rattle.driver.proofs.Kept.{fresh_kept}
use Rattle.mbox.proofs.Turns.{begins}
use Rattle.mbox.proofs.whole.Goals as goal

pub returns : goal.returns
returns c =
    c.run.ensures
    (record {
      named = refl;
      ready = rw c.fresh.ensures fresh_kept;
      some = c.requires.enough_in_bounds.1;
      fits = c.requires.enough_in_bounds.0;
      stands = begins c.args.system.now.turn c.requires.trace c.fresh.result c.fresh.ensures;
    })
