use Rattle.std.proofs.Common.{arith}
use Rattle.mwidth.proofs.Turns.{begins, ready_fresh}
use Rattle.mwidth.proofs.whole.Goals as goal

pub every_block-init : goal.every_block-init
every_block-init c =
    let f = c.fresh in
    (omega arith, ready_fresh f.result f.ensures, begins c.args.system.now.turn c.requires.2 f.result f.ensures)
