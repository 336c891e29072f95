-- The head line, and all behind it, or what stood where something failed.
use Rattle.std.proofs.Common.{true, false, refl, arith}
use Rattle.mtable.proofs.Turns.{headed, no_head, ready_fresh, not_ended}
use Rattle.mtable.proofs.whole.Goals as goal

pub returns-in_err-show : goal.returns-in_err-show
returns-in_err-show c =
    let t' = c.show.new.self.turn in
    not_ended t' c.from_residual.result c.from_residual.ensures.0 (no_head c.args.system.now.turn t' false c.requires.3 c.in_err-show.ensures.handed refl)

pub every_block-init : goal.every_block-init
every_block-init c =
    let f = c.fresh in
    let t' = c.show.new.self.turn in
    (omega arith, ready_fresh f.result f.ensures, rw f.ensures (headed c.args.system.now.turn t' true c.requires.3 c.in_ok-show.ensures.handed refl))
