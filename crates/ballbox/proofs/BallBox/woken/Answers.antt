-- `woken`: an ACK.
use Rattle.ballbox.specs.Box.{going_from}
use Rattle.ballbox.specs.Events.{woken}
use Rattle.ballbox.proofs.BallBox.woken.Goals as goal

pub returns : goal.returns
unfolding woken going_from
returns c = c.replying.ensures
