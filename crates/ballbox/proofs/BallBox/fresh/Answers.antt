-- `fresh`: part by part.
use Rattle.ballbox.specs.Box.{fresh_box}
use Rattle.ballbox.proofs.BallBox.fresh.Goals as goal

pub returns : goal.returns
unfolding fresh_box
returns c = simp (c.none.ensures, c.nothing.ensures)
