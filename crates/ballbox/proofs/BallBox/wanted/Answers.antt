-- `wanted`: due, or one remembered, or moved in mode O.
use Rattle.ballbox.proofs.BallBox.wanted.Goals as goal

pub returns : goal.returns
returns c = simp (c.any.ensures, c.moved-moved.ensures)
