-- `next_byte`: the byte, and what is going and remembered after it.
use Rattle.ballbox.specs.Events.{next_byte}
use Rattle.ballbox.proofs.BallBox.next_byte.Goals as goal

pub returns : goal.returns
unfolding next_byte
returns c = simp (c.after-self-2.ensures, c.after-self.ensures) at c.gives.ensures
