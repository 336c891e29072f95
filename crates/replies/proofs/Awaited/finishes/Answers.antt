-- `finishes`: one more is as many as the reply has.
use Rattle.replies.proofs.Awaited.finishes.Goals as goal

pub returns : goal.returns
returns c = rw c.size.ensures
