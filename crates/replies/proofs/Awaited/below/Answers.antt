-- `below`: none has come, or fewer than the reply has.
use Rattle.replies.proofs.Awaited.below.Goals as goal

pub returns : goal.returns
returns c = rw c.size.ensures
