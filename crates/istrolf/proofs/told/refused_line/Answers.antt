-- The old reader and no reply.
use Rattle.istrolf.proofs.told.refused_line.Goals as goal

pub returns : goal.returns
returns c = rw c.from.ensures
