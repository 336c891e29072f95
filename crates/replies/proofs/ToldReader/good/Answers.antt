-- `good`: the report reader, and the reply.
use Rattle.replies.specs.Good.{good}
use Rattle.replies.proofs.ToldReader.good.Goals as goal

pub returns : goal.returns
unfolding good
returns c = rw (c.good.ensures, c.good-2.ensures)
