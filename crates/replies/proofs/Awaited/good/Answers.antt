-- `good`: each rule.
use Rattle.replies.specs.Replying.{good}
use Rattle.replies.proofs.Awaited.good.Goals as goal

pub returns : goal.returns
unfolding good
returns c = rw (c.below.ensures, c.holds.ensures, c.holds-2.ensures)
