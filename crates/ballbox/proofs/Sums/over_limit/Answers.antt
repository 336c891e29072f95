-- `over_limit`: one of the two kinds.
use Rattle.ballbox.proofs.Sums.over_limit.Goals as goal

pub returns : goal.returns
returns c = simp c.adding.ensures
