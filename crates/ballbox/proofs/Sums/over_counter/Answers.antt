-- `over_counter`: one of the two kinds.
use Rattle.ballbox.proofs.Sums.over_counter.Goals as goal

pub returns : goal.returns
returns c = simp c.adding.ensures
