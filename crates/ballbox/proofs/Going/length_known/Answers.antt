-- `length_known`: the size is the wire's.
use Rattle.ballbox.proofs.Going.length_known.Goals as goal

pub returns : goal.returns
returns c = simp c.size.ensures
