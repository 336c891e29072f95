-- `is_stream`: a timed mode or O.
use Rattle.ballbox.proofs.commands.is_stream.Goals as goal

pub returns : goal.returns
returns c = simp c.is_timed.ensures
