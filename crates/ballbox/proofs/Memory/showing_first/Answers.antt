-- `showing_first`: whether one is remembered.
use Rattle.ballbox.proofs.Marks.{as_number}
use Rattle.ballbox.specs.Presses.{any_remembered, showing_first}
use Rattle.ballbox.proofs.Memory.showing_first.Goals as goal

pub returns : goal.returns
unfolding showing_first
returns c = simp (c.any-any.ensures, as_number (any_remembered c.args.self))
