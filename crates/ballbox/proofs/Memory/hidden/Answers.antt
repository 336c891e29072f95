-- `hidden`: the states stay.
use mathlib.Core.Path.{refl}
use Rattle.ballbox.specs.Presses.{hidden}
use Rattle.ballbox.proofs.Memory.hidden.Goals as goal

pub returns : goal.returns
unfolding hidden
returns c = refl
