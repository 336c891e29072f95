-- `put_to_sleep`: the memory emptied.
use mathlib.Core.Bool.{true, false}
use mathlib.Core.Path.{ap}
use Rattle.ballbox.specs.Box.{with_memory, with_due, with_dormant}
use Rattle.ballbox.specs.declared.Memory.{Memory}
use Rattle.ballbox.proofs.BallBox.put_to_sleep.Goals as goal

pub returns : goal.returns
returns c = ap (λ (m : Memory). with_dormant true (with_memory m (with_due false c.args.self))) c.none-self.ensures
