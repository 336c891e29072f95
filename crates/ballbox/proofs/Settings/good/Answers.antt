-- `good`: letter, mode and buttons.
use Rattle.ballbox.specs.Good.{good_settings}
use Rattle.ballbox.proofs.Settings.good.Goals as goal

pub returns : goal.returns
unfolding good_settings
returns c = simp (c.is_stream.ensures, c.known.ensures)
