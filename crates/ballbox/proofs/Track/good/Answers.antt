-- `good`: two places on the pad.
use Rattle.ballbox.specs.Good.{good_track}
use Rattle.ballbox.proofs.Track.good.Goals as goal

pub returns : goal.returns
unfolding good_track
returns c = simp (c.on_pad.ensures, c.on_pad-2.ensures)
