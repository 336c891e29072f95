-- `cleared`: part by part.
use mathlib.Core.Path.{refl}
use Rattle.ballbox.specs.Latching.{cleared}
use Rattle.ballbox.proofs.Track.cleared.Goals as goal

pub returns : goal.returns
unfolding cleared
returns c = refl
