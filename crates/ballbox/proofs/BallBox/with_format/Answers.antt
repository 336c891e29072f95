-- `with_format`: the track cleared, the memory emptied.
use mathlib.Core.Bool.{false}
use mathlib.Core.Path.{ap, ◌∙◌}
use Rattle.ballbox.specs.Box.{with_format, with_track, with_memory, with_due}
use Rattle.ballbox.specs.Latching.{cleared}
use Rattle.ballbox.specs.declared.Memory.{Memory}
use Rattle.ballbox.specs.declared.Track.{Track}
use Rattle.ballbox.proofs.BallBox.with_format.Goals as goal

pub returns : goal.returns
returns c =
    let s = c.args in
    ap (λ (t : Track). with_format s.letter (with_track t (with_memory c.none-self.result (with_due false s.self)))) c.cleared-self.ensures ∙
    ap (λ (m : Memory). with_format s.letter (with_track (cleared s.self.track) (with_memory m (with_due false s.self)))) c.none-self.ensures
