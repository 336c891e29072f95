-- `on_period`: due, or moved in a timed mode.
use mathlib.Core.Bool.{◌&&◌, ◌||◌}
use Rattle.ballbox.specs.Box.{due}
use Rattle.ballbox.specs.Commands.{is_timed}
use Rattle.ballbox.specs.Events.{moved, on_period}
use Rattle.ballbox.proofs.Marks.{as_number}
use Rattle.ballbox.proofs.BallBox.on_period.Goals as goal

pub returns : goal.returns
unfolding on_period
returns c =
    let b = c.args.self in
    simp (c.is_timed.ensures, c.moved-moved.ensures, as_number (due b || (is_timed b.settings.mode && moved b)))
