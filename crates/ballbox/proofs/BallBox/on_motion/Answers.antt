-- `on_motion`: counters and position alike.
use lib.IntN.{ℤ}
use mir.Syntax.{w16}
use Rattle.ballbox.specs.Motion.{counted, counted_over, placed, moved_by}
use Rattle.ballbox.specs.declared.BoundedPair.{BoundedPair}
use Rattle.ballbox.specs.declared.Pair.{Pair}
use Rattle.numbers.proofs.Machine.{passed}
use Rattle.ballbox.proofs.BallBox.on_motion.Goals as goal

abbrev counted_from : Pair → ℤ → ℤ → BoundedPair
counted_from c dx dy = record { value = counted c dx dy; excess = counted_over c dx dy }

pub returns : goal.returns
unfolding moved_by
returns c =
    let e = passed (counted_from c.args.self.track.counter) w16 c.ranges.dx c.ranges.dy c.counted-counted.ensures in
    simp (c.over_counter-self.ensures, e, passed (placed c.args.self.track.position) w16 c.ranges.dx c.ranges.dy c.placed.ensures)
