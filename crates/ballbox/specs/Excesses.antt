-- The excess of a step, what the four sums then are, and the box but for them.
use Rattle.std.specs.Prelude.{Bool, not, cond, ◌&&◌, ◌||◌, ℤ}
use Rattle.std.specs.Int.Signed.{le_z}
use Rattle.numbers.specs.Signed.{least_long, most_long}
use Rattle.ballbox.specs.Thrown.{no_excess, sums, no_sums, added}
use Rattle.ballbox.specs.Box.{Step, with_sums, dormant}
use Rattle.ballbox.specs.Motion.{counted_over}
use Rattle.ballbox.specs.Latching.{taken_over}
use Rattle.ballbox.specs.Events.{bytes_left, wanted, second_now}
use Rattle.ballbox.specs.Good.{good}
use Rattle.ballbox.specs.Promises.{above_seven}
use Rattle.ballbox.specs.declared.Excess.{Excess}
use Rattle.ballbox.specs.declared.Sums.{Sums}
use Rattle.ballbox.specs.declared.BallBox.{BallBox}
use Rattle.ballbox.specs.declared.Event.{Event}
use Rattle.ballbox.specs.declared.Event.TheVariants.{Motion, Buttons, Host, Latch, Send, Period}

-- "excess over the report limit": of a Latch that latches, and of a Send of byte 4 in U, which latches the second pair
abbrev pub limit_throws : BallBox → Event → Excess
limit_throws b (Motion dx dy) = no_excess
limit_throws b (Buttons n) = no_excess
limit_throws b (Host byte) = no_excess
limit_throws b Latch = cond (not (bytes_left b) && wanted b) (taken_over b.settings.format b.track) no_excess
limit_throws b Send = cond (bytes_left b && second_now b) (taken_over b.settings.format b.track) no_excess
limit_throws b Period = no_excess

-- "excess over the 16-bit counter": of a Motion, whatever the format
abbrev pub counter_throws : BallBox → Event → Excess
counter_throws b (Motion dx dy) = counted_over b.track.counter dx dy
counter_throws b (Buttons n) = no_excess
counter_throws b (Host byte) = no_excess
counter_throws b Latch = no_excess
counter_throws b Send = no_excess
counter_throws b Period = no_excess

-- "the two kinds apart"; a refused event and a dormant box throw nothing away
unfoldable pub thrown : BallBox → Event → Sums
thrown b e = cond (not (good b) || above_seven e || dormant b) no_sums (sums (limit_throws b e) (counter_throws b e))

-- four sums, each with the excess of a step added and held at the ends
abbrev pub added_up : Sums → Sums → Sums
added_up s t = sums (added s.limit t.limit) (added s.counter t.counter)

-- "64-bit sums"
abbrev pub is_long : ℤ → Bool
is_long z = le_z least_long z && le_z z most_long

abbrev pub are_long : Sums → Bool
are_long s = is_long s.limit.x && is_long s.limit.y && (is_long s.counter.x && is_long s.counter.y)

-- a box but for its sums, and what a step hands back but for them
abbrev pub but_sums : BallBox → BallBox
but_sums b = with_sums no_sums b

unfoldable pub seen : Step → Step
seen a = record { refusal = a.refusal; next = but_sums a.next; words = a.words }
