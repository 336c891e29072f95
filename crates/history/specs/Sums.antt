-- What the limits threw away in a run: the excesses of its steps, in their order, and what they add up to.
use Rattle.std.specs.Prelude.{Bool, true, ◌&&◌, List, [], ◌∷◌, ℤ, pos, ◌+ℤ◌}
use Rattle.std.specs.Int.Signed.{lt_z}
use Rattle.numbers.specs.Signed.{least_long, most_long, held_long}
use Rattle.ballbox.specs.Excesses.{thrown}
use Rattle.ballbox.specs.declared.Sums.{Sums}
use Rattle.ballbox.specs.declared.BallBox.{BallBox}
use Rattle.ballbox.specs.declared.Event.{Event}
use Rattle.history.specs.History.{next_box}

-- "the two kinds apart, per axis"
pub data Kind : Type 0 where
  over_limit : Kind
  over_counter : Kind

pub data Axis : Type 0 where
  x_axis : Axis
  y_axis : Axis

abbrev pub excess_of : Kind → Axis → Sums → ℤ
excess_of over_limit x_axis s = s.limit.x
excess_of over_limit y_axis s = s.limit.y
excess_of over_counter x_axis s = s.counter.x
excess_of over_counter y_axis s = s.counter.y

-- the excesses of a run's steps
unfoldable pub thrown_in : Kind → Axis → BallBox → List Event → List ℤ
thrown_in k a b [] = []
thrown_in k a b (e ∷ events) = excess_of k a (thrown b e) ∷ thrown_in k a (next_box b e) events

-- "sums held at the ends of their range": a number, and then the excesses, held at each addition
unfoldable pub held_over : ℤ → List ℤ → ℤ
held_over s [] = s
held_over s (x ∷ xs) = held_over (held_long s x) xs

-- "While neither held sum of §6 has reached an end": at none of these additions
unfoldable pub never_ends : ℤ → List ℤ → Bool
never_ends s [] = true
never_ends s (x ∷ xs) = (lt_z least_long (held_long s x) && lt_z (held_long s x) most_long) && never_ends (held_long s x) xs

-- what they plainly add up to
unfoldable pub sum_of : List ℤ → ℤ
sum_of [] = pos 0
sum_of (x ∷ xs) = x +ℤ sum_of xs
