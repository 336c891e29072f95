-- The whole account of a move: every count that the ball made, axis by axis, in a report, in the box, or in a loss that has a name. The two excesses are
-- those of the run's steps (Sums).
use Rattle.std.specs.Prelude.{Bool, true, false, not, cond, ◌&&◌, List, [], ◌∷◌, ℤ, pos, ◌+ℤ◌}
use Rattle.frames.specs.Passages.{Passage, silent, finished, broken, UnderWay, nothing, first}
use Rattle.wire.specs.Line.{known}
use Rattle.wire.specs.Messages.{Message, report, reply}
use Rattle.wire.specs.declared.Report.{Report}
use Rattle.ballbox.specs.Box.{pair, dormant}
use Rattle.ballbox.specs.Motion.{is_a}
use Rattle.ballbox.specs.declared.BallBox.{BallBox}
use Rattle.ballbox.specs.declared.Pair.{Pair}
use Rattle.ballbox.specs.declared.Event.{Event}
use Rattle.ballbox.specs.declared.Event.TheVariants.{Motion, Buttons, Host, Latch, Send, Period}
use Rattle.history.specs.History.{next_box}
use Rattle.history.specs.Sums.{Axis, x_axis, y_axis}

abbrev pub along : Axis → Pair → ℤ
along x_axis p = p.x
along y_axis p = p.y

-- what the events of a run come to, added up: of a box, or of another device that has its events
unfoldable pub added_over : {S : Type 0} → (S → Event → S) → (S → Event → ℤ) → S → List Event → ℤ
added_over next part s [] = pos 0
added_over next part s (e ∷ events) = part s e +ℤ added_over next part (next s e) events

-- of a box, "while awake"
abbrev pub while_awake : BallBox → ℤ → ℤ
while_awake b v = cond (dormant b) (pos 0) v

abbrev pub over : (BallBox → Event → ℤ) → BallBox → List Event → ℤ
over part b events = added_over next_box (λ b e. while_awake b (part b e)) b events

-- "The motion fed while awake"
abbrev pub fed_by : Axis → BallBox → Event → ℤ
fed_by a b (Motion dx dy) = along a (pair dx dy)
fed_by a b (Buttons n) = pos 0
fed_by a b (Host byte) = pos 0
fed_by a b Latch = pos 0
fed_by a b Send = pos 0
fed_by a b Period = pos 0

-- the movement of a report: of U both pairs
abbrev pub value_of : Axis → Report → ℤ
value_of x_axis r = r.x1 +ℤ r.x2
value_of y_axis r = r.y1 +ℤ r.y2

abbrev pub value_in : Axis → Message → ℤ
value_in a (report l) = value_of a l.report
value_in a (reply bytes) = pos 0

-- of messages of any kind, each of this value
module _ {K : Type 0} (value : K → ℤ) where
  -- "values in finished reports"
  abbrev pub values_finished : List (Passage K) → ℤ
  values_finished [] = pos 0
  values_finished (silent ∷ passages) = values_finished passages
  values_finished (finished m ∷ passages) = value m +ℤ values_finished passages
  values_finished (broken n m ∷ passages) = values_finished passages

  -- "what is latched in the report now going"
  abbrev pub value_going : UnderWay K → ℤ
  value_going nothing = pos 0
  value_going (first n m) = value m

  -- "what was latched in broken-off reports"
  abbrev pub values_broken : List (Passage K) → ℤ
  values_broken [] = pos 0
  values_broken (silent ∷ passages) = values_broken passages
  values_broken (finished m ∷ passages) = values_broken passages
  values_broken (broken n m ∷ passages) = value m +ℤ values_broken passages

abbrev pub in_finished : Axis → List (Passage Message) → ℤ
in_finished a passages = values_finished (value_in a) passages

abbrev pub in_going : Axis → UnderWay Message → ℤ
in_going a g = value_going (value_in a) g

abbrev pub in_broken : Axis → List (Passage Message) → ℤ
in_broken a passages = values_broken (value_in a) passages

-- "the counter"
abbrev pub in_counter : Axis → BallBox → ℤ
in_counter a b = along a b.track.counter

-- "counters cleared by format commands"
abbrev pub cleared_by : Axis → BallBox → Event → ℤ
cleared_by a b (Motion dx dy) = pos 0
cleared_by a b (Buttons n) = pos 0
cleared_by a b (Host byte) = cond (known byte) (in_counter a b) (pos 0)
cleared_by a b Latch = pos 0
cleared_by a b Send = pos 0
cleared_by a b Period = pos 0

-- "It is stated only for runs that never select A": no byte A of the host's while awake
abbrev pub selects_a : BallBox → Event → Bool
selects_a b (Motion dx dy) = false
selects_a b (Buttons n) = false
selects_a b (Host byte) = not (dormant b) && is_a byte
selects_a b Latch = false
selects_a b Send = false
selects_a b Period = false

unfoldable pub never_a : BallBox → List Event → Bool
never_a b [] = true
never_a b (e ∷ events) = not (selects_a b e) && never_a (next_box b e) events
