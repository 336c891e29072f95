-- What Slot was, before it became Latch and Send: kept to say that it was the two, one behind the other, and for nothing else.
use Rattle.std.specs.Prelude.{ℕ, not, cond, List, [], ◌∷◌, ◌++◌, map}
use Rattle.frames.specs.Words.{silence}
use Rattle.wire.specs.Numbers.{bad_state}
use Rattle.ballbox.specs.Box.{Step, refused, dormant}
use Rattle.ballbox.specs.Latching.{latched}
use Rattle.ballbox.specs.Events.{gives, bytes_left, wanted, with_byte_ready, next_byte}
use Rattle.ballbox.specs.Good.{good}
use Rattle.ballbox.specs.Promises.{step_of}
use Rattle.ballbox.specs.declared.BallBox.{BallBox}
use Rattle.ballbox.specs.declared.Event.{Event}
use Rattle.ballbox.specs.declared.Event.TheVariants.{Latch, Send}
use Rattle.ballbox.specs.declared.Stepped.{Stepped}

-- "If bytes are left, the next goes out; after the last, nothing is going. Otherwise, if a report is due, or mode is O and the box has moved, a
-- report is latched, due is cleared and byte 1 goes out. Otherwise 257 goes out."; "While any state is remembered a report counts as due"
unfoldable pub on_slot : BallBox → Step
on_slot b =
    cond (bytes_left b) (next_byte (with_byte_ready b))
    (cond (wanted b) (next_byte (latched b))
    (gives (silence ∷ []) b))

-- "Refusals 6 and 3 come before any rule here"; "Dormant: [..] Slot gives 257."
unfoldable pub slot_of : BallBox → Step
slot_of b =
    cond (not (good b)) (refused bad_state b)
    (cond (dormant b) (gives (silence ∷ []) b) (on_slot b))

-- two steps as one: the words of both, and the number and the box of the second
abbrev pub joined : Step → Step → Step
joined p q = record { refusal = q.refusal; next = q.next; words = p.words ++ q.words }

-- an event of a run in which Slot was one: Slot, or one that still is
pub data Timed : Type 0 where
  slot : Timed
  still : Event → Timed

abbrev pub timed_step : BallBox → Timed → Step
timed_step b slot = slot_of b
timed_step b (still e) = step_of b e

-- the words of such a run, and its last box
unfoldable pub timed_words : BallBox → List Timed → List ℕ
timed_words b [] = []
timed_words b (t ∷ events) = (timed_step b t).words ++ timed_words (timed_step b t).next events

unfoldable pub timed_box : BallBox → List Timed → BallBox
timed_box b [] = b
timed_box b (t ∷ events) = timed_box (timed_step b t).next events

-- the numbers that it tells, a Slot's twice: what Latch and Send tell in its place
unfoldable pub timed_numbers : BallBox → List Timed → List ℕ
timed_numbers b [] = []
timed_numbers b (slot ∷ events) = (slot_of b).refusal ∷ (slot_of b).refusal ∷ timed_numbers (slot_of b).next events
timed_numbers b (still e ∷ events) = (step_of b e).refusal ∷ timed_numbers (step_of b e).next events

-- those of any answers
abbrev pub numbers_told : List Stepped → List ℕ
numbers_told answers = map (λ (a : Stepped). a.refusal) answers

-- "Slot goes": Latch and Send stand in its place
abbrev pub apartly : List Timed → List Event
apartly [] = []
apartly (slot ∷ events) = Latch ∷ Send ∷ apartly events
apartly (still e ∷ events) = e ∷ apartly events
