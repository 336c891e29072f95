-- "The device follows the box in S, obeying those commands only": out of a self-test, and without T, a run of the
-- device is a run of its box. A stretch worked out, and for each condition one that lacks it.
use Rattle.std.specs.Prelude.{ℕ, ◌≡◌, refl, true, false, List, [], ◌∷◌, map, pos}
use Rattle.std.proofs.Common.{ltb-false, arith}
use Rattle.numbers.specs.Signed.{minus}
use Rattle.frames.specs.Passages.{UnderWay}
use Rattle.frames.specs.Retold.{passages_as, under_way_as}
use Rattle.wire.specs.Messages.{Message}
use Rattle.ballbox.specs.declared.Event.{Event}
use Rattle.ballbox.specs.declared.Event.TheVariants.{Motion, Buttons, Host, Latch, Send, Period}
use Rattle.history.specs.Runs as box
use Rattle.history.specs.History as box_history
use Rattle.history.specs.Asked.{all_hosts}
use Rattle.vsxxx.specs.Reports.{of_box_lem}
use Rattle.puck.specs.Device.{testing, made}
use Rattle.puck.specs.Rules.{mode_r, letter_t, as_box}
use Rattle.puck.specs.Good.{good}
use Rattle.puck.specs.declared.Puck.{Puck}
use Rattle.puck.specs.declared.PuckStepped.{PuckStepped}
use Rattle.puckhistory.specs.Runs.{RunPromise, puck_after, puck_words, as_box_answer, without_t}
use Rattle.puckhistory.specs.History.{passages_of, going_after}
use Rattle.puckhistory.proofs.AsBox as as_box_lem
use Rattle.puckdemands.specs.Computing.{computing}

none_left : (p : Puck) → testing p ≡ false → p.test.left ≡ 0
none_left p t = omega (arith, ltb-false 0 p.test.left t)

-- its box is handed R, D and P, and for any other byte one that it ignores (`as_box`); whatever answers the promise of
-- the device permits are, as its box gave them, permitted of the box
pub box_run : (p : Puck) (events : List Event) (answers : List PuckStepped)
    → good p ≡ true
    → testing p ≡ false
    → without_t events ≡ true
    → RunPromise p events answers
    → box.RunPromise p.ball (map as_box events) (map as_box_answer answers)
box_run p events answers k t = as_box_lem.box_run p events answers k (none_left p t)

-- and its passages are the box's
pub box_passages : (p : Puck) (g : UnderWay Message) (events : List Event)
    → good p ≡ true
    → testing p ≡ false
    → without_t events ≡ true
    → (passages_of p (under_way_as of_box_lem g) events ≡ passages_as of_box_lem (box_history.passages_of p.ball g (map as_box events)))
    × (going_after p (under_way_as of_box_lem g) events ≡ under_way_as of_box_lem (box_history.going_after p.ball g (map as_box events)))
box_passages p g events k t = as_box_lem.box_passages p g events k (none_left p t)

-- the words of a device, and those of its box
pub record Words (p : Puck) (events : List Event) (device ball : List ℕ) : Type 0 where
  pub of_device : puck_words p events ≡ device
  pub of_box_lem : box.words_given (box.answers_to p.ball (map as_box events)) ≡ ball

-- A device that has sent its self-test and streams: a movement, of whose report two bytes have gone when the host sends
-- `f`, which is no command of its own and breaks it off; a press, and its report.
abbrev streaming : Puck
streaming = puck_after (made 0 1 3) (Send ∷ Send ∷ Send ∷ Send ∷ Host mode_r ∷ [])

abbrev stretch : List Event
stretch = Motion (pos 5) (minus 3) ∷ Period ∷ Latch ∷ Send ∷ Send ∷ Host 0x66 ∷ Buttons 4 ∷ Latch ∷ Send ∷ Send ∷ Send ∷ Send ∷ []

pub follows : (answers : List PuckStepped) → RunPromise streaming stretch answers
    → box.RunPromise streaming.ball (map as_box stretch) (map as_box_answer answers)
unfolding computing all_hosts
follows answers = box_run streaming stretch answers refl refl refl

pub followed : Words streaming stretch
    (0x90 ∷ 0x05 ∷ 256 ∷ 0x9C ∷ 0x00 ∷ 0x00 ∷ 257 ∷ [])
    (0x90 ∷ 0x05 ∷ 256 ∷ 0x9C ∷ 0x00 ∷ 0x00 ∷ 257 ∷ [])
unfolding computing box.answers_to box.answer_to
followed = record { of_device = refl; of_box_lem = refl }

-- in a self-test the device sends a byte of it, where its box is silent
pub in_a_self_test : Words (made 0 1 3) (Send ∷ []) (0xA1 ∷ []) (257 ∷ [])
unfolding computing box.answers_to box.answer_to
in_a_self_test = record { of_device = refl; of_box_lem = refl }

-- T starts one, where its box ignores the byte
pub with_t : Words streaming (Host letter_t ∷ Send ∷ []) (0xA1 ∷ []) (257 ∷ [])
unfolding computing box.answers_to box.answer_to
with_t = record { of_device = refl; of_box_lem = refl }

-- and a device that is not good, of revision 16, is refused where its box is not
abbrev sixteen : Puck
sixteen = record { ball = streaming.ball; test = streaming.test; revision = 16; maker = 3 }

pub not_good : Words sixteen (Send ∷ []) [] (257 ∷ [])
unfolding computing box.answers_to box.answer_to
not_good = record { of_device = refl; of_box_lem = refl }
