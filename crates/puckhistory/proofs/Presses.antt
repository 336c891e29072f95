-- What the device hands to its box leaves the box's memory alone, and what its reports show is among what a recorder is
-- handed.
use Prim.Native.Nat.{ℕ}
use mathlib.Core.Path.{◌≡◌, refl, ap}
use mathlib.Core.Bool.{Bool, true, false, not, cond, ◌||◌}
use mathlib.Core.List.{List, [], ◌∷◌, ◌++◌, map}
use lib.Dec.{eqb}
use borrow.Author.Tests.{eqb-true, not-true}
use Rattle.numbers.proofs.Choices.{cases, both, neither}
use Rattle.numbers.proofs.Tested.{left, right, holds}
use Rattle.frames.specs.Passages.{Passage, silent, finished, broken, Sub, none, gone, stays, finished_by}
use Rattle.frames.specs.Retold.{passages_as}
use Rattle.wire.specs.Line.{letter_of, size_by, known, named_by}
use Rattle.wire.specs.Messages.{Message, report, reply}
use Rattle.wire.specs.declared.Format.TheVariants.{Mm}
use Rattle.ballbox.specs.Box.{mode_d}
use Rattle.ballbox.specs.Commands.{letter_p}
use Rattle.ballbox.specs.declared.Event.{Event}
use Rattle.ballbox.specs.declared.Event.TheVariants.{Motion, Buttons, Host, Latch, Send, Period}
use Rattle.history.specs.Asked.{all_hosts}
use Rattle.history.specs.Presses.{empties, none_empties, no_host}
use Rattle.vsxxx.specs.Reports.{PuckMessage, of_box_lem, of_test, shown_by_puck}
use Rattle.puck.specs.Rules.{mode_r, letter_t, is_boxes, no_command, as_box}
use Rattle.puckhistory.specs.Presses.{leaves, all_leave, shown_in_puck, of_box, buttons_in}

-- the passages of the box, told as the device's and again as the box's
pub box_again : (l : List (Passage Message)) → of_box (passages_as of_box_lem l) ≡ l
box_again [] = refl
box_again (silent ∷ l) = rw (box_again l)
box_again (finished m ∷ l) = rw (box_again l)
box_again (broken n m ∷ l) = rw (box_again l)

-- each state that was shown is among the buttons handed out
pub shown_among : (l : List (Passage PuckMessage)) → Sub (finished_by shown_in_puck l) (map buttons_in (finished_by shown_by_puck l))
shown_among [] = none
shown_among (silent ∷ l) = shown_among l
shown_among (finished (of_box_lem (report r)) ∷ l) =
    cases (λ (states : List ℕ). Sub (states ++ finished_by shown_in_puck l) (r.report.buttons ∷ map buttons_in (finished_by shown_by_puck l))) r.shows (λ _. stays (shown_among l)) (λ _. gone (shown_among l))
shown_among (finished (of_box_lem (reply bytes)) ∷ l) = shown_among l
shown_among (finished (of_test t) ∷ l) = gone (shown_among l)
shown_among (broken n m ∷ l) = shown_among l

-- its bytes are no T, and what the box is handed of them empties no memory
pub leaves_t : (byte : ℕ) → leaves byte ≡ true → not (eqb byte letter_t) ≡ true
leaves_t byte h = let n = neither (eqb byte mode_d || eqb byte letter_p) (eqb byte letter_t) (not-true _ h) in rw n.1

handed_leaves : (byte : ℕ) → leaves byte ≡ true → not (empties (cond (is_boxes byte) byte no_command)) ≡ true
unfolding known named_by
handed_leaves byte h =
    let n = neither (eqb byte mode_d || eqb byte letter_p) (eqb byte letter_t) (not-true _ h) in
    let m = neither (eqb byte mode_d) (eqb byte letter_p) n.0 in
    go (eqb byte mode_r) refl m.0 m.1
  where
    go : (t : Bool) → eqb byte mode_r ≡ t → eqb byte mode_d ≡ false → eqb byte letter_p ≡ false → not (empties (cond (is_boxes byte) byte no_command)) ≡ true
    go true e d q = rw (eqb-true byte mode_r e)
    go false e d q = rw (e, d, q)

pub handed_keeps : (events : List Event) → all_leave events ≡ true → none_empties (map as_box events) ≡ true
unfolding all_hosts
handed_keeps [] h = refl
handed_keeps (Motion dx dy ∷ events) h = handed_keeps events h
handed_keeps (Buttons n ∷ events) h = handed_keeps events h
handed_keeps (Host byte ∷ events) h =
    both (not (empties (cond (is_boxes byte) byte no_command))) _ (handed_leaves byte (left (leaves byte) (all_leave events) h)) (handed_keeps events (right (leaves byte) (all_leave events) h))
handed_keeps (Latch ∷ events) h = handed_keeps events h
handed_keeps (Send ∷ events) h = handed_keeps events h
handed_keeps (Period ∷ events) h = handed_keeps events h

-- where the host sends no byte the box is handed the same events
pub same_events : (events : List Event) → no_host events ≡ true → map as_box events ≡ events
unfolding all_hosts
same_events [] h = refl
same_events (Motion dx dy ∷ events) h = ap (λ (l : List Event). Motion dx dy ∷ l) (same_events events h)
same_events (Buttons n ∷ events) h = ap (λ (l : List Event). Buttons n ∷ l) (same_events events h)
same_events (Host byte ∷ events) h = absurd (holds (left false (no_host events) h))
same_events (Latch ∷ events) h = ap (λ (l : List Event). Latch ∷ l) (same_events events h)
same_events (Send ∷ events) h = ap (λ (l : List Event). Send ∷ l) (same_events events h)
same_events (Period ∷ events) h = ap (λ (l : List Event). Period ∷ l) (same_events events h)

-- a report of S has three bytes
pub three_bytes : (f : ℕ) → f ≡ letter_of Mm → size_by f ≡ 3
unfolding size_by named_by
three_bytes f e = rw e
