-- A press survives in a device: over any events, self-tests included, and then as in its box.
use Prim.Native.Nat.{ℕ, suc, ◌*◌, ◌≤◌}
use mathlib.Core.Path.{◌≡◌, refl, ◌∙◌, ap}
use mathlib.Core.Bool.{true, not}
use mathlib.Core.List.{List, [], ◌∷◌, ◌++◌, map, append_assoc}
use lib.ListN.{length}
use lib.Dec.{eqb}
use borrow.Author.Tests.{lt-ltb}
use Rattle.numbers.proofs.Tested.{holds}
use Rattle.frames.specs.Passages.{Passage, silent, finished, broken, UnderWay, Sub, finished_by}
use Rattle.frames.specs.Sender.{passages_over, going_over}
use Rattle.frames.specs.Retold.{passages_as, under_way_as}
use Rattle.wire.specs.Line.{letter_of}
use Rattle.wire.specs.Messages.{Latched, Message, report, reply, finished_reports}
use Rattle.wire.specs.Buttons.{buttons_of, buttons_in}
use Rattle.wire.specs.declared.Format.TheVariants.{Mm}
use Rattle.ballbox.specs.Box.{mode_d}
use Rattle.ballbox.specs.Presses.{remembered}
use Rattle.ballbox.specs.Commands.{is_stream}
use Rattle.ballbox.specs.declared.Event.{Event}
use Rattle.ballbox.specs.declared.Event.TheVariants.{Buttons}
use Rattle.history.specs.History as box_history
use Rattle.history.specs.Asked.{all_hosts}
use Rattle.history.specs.Presses.{no_host, slots_in, box_after}
use Rattle.history.specs.Carried.{Showing, SetTo}
use Rattle.history.proofs.Survives as box
use Rattle.history.proofs.Survives.{AtPress, no_host_any}
use Rattle.vsxxx.specs.Reports.{PuckMessage, of_box_lem, shown_by_puck}
use Rattle.vsxxx.specs.Buttons.{movements_in}
use Rattle.puck.specs.Rules.{letter_t, as_box}
use Rattle.puck.specs.Good.{good}
use Rattle.puck.specs.declared.Puck.{Puck}
use Rattle.puck.proofs.Parts.{parts, is_going}
use Rattle.puckhistory.specs.Runs.{next_puck, puck_after, without_t}
use Rattle.puckhistory.specs.History.{told_by, passages_of, going_after}
use Rattle.puckhistory.specs.Carried.{Holds, by_box_lem, by_test}
use Rattle.puckhistory.proofs.Bridge.{in_box_lem}
use Rattle.puckhistory.proofs.AsBox.{passages_as_append, box_passages}
use Rattle.puckhistory.proofs.Presses.{same_events, three_bytes}
use Rattle.puckhistory.proofs.Ever.{Stands, stands_after}

-- two runs, one behind the other
passages_then : (p : Puck) (g : UnderWay PuckMessage) (front back : List Event)
    → passages_of p g (front ++ back) ≡ passages_of p g front ++ passages_of (puck_after p front) (going_after p g front) back
unfolding passages_over going_over puck_after
passages_then p g [] back = refl
passages_then p g (e ∷ front) back = rw (passages_then (next_puck p e) (told_by p e g).going front back, append_assoc)

-- in a stream mode, so out of a self-test, what is under way is what the box has going
record OfBox (p : Puck) (g : UnderWay PuckMessage) : Type 0 where
  going : UnderWay Message
  is : g ≡ under_way_as of_box_lem going
  none : p.test.left ≡ 0
  set : SetTo Mm p.ball going

of_its_box : (p : Puck) (g : UnderWay PuckMessage) → good p ≡ true → Holds p g → is_stream p.ball.settings.mode ≡ true → OfBox p g
of_its_box p g k (by_box_lem b z h) stream = record { going = b; is = refl; none = z; set = h }
of_its_box p g k (by_test n z some h) stream =
    let mode : p.ball.settings.mode ≡ mode_d = (is_going p (parts p k) (lt-ltb 0 p.test.left some)).rests.mode in
    absurd (holds (rw mode at stream))

-- the movements of the box's reports
pub moves_as : (l : List (Passage Message)) → movements_in (finished_by shown_by_puck (passages_as of_box_lem l)) ≡ finished_reports Mm l
moves_as [] = refl
moves_as (silent ∷ l) = moves_as l
moves_as (finished (report r) ∷ l) = rw (moves_as l)
moves_as (finished (reply bytes) ∷ l) = moves_as l
moves_as (broken n m ∷ l) = moves_as l

-- S carries all three buttons
all_carried : (l : List ℕ) → map (buttons_in Mm) l ≡ l
all_carried [] = refl
all_carried (n ∷ l) = ap (λ (k : List ℕ). n ∷ k) (all_carried l)

-- the finished movement that shows a state, among passages
pub record ShownAt (passages : List (Passage PuckMessage)) (n : ℕ) : Type 0 where
  pub before : List (Passage PuckMessage)
  pub latched : Latched
  pub after : List (Passage PuckMessage)
  pub is : passages ≡ before ++ (finished (of_box_lem (report latched)) ∷ after)
  pub buttons : latched.report.buttons ≡ n

shown_as : (l : List (Passage Message)) (n : ℕ) → box.ShownAt l n → ShownAt (passages_as of_box_lem l) n
shown_as l n h =
    record {
      before = passages_as of_box_lem h.before;
      latched = h.latched;
      after = passages_as of_box_lem h.after;
      is = ap (passages_as of_box_lem) h.is ∙ passages_as_append of_box_lem h.before (finished (report h.latched) ∷ h.after);
      buttons = h.buttons;
    }

-- the press: what the device sends from it on shows what it remembered then, and the press
pub record Outlives (p : Puck) (g : UnderWay PuckMessage) (front : List Event) (n : ℕ) (back : List Event) : Type 0 where
  pub later : List (Passage PuckMessage)
  pub is : passages_of p g (front ++ (Buttons n ∷ back)) ≡ passages_of p g front ++ later
  pub shown : Sub (remembered (puck_after p front).ball.memory ++ (n ∷ [])) (buttons_of (movements_in (finished_by shown_by_puck later)))
  pub at : ShownAt later n

pub outlives : (p : Puck) (g : UnderWay PuckMessage) (front : List Event) (n : ℕ) (back : List Event)
    → Stands p g
    → no_host back ≡ true
    → AtPress (puck_after p front).ball n back
    → suc (suc (length (remembered (puck_after p front).ball.memory))) * 3 ≤ slots_in back
    → Outlives p g front n back
unfolding passages_over box_after all_hosts
outlives p g front n back h quiet at slots =
    let c = puck_after p front in
    let d = going_after p g front in
    let s = stands_after p g front h in
    let b = of_its_box c d s.good s.holds at.stream in
    let showing : Showing c.ball b.going = rw (b.is, in_box_lem b.going) at s.showing in
    let o = box.outlives Mm c.ball b.going [] n back (record { good = b.set.good; carries = b.set.carries; showing = showing }) b.set refl quiet at (rw (three_bytes (letter_of Mm) refl) slots) in
    let no_t : without_t (Buttons n ∷ back) ≡ true = no_host_any (λ byte. not (eqb byte letter_t)) back quiet in
    let same = same_events (Buttons n ∷ back) quiet in
    let as_box_lem = (box_passages c b.going (Buttons n ∷ back) s.good b.none no_t).0 in
    let sent : box_history.passages_of c.ball b.going (map as_box (Buttons n ∷ back)) ≡ o.later =
    ap (λ (events : List Event). box_history.passages_of c.ball b.going events) same ∙ o.is in
    let rest : passages_of c d (Buttons n ∷ back) ≡ passages_as of_box_lem o.later =
    ap (λ (x : UnderWay PuckMessage). passages_of c x (Buttons n ∷ back)) b.is ∙ (as_box_lem ∙ ap (passages_as of_box_lem) sent) in
    record {
      later = passages_as of_box_lem o.later;
      is = passages_then p g front (Buttons n ∷ back) ∙ ap (λ (l : List (Passage PuckMessage)). passages_of p g front ++ l) rest;
      shown =
          rw (moves_as o.later)
          (rw (all_carried (remembered c.ball.memory ++ (n ∷ []))) at (box.press_seen Mm c.ball b.going [] n back o));
      at = shown_as o.later n (box.press_shown Mm c.ball b.going [] n back o);
    }
