-- Over every run of a device, whatever the host sends, self-tests included: its movement reports show no more presses
-- than were made, or were still owed at the start.
use Prim.Native.Nat.{ℕ, ◌+◌, ◌≤◌, ◌%◌}
use mathlib.Core.Path.{◌≡◌, refl, sym, ◌∙◌, ap}
use mathlib.Core.Bool.{Bool, true, false, cond}
use mathlib.Core.List.{List, [], ◌∷◌, ◌++◌, append-nil, append_assoc}
use native.Mathlib.Omega.{arith}
use lib.ListN.{length}
use lib.Dec.{eqb, leb}
use borrow.Author.Tests.{eqb-true, le-ltb, lt-ltb}
use Rattle.numbers.proofs.Choices.{cases}
use Rattle.frames.specs.Passages.{Passage, silent, finished, broken, UnderWay, nothing, first, Sub, none, stays, finished_by, begun_by, going_by}
use Rattle.frames.specs.Sender.{Told, told, sent_one, broken_off, passages_over, going_over}
use Rattle.frames.specs.Retold.{passages_as, under_way_as}
use Rattle.frames.proofs.Sub.{sub_all, sub_none, sub_append, sub_more}
use Rattle.wire.specs.Messages.{Message, report, reply}
use Rattle.wire.specs.Buttons.{presses, buttons_of, buttons_begun, buttons_going}
use Rattle.wire.specs.declared.Format.TheVariants.{Mm}
use Rattle.wire.proofs.Buttons.{last_of, last_append, presses_append, fewer, stays_so}
use Rattle.ballbox.specs.Presses.{remembered, showing}
use Rattle.ballbox.specs.declared.BallBox.{BallBox}
use Rattle.ballbox.specs.declared.Event.{Event}
use Rattle.ballbox.specs.declared.Event.TheVariants.{Motion, Buttons, Host, Latch, Send, Period}
use Rattle.history.specs.History as box_history
use Rattle.history.specs.Presses.{buttons_told, owed, change_to, box_after}
use Rattle.history.specs.Carried.{Showing, Carrying, SetTo}
use Rattle.history.proofs.Ever as ever
use Rattle.history.proofs.Unmade.{buttons_step}
use Rattle.vsxxx.specs.Reports.{PuckMessage, of_box_lem, of_test, puck_bytes, shown_by_puck}
use Rattle.vsxxx.specs.Buttons.{movements_in, movement_buttons}
use Rattle.puck.specs.Device.{powered_box, powered, test_now, Step}
use Rattle.puck.specs.Rules.{gives, letter_t, as_box, by_box, by_t, test_byte, in_test, out_of_test, rules}
use Rattle.puck.specs.Good.{good}
use Rattle.puck.specs.Promises.{step_of, MadePromise}
use Rattle.puck.specs.declared.Puck.{Puck}
use Rattle.puck.proofs.Parts.{Going, parts, is_going}
use Rattle.puck.proofs.Goodness.{Quiet, stepped_puck, made_is_good}
use Rattle.puckhistory.specs.Runs.{next_puck, puck_after}
use Rattle.puckhistory.specs.History.{in_box, box_tells, test_tells, tells_in, tells_out, told_by, passages_of, going_after, at_power_up}
use Rattle.puckhistory.specs.Carried.{Holds, by_box_lem, by_test}
use Rattle.puckhistory.proofs.Bridge.{in_box_lem, quiet_told, step_sent, made_holds}

-- no more presses, behind any state
abbrev Fewer : List ℕ → List ℕ → Type 0
Fewer a b = (down : ℕ → Bool) (u : ℕ) → presses down (down u) a ≤ presses down (down u) b

fewer_sub : {a b : List ℕ} → Sub a b → Fewer a b
fewer_sub s down u = fewer down (down u) s

-- with the same in front; and with the same behind, where the last states are the same
fewer_front : (c a b : List ℕ) → Fewer a b → Fewer (c ++ a) (c ++ b)
fewer_front c a b h down u = omega (arith, presses_append down u c a, presses_append down u c b, h down (last_of u c))

fewer_back : (a b rest : List ℕ) → ((u : ℕ) → last_of u a ≡ last_of u b) → Fewer a b → Fewer (a ++ rest) (b ++ rest)
fewer_back a b rest e h down u =
    let same : presses down (down (last_of u a)) rest ≡ presses down (down (last_of u b)) rest = rw (e u) in
    omega (arith, presses_append down u a rest, presses_append down u b rest, h down u, same)

-- what a device has yet to show is what its box has: in a self-test too the box is told of the buttons
abbrev owed_by : Puck → UnderWay PuckMessage → List ℕ
owed_by p g = owed p.ball (in_box g)

last_owed : (u : ℕ) (b : BallBox) (g : UnderWay Message) → last_of u (owed b g) ≡ b.settings.buttons
last_owed u b g =
    last_append u (buttons_going g) (remembered b.memory ++ (b.settings.buttons ∷ []))
    ∙ last_append (last_of u (buttons_going g)) (remembered b.memory) (b.settings.buttons ∷ [])

-- one event: what is told, and the last of it
told_cons : (e : Event) (events : List Event) → buttons_told (e ∷ events) ≡ buttons_told (e ∷ []) ++ buttons_told events
unfolding buttons_told
told_cons (Motion dx dy) events = refl
told_cons (Buttons n) events = rw append-nil
told_cons (Host byte) events = refl
told_cons Latch events = refl
told_cons Send events = refl
told_cons Period events = refl

told_box : (e : Event) → buttons_told (as_box e ∷ []) ≡ buttons_told (e ∷ [])
unfolding buttons_told
told_box (Motion dx dy) = refl
told_box (Buttons n) = refl
told_box (Host byte) = refl
told_box Latch = refl
told_box Send = refl
told_box Period = refl

told_last : (b : BallBox) (e : Event) → last_of b.settings.buttons (change_to b e) ≡ last_of b.settings.buttons (buttons_told (e ∷ []))
unfolding buttons_told
told_last b (Motion dx dy) = refl
told_last b (Buttons n) = go (leb n 7) refl (eqb n b.settings.buttons) refl
  where
    go : (t : Bool) → leb n 7 ≡ t → (s : Bool) → eqb n b.settings.buttons ≡ s
        → last_of b.settings.buttons (change_to b (Buttons n)) ≡ last_of b.settings.buttons (cond (leb n 7) (n ∷ []) [] ++ [])
    go true e true q = rw (e, q) (sym (eqb-true n b.settings.buttons q))
    go true e false q = rw (e, q)
    go false e s q = rw e
told_last b (Host byte) = refl
told_last b Latch = refl
told_last b Send = refl
told_last b Period = refl

-- a step of the box: what it leaves owed
record BoxOwes (b : BallBox) (g : UnderWay Message) (e : Event) (c : BallBox) (t : Told Message) : Type 0 where
  showing : Showing c t.going
  less : Fewer (buttons_begun t.passages ++ owed c t.going) (owed b g ++ buttons_told (e ∷ []))
  last : c.settings.buttons ≡ last_of b.settings.buttons (buttons_told (e ∷ []))

box_owes : (b : BallBox) (e : Event) (g : UnderWay Message) → SetTo Mm b g → Showing b g → BoxOwes b g e (box_history.next_box b e) (box_history.told_by b e g)
unfolding passages_over going_over box_after
box_owes b e g h s =
    let t = box_history.told_by b e g in
    let c = box_history.next_box b e in
    let next : Carrying c t.going = ever.carrying_after b g (e ∷ []) (record { good = h.good; carries = h.carries; showing = s }) in
    record {
      showing = next.showing;
      less = λ down u.
          let all : presses down (down u) (buttons_begun (t.passages ++ []) ++ owed c t.going) ≤ presses down (down u) (owed b g ++ buttons_told (e ∷ [])) =
          ever.never_begun b g (e ∷ []) h.good h.carries s down (down u) in
          rw (append-nil t.passages) at all;
      last = buttons_step b e h.good h.awake ∙ told_last b e;
    }

-- a step of the device
record Owes (p : Puck) (g : UnderWay PuckMessage) (e : Event) (a : Step) (t : Told PuckMessage) : Type 0 where
  showing : Showing a.next.ball (in_box t.going)
  less : Fewer (begun_by movement_buttons t.passages ++ owed_by a.next t.going) (owed_by p g ++ buttons_told (e ∷ []))
  last : a.next.ball.settings.buttons ≡ last_of p.ball.settings.buttons (buttons_told (e ∷ []))

-- by its box, out of a self-test
begun_as : (l : List (Passage Message)) → begun_by movement_buttons (passages_as of_box_lem l) ≡ buttons_begun l
begun_as [] = refl
begun_as (silent ∷ l) = begun_as l
begun_as (finished m ∷ l) = rw (begun_as l)
begun_as (broken n m ∷ l) = rw (begun_as l)

by_box_owes : (p : Puck) (e : Event) (g : UnderWay Message) → SetTo Mm p.ball g → Showing p.ball g
    → Owes p (under_way_as of_box_lem g) e (by_box p e) (box_tells p e (under_way_as of_box_lem g))
unfolding by_box box_tells
by_box_owes p e g h s =
    let o = box_owes p.ball (as_box e) g h s in
    let t = box_history.told_by p.ball (as_box e) g in
    rw (in_box_lem g)
    (record {
      showing = rw (in_box_lem t.going) o.showing;
      less = rw (begun_as t.passages, in_box_lem t.going, in_box_lem g, ← told_box e) o.less;
      last = rw (← told_box e) o.last;
    })

-- T: what is going is broken off, and the buttons stay
broken_begun : (g : UnderWay Message) → begun_by movement_buttons (broken_off (under_way_as of_box_lem g)) ≡ buttons_going g
broken_begun nothing = refl
broken_begun (first n (report l)) = refl
broken_begun (first n (reply bytes)) = refl

owed_none : (n : ℕ) → owed (powered_box n) nothing ≡ n ∷ []
unfolding powered_box remembered
owed_none n = refl

powered_none : (n : ℕ) → showing (powered_box n).memory ≡ false
unfolding powered_box
powered_none n = refl

powered_keeps : (n : ℕ) → (powered_box n).settings.buttons ≡ n
unfolding powered_box
powered_keeps n = refl

t_owes : (p : Puck) (byte : ℕ) (g : UnderWay Message) → Owes p (under_way_as of_box_lem g) (Host byte) (by_t p) (test_tells p (under_way_as of_box_lem g))
unfolding by_t test_tells powered buttons_told
t_owes p byte g =
    let n = p.ball.settings.buttons in
    record {
      showing = powered_none n;
      less =
          rw (broken_begun g, owed_none n, in_box_lem g, append-nil (owed p.ball g))
          (fewer_sub (sub_append (sub_all (buttons_going g)) (sub_append (sub_none (remembered p.ball.memory)) (sub_all (n ∷ [])))));
      last = powered_keeps n;
    }

-- in a self-test
quiet_owes : (p : Puck) (e : Event) (m : UnderWay PuckMessage) → in_box m ≡ nothing → Going p → Quiet e → SetTo Mm p.ball nothing → Showing p.ball nothing
    → Owes p m e (by_box p e) (told [] m)
unfolding by_box
quiet_owes p e m no_box g q h s =
    let o = box_owes p.ball (as_box e) nothing h s in
    let t = quiet_told p.ball e g.rests h.awake q in
    record {
      showing = rw no_box (rw t at o.showing);
      less = rw (no_box, ← told_box e) (rw t at o.less);
      last = rw (← told_box e) o.last;
    }

same_owes : (p : Puck) (a : Step) (e : Event) (m : UnderWay PuckMessage) (t : Told PuckMessage) → a.next.ball ≡ p.ball → in_box m ≡ nothing → in_box t.going ≡ nothing
    → begun_by movement_buttons t.passages ≡ []
    → buttons_told (e ∷ []) ≡ []
    → Showing p.ball nothing
    → Owes p m e a t
same_owes p a e m t same no_box no_more begun untold s =
    record {
      showing = rw (same, no_more) s;
      less = λ down u. rw (same, no_box, no_more, begun, untold, append-nil (owed p.ball nothing)) (omega arith);
      last = rw (same, untold);
    }

byte_owes : (p : Puck) (n : ℕ) → Showing p.ball nothing → Owes p (first n (of_test (test_now p))) Send (test_byte p) (sent_one puck_bytes (first n (of_test (test_now p))))
unfolding test_byte buttons_told
byte_owes p n s =
    cases (λ (t : Told PuckMessage). Owes p (first n (of_test (test_now p))) Send (test_byte p) t) (eqb (n + 1) (length (puck_bytes (of_test (test_now p)))))
    (λ _. same_owes p (test_byte p) Send (first n (of_test (test_now p))) _ refl refl refl refl refl s)
    (λ _. same_owes p (test_byte p) Send (first n (of_test (test_now p))) _ refl refl refl refl refl s)

in_owes : (p : Puck) (e : Event) (n : ℕ) → Going p → SetTo Mm p.ball nothing → Showing p.ball nothing
    → Owes p (first n (of_test (test_now p))) e (in_test p e) (tells_in p e (first n (of_test (test_now p))))
unfolding in_test buttons_told
in_owes p (Motion dx dy) n g h s = quiet_owes p (Motion dx dy) (first n (of_test (test_now p))) refl g tt h s
in_owes p (Buttons b) n g h s = quiet_owes p (Buttons b) (first n (of_test (test_now p))) refl g tt h s
in_owes p (Host byte) n g h s = same_owes p (gives [] p) (Host byte) (first n (of_test (test_now p))) (told [] (first n (of_test (test_now p)))) refl refl refl refl refl s
in_owes p Latch n g h s = quiet_owes p Latch (first n (of_test (test_now p))) refl g tt h s
in_owes p Send n g h s = byte_owes p n s
in_owes p Period n g h s = quiet_owes p Period (first n (of_test (test_now p))) refl g tt h s

out_owes : (p : Puck) (e : Event) (g : UnderWay Message) → SetTo Mm p.ball g → Showing p.ball g
    → Owes p (under_way_as of_box_lem g) e (out_of_test p e) (tells_out p e (under_way_as of_box_lem g))
unfolding out_of_test
out_owes p (Motion dx dy) g h s = by_box_owes p (Motion dx dy) g h s
out_owes p (Buttons n) g h s = by_box_owes p (Buttons n) g h s
out_owes p (Host byte) g h s = go (eqb byte letter_t) refl
  where
    go : (t : Bool) → eqb byte letter_t ≡ t
        → Owes p (under_way_as of_box_lem g) (Host byte) (cond (eqb byte letter_t) (by_t p) (by_box p (Host byte)))
        (cond (eqb byte letter_t) (test_tells p (under_way_as of_box_lem g)) (box_tells p (Host byte) (under_way_as of_box_lem g)))
    go true e = rw e (t_owes p byte g)
    go false e = rw e (by_box_owes p (Host byte) g h s)
out_owes p Latch g h s = by_box_owes p Latch g h s
out_owes p Send g h s = by_box_owes p Send g h s
out_owes p Period g h s = by_box_owes p Period g h s

-- a good device, what is under way of it, and the remembered state that this shows
pub record Stands (p : Puck) (g : UnderWay PuckMessage) : Type 0 where
  pub good : good p ≡ true
  pub holds : Holds p g
  pub showing : Showing p.ball (in_box g)

step_owes : (p : Puck) (e : Event) (g : UnderWay PuckMessage) → good p ≡ true → Holds p g → Showing p.ball (in_box g) → Owes p g e (step_of p e) (told_by p e g)
unfolding step_of rules told_by
step_owes p e g k (by_box_lem b z h) s = rw (k, le-ltb 0 p.test.left (omega arith)) (out_owes p e b h (rw (in_box_lem b) at s))
step_owes p e g k (by_test n z some h) s =
    let f = lt-ltb 0 p.test.left some in
    rw (k, f) (in_owes p e n (is_going p (parts p k) f) h s)

stands_step : (p : Puck) (e : Event) (g : UnderWay PuckMessage) → Stands p g → Stands (next_puck p e) (told_by p e g).going
stands_step p e g h =
    record {
      good = stepped_puck p e h.good;
      holds = (step_sent p e g h.good h.holds).holds;
      showing = (step_owes p e g h.good h.holds h.showing).showing;
    }

pub stands_after : (p : Puck) (g : UnderWay PuckMessage) (events : List Event) → Stands p g → Stands (puck_after p events) (going_after p g events)
unfolding going_over puck_after
stands_after p g [] h = h
stands_after p g (e ∷ events) h = stands_after (next_puck p e) (told_by p e g).going events (stands_step p e g h)

-- over every run
begun_append : (a b : List (Passage PuckMessage)) → begun_by movement_buttons (a ++ b) ≡ begun_by movement_buttons a ++ begun_by movement_buttons b
begun_append [] b = refl
begun_append (p ∷ a) b = rw (begun_append a b, append_assoc)

pub never_begun : (p : Puck) (g : UnderWay PuckMessage) (events : List Event) → Stands p g
    → Fewer (begun_by movement_buttons (passages_of p g events) ++ owed_by (puck_after p events) (going_after p g events)) (owed_by p g ++ buttons_told events)
unfolding passages_over going_over puck_after
never_begun p g [] h = fewer_sub (sub_more (owed_by p g) (buttons_told []))
never_begun p g (e ∷ events) h =
    let t = told_by p e g in
    let q = next_puck p e in
    let o = step_owes p e g h.good h.holds h.showing in
    let now = begun_by movement_buttons t.passages in
    let rest = never_begun q t.going events (stands_step p e g h) in
    let same : (u : ℕ) → last_of u (now ++ owed_by q t.going) ≡ last_of u (owed_by p g ++ buttons_told (e ∷ [])) =
    λ u.
    (last_append u now (owed_by q t.going) ∙ last_owed (last_of u now) q.ball (in_box t.going))
    ∙ (o.last
    ∙ sym (last_append u (owed_by p g) (buttons_told (e ∷ [])) ∙ ap (λ (v : ℕ). last_of v (buttons_told (e ∷ []))) (last_owed u p.ball (in_box g)))) in
    λ down u.
    let later = fewer_front now _ _ rest down u in
    let here = fewer_back (now ++ owed_by q t.going) (owed_by p g ++ buttons_told (e ∷ [])) (buttons_told events) same o.less down u in
    rw (begun_append t.passages, told_cons e events, ← append_assoc (owed_by p g) (buttons_told (e ∷ [])) (buttons_told events), append_assoc now)
    (omega (arith, later, rw (append_assoc now (owed_by q t.going) (buttons_told events)) at here))

-- from the making: no more than were made
going_owed : (g : UnderWay PuckMessage) → going_by movement_buttons g ≡ buttons_going (in_box g)
going_owed nothing = refl
going_owed (first n (of_box_lem m)) = refl
going_owed (first n (of_test t)) = refl

module _ (buttons revision maker : ℕ) (p : Puck) (events : List Event) (made : MadePromise buttons revision maker p) where
  abbrev sent : List (Passage PuckMessage)
  sent = passages_of p (at_power_up (buttons % 8) (revision % 16) (maker % 8)) events

  abbrev going : UnderWay PuckMessage
  going = going_after p (at_power_up (buttons % 8) (revision % 16) (maker % 8)) events

  made_showing : showing p.ball.memory ≡ false
  unfolding powered
  made_showing = ap (λ (q : Puck). showing q.ball.memory) made ∙ powered_none (buttons % 8)

  pub made_stands : Stands p (at_power_up (buttons % 8) (revision % 16) (maker % 8))
  made_stands = record { good = made_is_good buttons revision maker p made; holds = made_holds buttons revision maker p made; showing = made_showing }

  made_owed : owed p.ball nothing ≡ buttons % 8 ∷ []
  unfolding powered
  made_owed = ap (λ (q : Puck). owed q.ball nothing) made ∙ owed_none (buttons % 8)

  pub begun_made : (down : ℕ → Bool)
      → presses down (down (buttons % 8)) (begun_by movement_buttons sent ++ going_by movement_buttons going) ≤ presses down (down (buttons % 8)) (buttons_told events)
  unfolding presses
  begun_made down =
      let n = buttons % 8 in
      let g = at_power_up (buttons % 8) (revision % 16) (maker % 8) in
      let last = (puck_after p events).ball in
      let all = never_begun p g events made_stands down n in
      let now : presses down (down n) (begun_by movement_buttons sent ++ owed_by (puck_after p events) going) ≤ presses down (down n) (n ∷ buttons_told events) = rw made_owed at all in
      let some = fewer down (down n) (sub_append (sub_all (begun_by movement_buttons sent)) (sub_more (buttons_going (in_box going)) (remembered last.memory ++ (last.settings.buttons ∷ [])))) in
      rw (going_owed going) (omega (arith, now, some, stays_so down (down n)))

-- the finished ones are among those that were begun
pub finished_begun : (l : List (Passage PuckMessage)) → Sub (buttons_of (movements_in (finished_by shown_by_puck l))) (begun_by movement_buttons l)
finished_begun [] = none
finished_begun (silent ∷ l) = finished_begun l
finished_begun (finished (of_box_lem (report r)) ∷ l) = stays (finished_begun l)
finished_begun (finished (of_box_lem (reply bytes)) ∷ l) = finished_begun l
finished_begun (finished (of_test t) ∷ l) = finished_begun l
finished_begun (broken n m ∷ l) = sub_append (sub_none (movement_buttons m)) (finished_begun l)
