-- The whole account of a move, of a device: the steps of its box are in the box's account, and T and the bytes of a self-test in none; and the sums since the last T.
use Prim.Native.Nat.{ℕ, ◌+◌, ◌%◌}
use mathlib.Core.Path.{◌≡◌, refl, sym, ◌∙◌, ap, ap₂}
use mathlib.Core.Bool.{Bool, true, false, not, cond, ◌||◌, and-false}
use mathlib.Core.List.{List, [], ◌∷◌, ◌++◌}
use native.Mathlib.Omega.{arith}
use lib.Dec.{eqb}
use lib.ListN.{length}
use lib.IntN.{ℤ, pos, ◌+ℤ◌, +ℤ_idr}
use borrow.Author.Tests.{le-ltb, lt-ltb}
use Rattle.numbers.specs.Signed.{held_long}
use Rattle.numbers.proofs.Choices.{cases}
use Rattle.frames.specs.Passages.{Passage, silent, finished, broken, UnderWay, nothing, first}
use Rattle.frames.specs.Sender.{Told, told, sent_one}
use Rattle.frames.specs.Retold.{passages_as, under_way_as}
use Rattle.wire.specs.Line.{known, named_by}
use Rattle.wire.specs.Messages.{Message}
use Rattle.wire.specs.declared.Format.TheVariants.{Mm}
use Rattle.ballbox.specs.Box.{zeros, dormant}
use Rattle.ballbox.specs.Motion.{is_a}
use Rattle.ballbox.specs.Thrown.{no_sums}
use Rattle.ballbox.specs.Excesses.{thrown, added_up, are_long}
use Rattle.ballbox.specs.Good as boxes
use Rattle.ballbox.specs.Events.{bytes_left}
use Rattle.ballbox.specs.declared.Sums.{Sums}
use Rattle.ballbox.specs.declared.BallBox.{BallBox}
use Rattle.ballbox.specs.declared.Event.{Event}
use Rattle.ballbox.specs.declared.Event.TheVariants.{Motion, Buttons, Host, Latch, Send, Period}
use Rattle.ballbox.proofs.Refusals.{refused_next}
use Rattle.ballbox.proofs.Throwing as throwing
use Rattle.history.specs.History as box_history
use Rattle.history.specs.History.{next_box}
use Rattle.history.specs.Sums.{Kind, over_limit, over_counter, Axis, x_axis, y_axis, excess_of, held_over}
use Rattle.history.specs.Account as box
use Rattle.history.specs.Account.{along, while_awake, selects_a}
use Rattle.history.specs.Carried.{SetTo}
use Rattle.history.proofs.Sums.{added_each}
use Rattle.history.proofs.Account as accounts
use Rattle.history.proofs.Account.{Parts, all, Moved, Balances, Balanced, balance, Standing, Unpaired, quiet_accounts, broken_accounts, step_accounts, standing_step, step_throws, none_along}
use Rattle.vsxxx.specs.Reports.{PuckMessage, of_box_lem, of_test, puck_bytes}
use Rattle.puck.specs.Device.{testing, with_ball, powered_box, powered, test_now, Step}
use Rattle.puck.specs.Rules.{letter_t, is_boxes, no_command, as_box, by_box, by_t, test_byte, in_test, out_of_test, rules}
use Rattle.puck.specs.Good.{good}
use Rattle.puck.specs.Promises.{step_of, MadePromise}
use Rattle.puck.specs.declared.Puck.{Puck}
use Rattle.puck.specs.declared.PuckStepped.{PuckStepped}
use Rattle.puck.proofs.Parts.{Going, Good, parts, is_going}
use Rattle.puck.proofs.Goodness.{of_four, Quiet, stepped_puck, made_is_good}
use Rattle.puckhistory.specs.Runs.{RunPromise, last_puck, next_puck, puck_after}
use Rattle.puckhistory.specs.History.{in_box, box_tells, test_tells, tells_out, tells_in, told_by, passages_of, going_after, at_power_up}
use Rattle.puckhistory.specs.Account.{over, fed_by, value_in, in_finished, in_going, in_counter, excess_by, in_broken, is_t, cleared_by, thrown_then, thrown_since}
use Rattle.puckhistory.specs.Carried.{Holds, by_box_lem, by_test}
use Rattle.puckhistory.proofs.Bridge.{in_box_lem, quiet_told, step_sent, made_holds}

-- a byte that the box is handed selects no format
none_known : (byte : ℕ) → known (cond (is_boxes byte) byte no_command) ≡ false
unfolding known named_by
none_known byte = of_four (λ (x : ℕ). known x ≡ false) refl refl refl refl byte

not_a : (p : Puck) (e : Event) → selects_a p.ball (as_box e) ≡ false
not_a p (Motion dx dy) = refl
not_a p (Buttons n) = refl
not_a p (Host byte) = rw (of_four (λ (x : ℕ). is_a x ≡ false) refl refl refl refl byte) (and-false (not (dormant p.ball)))
not_a p Latch = refl
not_a p Send = refl
not_a p Period = refl

-- so a box of S, with what is going in it, stands as the box's account has it
stands : (p : Puck) (g : UnderWay Message) → SetTo Mm p.ball g → Unpaired g → Standing p.ball g
stands p g h u = record { good = h.good; carries = h.carries; relative = ap is_a h.format; unpaired = u }

-- a byte of the host's throws nothing away, and neither does Send where nothing is going
host_throws : (b : BallBox) (byte : ℕ) → thrown b (Host byte) ≡ no_sums
unfolding thrown
host_throws b byte = cases (λ (s : Sums). s ≡ no_sums) (not (boxes.good b) || false || dormant b) (λ _. refl) (λ _. refl)

send_throws : (b : BallBox) → bytes_left b ≡ false → thrown b Send ≡ no_sums
unfolding thrown
send_throws b l = rw l (cases (λ (s : Sums). s ≡ no_sums) (not (boxes.good b) || false || dormant b) (λ _. refl) (λ _. refl))

none_thrown : (k : Kind) (a : Axis) (s : Sums) → s ≡ no_sums → excess_of k a s ≡ pos 0
none_thrown k a s e = ap (excess_of k a) e ∙ none_along k a

zero_along : (a : Axis) → along a zeros ≡ pos 0
zero_along x_axis = refl
zero_along y_axis = refl

module _ (a : Axis) where
  -- the device, as the account sees it
  abbrev pub device : Moved PuckMessage Puck
  device =
      record {
        next = next_puck;
        tells = told_by;
        value = value_in a;
        counter = in_counter a;
        fed = fed_by a;
        limit = excess_by over_limit a;
        sixteen = excess_by over_counter a;
        cleared = cleared_by a;
      }

  -- what is told of the box has its values
  finished_as_told : (l : List (Passage Message)) → in_finished a (passages_as of_box_lem l) ≡ box.in_finished a l
  finished_as_told [] = refl
  finished_as_told (silent ∷ l) = finished_as_told l
  finished_as_told (finished m ∷ l) = ap (λ (x : ℤ). box.value_in a m +ℤ x) (finished_as_told l)
  finished_as_told (broken n m ∷ l) = finished_as_told l

  broken_as_told : (l : List (Passage Message)) → in_broken a (passages_as of_box_lem l) ≡ box.in_broken a l
  broken_as_told [] = refl
  broken_as_told (silent ∷ l) = broken_as_told l
  broken_as_told (finished m ∷ l) = broken_as_told l
  broken_as_told (broken n m ∷ l) = ap (λ (x : ℤ). box.value_in a m +ℤ x) (broken_as_told l)

  going_as_told : (g : UnderWay Message) → in_going a (under_way_as of_box_lem g) ≡ box.in_going a g
  going_as_told nothing = refl
  going_as_told (first n m) = refl

  -- what an event feeds the box, throws away there and clears there
  same_fed : (b : BallBox) (e : Event) → dormant b ≡ false → box.fed_by a b e ≡ while_awake b (box.fed_by a b (as_box e))
  same_fed b e d = go e ∙ sym (ap (λ (t : Bool). cond t (pos 0) (box.fed_by a b (as_box e))) d)
    where
      go : (e : Event) → box.fed_by a b e ≡ box.fed_by a b (as_box e)
      go (Motion dx dy) = refl
      go (Buttons n) = refl
      go (Host byte) = refl
      go Latch = refl
      go Send = refl
      go Period = refl

  none_cleared : (b : BallBox) (e : Event) → while_awake b (box.cleared_by a b (as_box e)) ≡ pos 0
  none_cleared b e = ap (while_awake b) (go e) ∙ cases (λ (v : ℤ). v ≡ pos 0) (dormant b) (λ _. refl) (λ _. refl)
    where
      go : (e : Event) → box.cleared_by a b (as_box e) ≡ pos 0
      go (Motion dx dy) = refl
      go (Buttons n) = refl
      go (Host byte) = rw (none_known byte)
      go Latch = refl
      go Send = refl
      go Period = refl

  -- a step of the box, told as the device's: its account is the device's
  pub record ToldAs (g : UnderWay Message) (t : Told Message) (h : UnderWay PuckMessage) (u : Told PuckMessage) : Type 0 where
    pub from : in_going a h ≡ box.in_going a g
    pub ends : in_finished a u.passages ≡ box.in_finished a t.passages
    pub breaks : in_broken a u.passages ≡ box.in_broken a t.passages
    pub to : in_going a u.going ≡ box.in_going a t.going

  box_balances : (p : Puck) (e : Event) {g : UnderWay Message} {t : Told Message} {h : UnderWay PuckMessage} {u : Told PuckMessage} (c : BallBox)
      → boxes.good p.ball ≡ true → dormant p.ball ≡ false → is_t p e ≡ false
      → ToldAs g t h u → Balances (accounts.box a) p.ball (as_box e) g c t → Balances device p e h (with_ball c p) u
  box_balances p e c k d isnt same s =
      let b = p.ball in
      let l = step_throws over_limit a b (as_box e) k in
      let o = step_throws over_counter a b (as_box e) k in
      let none : cleared_by a p e ≡ while_awake b (box.cleared_by a b (as_box e)) = rw isnt (sym (none_cleared b e)) in
      ap₂ ◌+ℤ◌ (ap (λ (x : ℤ). x +ℤ in_counter a p) same.from) (same_fed b e d)
      ∙ (s
      ∙ sym (ap₂ (λ (q : Parts) (w : ℤ). all q +ℤ w)
      (λ i. record { finished = same.ends i; limit = l i; counter = o i; broken = same.breaks i; cleared = none i })
      (ap (λ (x : ℤ). x +ℤ box.in_counter a c) same.to)))

  -- an event that ends nothing and leaves the counter, and throws nothing away
  still_balances : (p q : Puck) (e : Event) (g : UnderWay PuckMessage) (t : Told PuckMessage) → thrown p.ball (as_box e) ≡ no_sums → is_t p e ≡ false → fed_by a p e ≡ pos 0 → q.ball ≡ p.ball
      → in_finished a t.passages ≡ pos 0 → in_broken a t.passages ≡ pos 0 → in_going a t.going ≡ in_going a g → Balances device p e g q t
  still_balances p q e g t n isnt f same x y z =
      rw (none_thrown over_limit a _ n, none_thrown over_counter a _ n, isnt, f, same, x, y, z) (quiet_accounts (in_going a g) (in_counter a p))

  -- a step, and that the second pair of what is then going is to come
  abbrev After : Puck → Event → UnderWay PuckMessage → Step → Told PuckMessage → Type 0
  After p e g s t = Balances device p e g s.next t × Unpaired (in_box t.going)

  -- the box's, out of a self-test
  box_after : (p : Puck) (e : Event) (g : UnderWay Message) → is_t p e ≡ false → SetTo Mm p.ball g → Unpaired g → After p e (under_way_as of_box_lem g) (by_box p e) (box_tells p e (under_way_as of_box_lem g))
  unfolding by_box box_tells
  box_after p e g isnt h u =
      let k = stands p g h u in
      let t = box_history.told_by p.ball (as_box e) g in
      let same : ToldAs g t (under_way_as of_box_lem g) (told (passages_as of_box_lem t.passages) (under_way_as of_box_lem t.going))
      = record { from = going_as_told g; ends = finished_as_told t.passages; breaks = broken_as_told t.passages; to = going_as_told t.going } in
      rw (in_box_lem g) (
        box_balances p e (next_box p.ball (as_box e)) h.good h.awake isnt same (step_accounts a p.ball (as_box e) g k),
        rw (in_box_lem t.going) (standing_step p.ball (as_box e) g k (not_a p e)).unpaired,
      )

  -- T
  t_after : (p : Puck) (byte : ℕ) (g : UnderWay Message) → is_t p (Host byte) ≡ true → After p (Host byte) (under_way_as of_box_lem g) (by_t p) (test_tells p (under_way_as of_box_lem g))
  unfolding by_t test_tells powered powered_box
  t_after p byte g is =
      let n = host_throws p.ball (cond (is_boxes byte) byte no_command) in (
        rw (none_thrown over_limit a _ n, none_thrown over_counter a _ n, is, zero_along a) (broken_accounts (value_in a) (under_way_as of_box_lem g) (in_counter a p) (in_counter a p) (pos 0) (+ℤ_idr _)),
        tt,
      )

  -- in a self-test
  quiet_after : (p : Puck) (e : Event) (n : ℕ) → Going p → Quiet e → is_t p e ≡ false → SetTo Mm p.ball nothing
      → After p e (first n (of_test (test_now p))) (by_box p e) (told [] (first n (of_test (test_now p))))
  unfolding by_box
  quiet_after p e n g q isnt h =
      let t = quiet_told p.ball e g.rests h.awake q in
      let s = rw t at (step_accounts a p.ball (as_box e) nothing (stands p nothing h tt)) in
      let same : ToldAs nothing (told [] nothing) (first n (of_test (test_now p))) (told [] (first n (of_test (test_now p)))) = record { from = refl; ends = refl; breaks = refl; to = refl } in
      (box_balances p e (next_box p.ball (as_box e)) h.good h.awake isnt same s, tt)

  sent_after : (p : Puck) (n : ℕ) → bytes_left p.ball ≡ false → After p Send (first n (of_test (test_now p))) (test_byte p) (sent_one puck_bytes (first n (of_test (test_now p))))
  unfolding test_byte
  sent_after p n l =
      let m = of_test (test_now p) in
      let none = send_throws p.ball l in
      cases (λ (t : Told PuckMessage). After p Send (first n m) (test_byte p) t) (eqb (n + 1) (length (puck_bytes m)))
      (λ _. (still_balances p (test_byte p).next Send (first n m) (told (finished m ∷ []) nothing) none refl refl refl refl refl refl, tt))
      (λ _. (still_balances p (test_byte p).next Send (first n m) (told [] (first (n + 1) m)) none refl refl refl refl refl refl, tt))

  in_after : (p : Puck) (e : Event) (n : ℕ) → Going p → SetTo Mm p.ball nothing → After p e (first n (of_test (test_now p))) (in_test p e) (tells_in p e (first n (of_test (test_now p))))
  unfolding in_test
  in_after p (Motion dx dy) n g h = quiet_after p (Motion dx dy) n g tt refl h
  in_after p (Buttons b) n g h = quiet_after p (Buttons b) n g tt refl h
  in_after p (Host byte) n g h =
      let isnt : is_t p (Host byte) ≡ false = rw (lt-ltb 0 p.test.left g.some) in
      (still_balances p p (Host byte) (first n (of_test (test_now p))) (told [] (first n (of_test (test_now p)))) (host_throws p.ball _) isnt refl refl refl refl refl, tt)
  in_after p Latch n g h = quiet_after p Latch n g tt refl h
  in_after p Send n g h = sent_after p n h.carries
  in_after p Period n g h = quiet_after p Period n g tt refl h

  out_after : (p : Puck) (e : Event) (g : UnderWay Message) → testing p ≡ false → SetTo Mm p.ball g → Unpaired g → After p e (under_way_as of_box_lem g) (out_of_test p e) (tells_out p e (under_way_as of_box_lem g))
  unfolding out_of_test
  out_after p (Motion dx dy) g z h u = box_after p (Motion dx dy) g refl h u
  out_after p (Buttons n) g z h u = box_after p (Buttons n) g refl h u
  out_after p (Host byte) g z h u = go (eqb byte letter_t) refl
    where
      go : (t : Bool) → eqb byte letter_t ≡ t
          → After p (Host byte) (under_way_as of_box_lem g) (cond t (by_t p) (by_box p (Host byte))) (cond t (test_tells p (under_way_as of_box_lem g)) (box_tells p (Host byte) (under_way_as of_box_lem g)))
      go true e = t_after p byte g (rw (z, e))
      go false e = box_after p (Host byte) g (rw (z, e)) h u
  out_after p Latch g z h u = box_after p Latch g refl h u
  out_after p Send g z h u = box_after p Send g refl h u
  out_after p Period g z h u = box_after p Period g refl h u

  step_after : (p : Puck) (e : Event) (g : UnderWay PuckMessage) → good p ≡ true → Holds p g → Unpaired (in_box g) → After p e g (step_of p e) (told_by p e g)
  unfolding step_of rules told_by
  step_after p e g k (by_box_lem b z h) u =
      let f = le-ltb 0 p.test.left (omega arith) in
      let v : Unpaired b = rw (in_box_lem b) at u in
      rw (k, f) (out_after p e b f h v)
  step_after p e g k (by_test n z some h) u =
      let f = lt-ltb 0 p.test.left some in
      rw (k, f) (in_after p e n (is_going p (parts p k) f) h)

  -- every run
  balanced : (p : Puck) (g : UnderWay PuckMessage) (events : List Event) → good p ≡ true → Holds p g → Unpaired (in_box g) → Balanced device p g events (puck_after p events)
  unfolding puck_after
  balanced p g [] k h u = refl
  balanced p g (e ∷ events) k h u =
      let s = step_after p e g k h u in
      (s.0, balanced (next_puck p e) (told_by p e g).going events (stepped_puck p e k) (step_sent p e g k h).holds s.1)

  made_counter : (buttons revision maker : ℕ) (p : Puck) → MadePromise buttons revision maker p → in_counter a p ≡ pos 0
  unfolding powered powered_box
  made_counter b r m p e = ap (in_counter a) e ∙ zero_along a

  pub account : (buttons revision maker : ℕ) (p : Puck) (events : List Event) → MadePromise buttons revision maker p
      → over (fed_by a) p events
      ≡ in_finished a (passages_of p (at_power_up (buttons % 8) (revision % 16) (maker % 8)) events)
      +ℤ (in_going a (going_after p (at_power_up (buttons % 8) (revision % 16) (maker % 8)) events)
      +ℤ (in_counter a (puck_after p events)
      +ℤ (over (excess_by over_limit a) p events
      +ℤ (over (excess_by over_counter a) p events
      +ℤ (in_broken a (passages_of p (at_power_up (buttons % 8) (revision % 16) (maker % 8)) events)
      +ℤ over (cleared_by a) p events)))))
  account b r m p events e =
      let g = at_power_up (b % 8) (r % 16) (m % 8) in
      balance device p g events (puck_after p events) (balanced p g events (made_is_good b r m p e) (made_holds b r m p e) tt) (rw (made_counter b r m p e))

-- the device after a run: any answers that the promise permits
pub last_puck_lem : (p : Puck) (events : List Event) (answers : List PuckStepped) → RunPromise p events answers → last_puck p answers ≡ puck_after p events
unfolding RunPromise puck_after
last_puck_lem p [] [] h = refl
last_puck_lem p [] (a ∷ answers) h = absurd h
last_puck_lem p (e ∷ events) [] h = absurd h
last_puck_lem p (e ∷ events) (a ∷ answers) h =
    let n : a.next ≡ next_puck p e = ap (λ (x : PuckStepped). x.next) h.0 in
    last_puck_lem a.next events answers h.1 ∙ ap (λ (q : Puck). puck_after q events) n

-- nothing is added where nothing is thrown away: as of a refused event, which leaves the box as it is
none_added : (b : BallBox) → boxes.good b ≡ true → are_long b.sums ≡ true → added_up b.sums no_sums ≡ b.sums
unfolding thrown
none_added b g l = rw g at (sym (throwing.stepped_sums b l (Buttons 8))) ∙ ap (λ (c : BallBox). c.sums) (refused_next b (Buttons 8) g refl)

-- the sums after a step: T's are none
abbrev Summed : Puck → Event → Step → Type 0
Summed p e s = s.next.ball.sums ≡ cond (is_t p e) no_sums (added_up p.ball.sums (thrown p.ball (as_box e)))

module _ (p : Puck) (k : Good p) (l : are_long p.ball.sums ≡ true) where
  box_sums : (e : Event) → is_t p e ≡ false → Summed p e (by_box p e)
  unfolding by_box
  box_sums e isnt = throwing.stepped_sums p.ball l (as_box e) ∙ rw isnt

  still_sums : (e : Event) (s : Step) → thrown p.ball (as_box e) ≡ no_sums → is_t p e ≡ false → s.next.ball ≡ p.ball → Summed p e s
  still_sums e s n isnt same = rw (same, n, isnt) (sym (none_added p.ball k.ball l))

  in_sums : (e : Event) → Going p → Summed p e (in_test p e)
  unfolding in_test test_byte
  in_sums (Motion dx dy) g = box_sums (Motion dx dy) refl
  in_sums (Buttons n) g = box_sums (Buttons n) refl
  in_sums (Host byte) g = still_sums (Host byte) (in_test p (Host byte)) (host_throws p.ball _) (rw (lt-ltb 0 p.test.left g.some)) refl
  in_sums Latch g = box_sums Latch refl
  in_sums Send g = still_sums Send (test_byte p) (send_throws p.ball (rw g.rests.length (le-ltb p.ball.going.sent 0 (omega arith)))) refl refl
  in_sums Period g = box_sums Period refl

  out_sums : (e : Event) → testing p ≡ false → Summed p e (out_of_test p e)
  unfolding out_of_test by_t powered powered_box
  out_sums (Motion dx dy) z = box_sums (Motion dx dy) refl
  out_sums (Buttons n) z = box_sums (Buttons n) refl
  out_sums (Host byte) z = go (eqb byte letter_t) refl
    where
      go : (t : Bool) → eqb byte letter_t ≡ t → Summed p (Host byte) (cond t (by_t p) (by_box p (Host byte)))
      go true e = rw (z, e)
      go false e = box_sums (Host byte) (rw (z, e))
  out_sums Latch z = box_sums Latch refl
  out_sums Send z = box_sums Send refl
  out_sums Period z = box_sums Period refl

step_sums : (p : Puck) (e : Event) → good p ≡ true → are_long p.ball.sums ≡ true → Summed p e (step_of p e)
unfolding step_of rules
step_sums p e g l = rw g (go (testing p) refl)
  where
    k : Good p
    k = parts p g

    go : (t : Bool) → testing p ≡ t → Summed p e (cond (testing p) (in_test p e) (out_of_test p e))
    go true t = rw t (in_sums p k l e (is_going p k t))
    go false t = rw t (out_sums p k l e t)

-- and so they stay 64-bit numbers, and are what was held since T
held_more : (s x : ℤ) (xs : List ℤ) → held_over s (xs ++ (x ∷ [])) ≡ held_long (held_over s xs) x
unfolding held_over
held_more s x [] = refl
held_more s x (y ∷ xs) = held_more (held_long s y) x xs

abbrev HeldAs : Kind → Axis → List ℤ → Sums → Type 0
HeldAs k a sofar s = (are_long s ≡ true) × (excess_of k a s ≡ held_over (pos 0) sofar)

step_held : (k : Kind) (a : Axis) (sofar : List ℤ) (p : Puck) (e : Event) → good p ≡ true → HeldAs k a sofar p.ball.sums → HeldAs k a (thrown_then k a sofar p e) (next_puck p e).ball.sums
unfolding held_over
step_held k a sofar p e g h = rw (step_sums p e g h.0) (go (is_t p e) refl)
  where
    b : BallBox
    b = p.ball

    go : (t : Bool) → is_t p e ≡ t → HeldAs k a (thrown_then k a sofar p e) (cond t no_sums (added_up b.sums (thrown b (as_box e))))
    go true is = rw is (refl, none_along k a)
    go false is =
        rw is (
          ap are_long (sym (throwing.stepped_sums b h.0 (as_box e))) ∙ throwing.stepped_long b h.0 (as_box e),
          added_each k a b.sums (thrown b (as_box e)) ∙ (ap (λ (s : ℤ). held_long s (excess_by k a p e)) h.1 ∙ sym (held_more (pos 0) (excess_by k a p e) sofar)),
        )

run_held : (k : Kind) (a : Axis) (sofar : List ℤ) (p : Puck) (events : List Event) → good p ≡ true → HeldAs k a sofar p.ball.sums
    → excess_of k a (puck_after p events).ball.sums ≡ held_over (pos 0) (thrown_since k a sofar p events)
unfolding puck_after thrown_since
run_held k a sofar p [] g h = h.1
run_held k a sofar p (e ∷ events) g h = run_held k a (thrown_then k a sofar p e) (next_puck p e) events (stepped_puck p e g) (step_held k a sofar p e g h)

-- from the making
pub sums_held : (k : Kind) (a : Axis) (buttons revision maker : ℕ) (p : Puck) (events : List Event) → MadePromise buttons revision maker p
    → excess_of k a (puck_after p events).ball.sums ≡ held_over (pos 0) (thrown_since k a [] p events)
unfolding powered powered_box held_over
sums_held k a b r m p events e =
    let none : p.ball.sums ≡ no_sums = ap (λ (q : Puck). q.ball.sums) e in
    run_held k a [] p events (made_is_good b r m p e) (rw none, ap (excess_of k a) none ∙ none_along k a)
