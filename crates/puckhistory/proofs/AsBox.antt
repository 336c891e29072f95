-- Out of a self-test, over events without T, a run of the device is a run of its box, which is handed the bytes that it obeys or ignores.
use mathlib.Core.Path.{◌≡◌, refl, sym, ◌∙◌, ap}
use mathlib.Core.Bool.{Bool, true, not}
use mathlib.Core.List.{List, [], ◌∷◌, ◌++◌, map}
use native.Mathlib.Omega.{arith}
use lib.Dec.{eqb}
use borrow.Author.Tests.{le-ltb, not-true}
use Rattle.numbers.proofs.Tested.{left, right}
use Rattle.frames.specs.Passages.{Passage, silent, finished, broken, UnderWay, finished_by}
use Rattle.frames.specs.Sender.{passages_over, going_over}
use Rattle.frames.specs.Retold.{passages_as, under_way_as, told_as}
use Rattle.wire.specs.Messages.{Message}
use Rattle.ballbox.specs.Promises as boxes
use Rattle.ballbox.specs.declared.Event.{Event}
use Rattle.ballbox.specs.declared.Event.TheVariants.{Motion, Buttons, Host, Latch, Send, Period}
use Rattle.history.specs.Runs as box_runs
use Rattle.history.specs.History as box_history
use Rattle.history.specs.Asked.{all_hosts, hosts_pass}
use Rattle.history.specs.Presses.{box_after, last_box}
use Rattle.vsxxx.specs.Reports.{PuckMessage, of_box_lem}
use Rattle.puck.specs.Device.{with_ball, Step}
use Rattle.puck.specs.Rules.{letter_t, as_box, by_box, out_of_test, rules}
use Rattle.puck.specs.Good.{good}
use Rattle.puck.specs.Promises.{stepped, step_of, StepPromise}
use Rattle.puck.specs.declared.Puck.{Puck}
use Rattle.puck.specs.declared.PuckStepped.{PuckStepped}
use Rattle.puck.proofs.Goodness.{stepped_puck}
use Rattle.puckhistory.specs.Runs.{RunPromise, next_puck, puck_after, last_puck, as_box_answer, without_t}
use Rattle.puckhistory.specs.History.{box_tells, tells_out, told_by, passages_of, going_after}
use Rattle.puckhistory.proofs.Bridge.{in_box_lem}

-- passages told as another kind's, in two parts; and their finished reports
pub passages_as_append : {K L : Type 0} (kind : K → L) (a b : List (Passage K)) → passages_as kind (a ++ b) ≡ passages_as kind a ++ passages_as kind b
passages_as_append kind [] b = refl
passages_as_append kind (p ∷ a) b = rw (passages_as_append kind a b)

pub finished_as : {K L R : Type 0} (kind : K → L) (shows : L → List R) (l : List (Passage K)) → finished_by shows (passages_as kind l) ≡ finished_by (λ k. shows (kind k)) l
finished_as kind shows [] = refl
finished_as kind shows (silent ∷ l) = finished_as kind shows l
finished_as kind shows (finished k ∷ l) = rw (finished_as kind shows l)
finished_as kind shows (broken n k ∷ l) = finished_as kind shows l

-- out of a self-test, an event that is no T
plain_step : (p : Puck) (e : Event) → p.test.left ≡ 0 → hosts_pass (λ byte. not (eqb byte letter_t)) e ≡ true → out_of_test p e ≡ by_box p e
unfolding out_of_test
plain_step p (Motion dx dy) z h = refl
plain_step p (Buttons n) z h = refl
plain_step p (Host byte) z h = rw (not-true (eqb byte letter_t) h)
plain_step p Latch z h = refl
plain_step p Send z h = refl
plain_step p Period z h = refl

by_box_lem : (p : Puck) (e : Event) → good p ≡ true → p.test.left ≡ 0 → hosts_pass (λ byte. not (eqb byte letter_t)) e ≡ true → step_of p e ≡ by_box p e
unfolding step_of rules
by_box_lem p e g z h = rw (g, le-ltb 0 p.test.left (omega arith)) (plain_step p e z h)

plain_tells : (p : Puck) (e : Event) (g : UnderWay PuckMessage) → p.test.left ≡ 0 → hosts_pass (λ byte. not (eqb byte letter_t)) e ≡ true → tells_out p e g ≡ box_tells p e g
plain_tells p (Motion dx dy) g z h = refl
plain_tells p (Buttons n) g z h = refl
plain_tells p (Host byte) g z h = rw (not-true (eqb byte letter_t) h)
plain_tells p Latch g z h = refl
plain_tells p Send g z h = refl
plain_tells p Period g z h = refl

-- its box's step, and what is told of it
module _ (p : Puck) (e : Event) (k : good p ≡ true) (z : p.test.left ≡ 0) (h : hosts_pass (λ byte. not (eqb byte letter_t)) e ≡ true) where
  next_is : next_puck p e ≡ with_ball (boxes.step_of p.ball (as_box e)).next p
  unfolding by_box
  next_is = ap (λ (s : Step). s.next) (by_box_lem p e k z h)

  box_answer : (a : PuckStepped) → StepPromise p e a → boxes.StepPromise p.ball (as_box e) (as_box_answer a)
  unfolding by_box
  box_answer a s = ap as_box_answer (s ∙ ap stepped (by_box_lem p e k z h))

  told_is : (g : UnderWay Message) → told_by p e (under_way_as of_box_lem g) ≡ told_as of_box_lem (box_history.told_by p.ball (as_box e) g)
  unfolding told_by box_tells
  told_is g = rw (le-ltb 0 p.test.left (omega arith)) (plain_tells p e (under_way_as of_box_lem g) z h ∙ rw (in_box_lem g))

abbrev t_free : Event → Bool
t_free e = hosts_pass (λ byte. not (eqb byte letter_t)) e

-- any answers that the promise permits are, as the box gave them, permitted
pub box_run : (p : Puck) (events : List Event) (answers : List PuckStepped) → good p ≡ true → p.test.left ≡ 0 → without_t events ≡ true → RunPromise p events answers
    → box_runs.RunPromise p.ball (map as_box events) (map as_box_answer answers)
unfolding RunPromise box_runs.RunPromise all_hosts
box_run p [] [] k z w r = tt
box_run p [] (a ∷ answers) k z w r = absurd r
box_run p (e ∷ events) [] k z w r = absurd r
box_run p (e ∷ events) (a ∷ answers) k z w r =
    let h = left (t_free e) (without_t events) w in
    let n : a.next ≡ next_puck p e = ap (λ (s : PuckStepped). s.next) r.0 in
    let good_next : good a.next ≡ true = rw n (stepped_puck p e k) in
    let none : a.next.test.left ≡ 0 = ap (λ (q : Puck). q.test.left) (n ∙ next_is p e k z h) ∙ z in
    (box_answer p e k z h a r.0, box_run a.next events answers good_next none (right (t_free e) (without_t events) w) r.1)

pub last_ball : (p : Puck) (answers : List PuckStepped) → (last_puck p answers).ball ≡ last_box p.ball (map as_box_answer answers)
unfolding last_box
last_ball p [] = refl
last_ball p (a ∷ answers) = last_ball a.next answers

-- and so is the device after it
pub ball_after : (p : Puck) (events : List Event) → good p ≡ true → p.test.left ≡ 0 → without_t events ≡ true → (puck_after p events).ball ≡ box_after p.ball (map as_box events)
unfolding puck_after box_after all_hosts
ball_after p [] k z w = refl
ball_after p (e ∷ events) k z w =
    let n = next_is p e k z (left (t_free e) (without_t events) w) in
    let none : (next_puck p e).test.left ≡ 0 = ap (λ (q : Puck). q.test.left) n ∙ z in
    ball_after (next_puck p e) events (stepped_puck p e k) none (right (t_free e) (without_t events) w) ∙ ap (λ (q : Puck). box_after q.ball (map as_box events)) n

-- and its passages are the box's
pub box_passages : (p : Puck) (g : UnderWay Message) (events : List Event) → good p ≡ true → p.test.left ≡ 0 → without_t events ≡ true
    → (passages_of p (under_way_as of_box_lem g) events ≡ passages_as of_box_lem (box_history.passages_of p.ball g (map as_box events)))
    × (going_after p (under_way_as of_box_lem g) events ≡ under_way_as of_box_lem (box_history.going_after p.ball g (map as_box events)))
unfolding passages_over going_over all_hosts
box_passages p g [] k z w = (refl, refl)
box_passages p g (e ∷ events) k z w =
    let h = left (t_free e) (without_t events) w in
    let t = box_history.told_by p.ball (as_box e) g in
    let n = next_is p e k z h in
    let d = told_is p e k z h g in
    let none : (next_puck p e).test.left ≡ 0 = ap (λ (q : Puck). q.test.left) n ∙ z in
    let r = box_passages (next_puck p e) t.going events (stepped_puck p e k) none (right (t_free e) (without_t events) w) in (
      rw (d, r.0, n) (sym (passages_as_append of_box_lem t.passages (box_history.passages_of (box_history.next_box p.ball (as_box e)) t.going (map as_box events)))),
      rw (d, r.1, n),
    )
