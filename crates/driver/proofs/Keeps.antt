-- Good drivers: a fresh one is good, and every call of a good one gives a good one.
use Rattle.std.proofs.Common.{Option, Some, None, ℤ}
use Prim.Native.Nat.{ℕ, ◌+◌, ◌≤◌, ◌<◌}
use mathlib.Core.Path.{◌≡◌, refl}
use mathlib.Core.Bool.{Bool, true, false, cond, ◌&&◌, ◌||◌, true≢false}
use mathlib.Core.List.{List, [], ◌∷◌}
use native.Mathlib.Omega.{arith}
use lib.Dec.{leb, eqb}
use lib.IntN.{pos, negsuc}
use lib.ListN.{take, drop}
use borrow.Author.Tests.{leb-true, leb-false, le-leb}
use Rattle.numbers.proofs.Tested.{left, right}
use Rattle.numbers.proofs.Choices.{cases, both}
use Rattle.wire.specs.Line.{known}
use Rattle.fold.proofs.Laws.{stays}
use Rattle.text.specs.Decimals.{plain, number_in}
use Rattle.text.specs.Lengths.{length_to}
use Rattle.listing.specs.Lines.{newline, tab}
use Rattle.listing.specs.Scanning.{most_lines}
use Rattle.ballbox.specs.Box.{fresh_box}
use Rattle.ballbox.specs.Good as ball
use Rattle.ballbox.specs.Promises.{step_of}
use Rattle.ballbox.specs.declared.BallBox.{BallBox}
use Rattle.ballbox.specs.declared.Event.{Event}
use Rattle.ballbox.specs.declared.Event.TheVariants.{Host, Latch, Send}
use Rattle.ballbox.proofs.Goodness.{stepped_good}
use Rattle.ballbox.proofs.Goodness as box
use Rattle.driver.specs.Lines.{letter_f, letter_m, letter_n, letter_c, letter_s, letter_p, letter_t, alone_in, format_in, up_to, outside, motion_of, motion_in, with_fields, said_by}
use Rattle.driver.specs.Driving.{Leaves, slot, slots, first_line, later_line, line_done}
use Rattle.driver.specs.Feeding.{longest, at_line, fresh, Turning, unfinished, owed_by, besides, taken_of, byte_of, slot_of, end_of, slot_tick, end_tick, tick_of, drives, ticks_from, feed_in, good}
use Rattle.driver.specs.declared.Order.{Order}
use Rattle.driver.specs.declared.Order.TheVariants as order
use Rattle.driver.specs.declared.Driver.{Driver}

-- no line asks for too many slots
abbrev Few : Order → Type 0
Few o = owed_by o ≤ most_lines

few_up_to : (bound : ℕ) (says : ℕ → Order) → ((n : ℕ) → n ≤ bound → Few (says n)) → (x : Option ℤ) → Few (up_to bound says x)
few_up_to bound says few None = omega arith
few_up_to bound says few (Some (pos n)) = cases Few (leb n bound) (λ e. few n (leb-true n bound e)) (λ _. omega arith)
few_up_to bound says few (Some (negsuc n)) = omega arith

few_motion : (x y : Option ℤ) → Few (motion_of x y)
few_motion None y = omega arith
few_motion (Some x) None = omega arith
few_motion (Some x) (Some y) = cases Few (outside x || outside y) (λ _. omega arith) (λ _. omega arith)

few_format : (bytes : List ℕ) → Few (format_in bytes)
unfolding format_in
few_format [] = omega arith
few_format (c ∷ []) = cases Few (known c) (λ _. omega arith) (λ _. omega arith)
few_format (c ∷ d ∷ l) = omega arith

few_alone : (a : ℕ) → Few (alone_in a)
unfolding alone_in
few_alone a = cases Few (eqb a letter_p) (λ _. omega arith) (λ _. cases Few (eqb a letter_t) (λ _. omega arith) (λ _. cases Few (eqb a letter_s) (λ _. omega arith) (λ _. omega arith)))

few_fields : (a : ℕ) (bytes : List ℕ) → Few (with_fields a bytes)
unfolding with_fields motion_in
few_fields a bytes =
    let n = length_to tab bytes in
    cases Few (eqb a letter_f) (λ _. few_format bytes)
    (λ _. cases Few (eqb a letter_m) (λ _. few_motion (number_in plain (take n bytes)) (number_in plain (drop (n + 1) bytes)))
    (λ _. cases Few (eqb a letter_n) (λ _. few_up_to 255 _ (λ n h. omega arith) (number_in plain bytes))
    (λ _. cases Few (eqb a letter_c) (λ _. few_up_to 255 _ (λ n h. omega arith) (number_in plain bytes))
    (λ _. cases Few (eqb a letter_s) (λ _. few_up_to most_lines _ (λ n h. h) (number_in plain bytes)) (λ _. omega arith)))))

pub few_said : (l : List ℕ) → owed_by (said_by l) ≤ most_lines
unfolding said_by
few_said [] = omega arith
few_said (a ∷ []) = few_alone a
few_said (a ∷ b ∷ l) = cases Few (eqb b tab) (λ _. few_fields a l) (λ _. omega arith)

-- a line that is not the last is no line too many
pub goes_on : (n : ℕ) (b : BallBox) (o : Order) → (line_done n b o).ends ≡ false → n < most_lines
unfolding line_done
goes_on n b o = cases (λ (d : Leaves). d.ends ≡ false → n < most_lines) (leb most_lines n) (λ _ e. absurd (true≢false e)) (λ h _. leb-false most_lines n h)

-- what holds of a fresh box, and of the box after every step of one of which it holds
pub record Stays (P : BallBox → Type 0) : Type 0 where
  pub fresh : P fresh_box
  pub step : (b : BallBox) (e : Event) → P b → P (step_of b e).next

-- it stays so, whatever a line says
module _ {P : BallBox → Type 0} (S : Stays P) where
  pub slot_stays : (b : BallBox) → P b → P (slot b).next
  slot_stays b h = S.step (step_of b Latch).next Send (S.step b Latch h)

  line_stays : (n : ℕ) (b : BallBox) (o : Order) → P b → P (line_done n b (besides o)).next
  unfolding line_done slots
  line_stays n b o h =
      let Q : Leaves → Type 0 = λ d. P d.next in
      cases Q (leb most_lines n) (λ _. h) (λ _. cases Q (eqb n 0) (λ _. first o) (λ _. later o))
    where
      first : (o : Order) → P (first_line b (besides o)).next
      first order.Bad = h
      first (order.Format f) = S.step fresh_box (Host f) S.fresh
      first (order.Single e) = h
      first (order.Slots k) = h

      later : (o : Order) → P (later_line (n + 1) b (besides o)).next
      later order.Bad = h
      later (order.Format f) = h
      later (order.Single e) = cases (λ (d : Leaves). P d.next) (eqb (step_of b e).refusal 0) (λ _. S.step b e h) (λ _. h)
      later (order.Slots k) = h

-- a driver that keeps its rules, part by part, with such a box
pub record GoodWith (P : BallBox → Type 0) (m : Driver) : Type 0 where
  pub lines : m.line ≤ most_lines
  pub few : m.count ≤ longest
  pub slots : m.owed ≤ most_lines
  pub box : P m.ball

-- a line, a byte, a slot and the end
module _ {P : BallBox → Type 0} (S : Stays P) where
  line_keeps : (m : Driver) (o : Order) → owed_by o ≤ most_lines → GoodWith P m → GoodWith P (taken_of m o).next
  unfolding taken_of
  line_keeps m o few g =
      cases (λ (t : Turning). GoodWith P t.next) m.ended (λ _. record { lines = g.lines; few = omega arith; slots = g.slots; box = g.box })
      (λ _. go d.ends (goes_on m.line m.ball (besides o)))
    where
      d : Leaves
      d = line_done m.line m.ball (besides o)

      go : (t : Bool) → (t ≡ false → m.line < most_lines) → GoodWith P (at_line (cond t m.line (m.line + 1)) t (cond t 0 (owed_by o)) d.next)
      go true k = record { lines = g.lines; few = omega arith; slots = omega arith; box = line_stays S m.line m.ball o g.box }
      go false k = record { lines = omega (arith, k refl); few = omega arith; slots = few; box = line_stays S m.line m.ball o g.box }

  byte_keeps : (m : Driver) (c : ℕ) → GoodWith P m → GoodWith P (byte_of m c).next
  unfolding byte_of
  byte_keeps m c g =
      let Q : Turning → Type 0 = λ t. GoodWith P t.next in
      cases Q (eqb c newline) (λ _. line_keeps m (said_by (unfinished m)) (few_said (unfinished m)) g)
      (λ _. cases Q (leb longest m.count) (λ _. line_keeps m order.Bad (omega arith) g)
      (λ e. record { lines = g.lines; few = omega (arith, leb-false longest m.count e); slots = g.slots; box = g.box }))

  slot_keeps : (m : Driver) → GoodWith P m → GoodWith P (slot_of m).next
  unfolding slot_of
  slot_keeps m g = record { lines = g.lines; few = g.few; slots = omega (arith, g.slots); box = slot_stays S m.ball g.box }

  end_keeps : (m : Driver) → GoodWith P m → GoodWith P (end_of m).next
  unfolding end_of
  end_keeps m g = record { lines = g.lines; few = omega arith; slots = g.slots; box = g.box }

  pub each_keeps : (m : Driver) (t : ℕ) → GoodWith P m → GoodWith P (tick_of m t).next
  unfolding tick_of
  each_keeps m t g =
      let Q : Turning → Type 0 = λ t. GoodWith P t.next in
      cases Q (eqb t slot_tick) (λ _. slot_keeps m g) (λ _. cases Q (eqb t end_tick) (λ _. end_keeps m g) (λ _. byte_keeps m t g))

-- a good driver
abbrev GoodBox : BallBox → Type 0
GoodBox b = ball.good b ≡ true

boxes : Stays GoodBox
boxes = record { fresh = box.fresh_is_good fresh_box refl; step = stepped_good }

abbrev pub Good : Driver → Type 0
Good m = GoodWith (λ b. ball.good b ≡ true) m

pub parts : (m : Driver) → good m ≡ true → Good m
unfolding good
parts m g =
    let a = leb m.line most_lines in
    let b = leb m.count longest in
    let c = leb m.owed most_lines in
    let d = ball.good m.ball in
    let abc = left (a && b && c) d g in
    let ab = left (a && b) c abc in
    record {
      lines = leb-true _ _ (left a b ab);
      few = leb-true _ _ (right a b ab);
      slots = leb-true _ _ (right (a && b) c abc);
      box = right (a && b && c) d g;
    }

pub made : (m : Driver) → Good m → good m ≡ true
unfolding good
made m g = both _ _ (both _ _ (both _ _ (le-leb _ _ g.lines) (le-leb _ _ g.few)) (le-leb _ _ g.slots)) g.box

pub tick_keeps : (m : Driver) (t : ℕ) → Good m → Good (tick_of m t).next
tick_keeps = each_keeps boxes

pub fresh_is_good : good fresh ≡ true
fresh_is_good = made fresh (record { lines = omega arith; few = omega arith; slots = omega arith; box = box.fresh_is_good fresh_box refl })

pub feed_stays_good : (m : Driver) (input : List ℕ) (room : ℕ) → good m ≡ true → good (feed_in m input room).next ≡ true
unfolding feed_in
feed_stays_good m input room g = made _ (stays drives Good tick_keeps (ticks_from input m) m room (parts m g))
