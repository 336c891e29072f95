-- What is remembered: a good memory, what each change makes of it, and which buttons are shown.
use Prim.Native.Nat.{ℕ, zero, suc, ◌-◌, ◌≤◌, ◌<◌}
use mathlib.Core.Path.{◌≡◌, refl, sym, ap, ◌∙◌}
use mathlib.Core.Bool.{Bool, true, false, cond, ◌&&◌, ◌||◌}
use mathlib.Core.List.{List, [], ◌∷◌, ◌++◌}
use native.Mathlib.Omega.{arith}
use native.Mathlib.Numerals.{add-one}
use lib.Dec.{leb, ltb, eqb}
use lib.ListN.{length, take, drop, set, length-set, length-drop, length-append, drop_of_length-le, get_or-eq_default}
use lib.Seq.{length-take-le, take-nil, take-append-le, take-take, take-suc-set, drop-cons, get_or-take, get_or-set_other}
use borrow.Author.Tests.{leb-true, leb-false, ltb-true, ltb-false, lt-ltb, le-ltb, le-leb, eqb-true, eq-eqb}
use Rattle.numbers.proofs.Choices.{other, either, cases}
use Rattle.numbers.proofs.Tested.{left, right, each_at, each_of}
use Rattle.wire.specs.Reading.{at}
use Rattle.ballbox.specs.Marks.{is_mark}
use Rattle.ballbox.specs.Presses.{memory, remembered, any_remembered, full, none, remembering, to_show, showing_first, shown, hidden, showing}
use Rattle.ballbox.specs.Good.{states_small, unused_zero, good_memory}
use Rattle.ballbox.specs.declared.Memory.{Memory}
use Rattle.ballbox.specs.declared.BallBox.{BallBox}
use Rattle.ballbox.proofs.Marks.{mark_stands}

-- a good memory, rule by rule; behind the eight places there is nothing but the 0 of `at`
pub record GoodMemory (m : Memory) : Type 0 where
  pub places : length m.states ≡ 8
  pub most : m.count ≤ 8
  pub small : (i : ℕ) → at i m.states ≤ 7
  pub unused : (i : ℕ) → m.count ≤ i → at i m.states ≡ 0
  pub shown : is_mark m.showing ≡ true

pub memory_parts : (m : Memory) → good_memory m ≡ true → GoodMemory m
unfolding good_memory
memory_parts m g =
    let p = eqb (length m.states) 8 in
    let q = leb m.count 8 in
    let four = left (p && q && states_small m && unused_zero m) (is_mark m.showing) g in
    let three = left (p && q && states_small m) (unused_zero m) four in
    let two = left (p && q) (states_small m) three in
    let l = eqb-true (length m.states) 8 (left p q two) in
    record {
      places = l;
      most = leb-true m.count 8 (right p q two);
      small = λ i. few i (ltb i 8) refl l (right (p && q) (states_small m) three);
      unused = λ i. zeros i (ltb i 8) refl l (right (p && q && states_small m) (unused_zero m) four);
      shown = right (p && q && states_small m && unused_zero m) (is_mark m.showing) g;
    }
  where
    few : (i : ℕ) (t : Bool) → ltb i 8 ≡ t → length m.states ≡ 8 → states_small m ≡ true → at i m.states ≤ 7
    few i true e l s = leb-true _ 7 (each_at (λ k. leb (at k m.states) 7) 8 s i (ltb-true i 8 e))
    few i false e l s = let z : at i m.states ≡ 0 = get_or-eq_default m.states 0 (omega (arith, ltb-false i 8 e)) in omega arith

    zeros : (i : ℕ) (t : Bool) → ltb i 8 ≡ t → length m.states ≡ 8 → unused_zero m ≡ true → m.count ≤ i → at i m.states ≡ 0
    zeros i true e l u h = eqb-true _ 0 (other (ltb i m.count) _ (each_at (λ k. ltb k m.count || eqb (at k m.states) 0) 8 u i (ltb-true i 8 e)) (le-ltb i m.count h))
    zeros i false e l u h = get_or-eq_default m.states 0 (omega (arith, ltb-false i 8 e))

pub memory_again : (m : Memory) → GoodMemory m → good_memory m ≡ true
unfolding good_memory
memory_again m g =
    rw (
      eq-eqb _ _ g.places,
      le-leb _ _ g.most,
      each_of (λ i. leb (at i m.states) 7) 8 (λ i l. le-leb _ _ (g.small i)),
      each_of (λ i. ltb i m.count || eqb (at i m.states) 0) 8 (λ i l. either (ltb i m.count) _ (λ e. eq-eqb _ _ (g.unused i (ltb-false i m.count e)))),
      g.shown,
    )

-- one state put in, and the first taken out
set_small : (l : List ℕ) (k n : ℕ) → n ≤ 7 → ((i : ℕ) → at i l ≤ 7) → (i : ℕ) → at i (set l k n) ≤ 7
set_small [] k n p h i = h i
set_small (x ∷ l) zero n p h zero = p
set_small (x ∷ l) zero n p h (suc i) = h (suc i)
set_small (x ∷ l) (suc k) n p h zero = h zero
set_small (x ∷ l) (suc k) n p h (suc i) = set_small l k n p (λ j. h (suc j)) i

zero_behind : (l : List ℕ) (i : ℕ) → at i (l ++ (0 ∷ [])) ≡ at i l
zero_behind [] zero = refl
zero_behind [] (suc i) = refl
zero_behind (x ∷ l) zero = refl
zero_behind (x ∷ l) (suc i) = zero_behind l i

moved_up : (l : List ℕ) (i : ℕ) → at i (drop 1 l ++ (0 ∷ [])) ≡ at (suc i) l
moved_up [] i = zero_behind [] i
moved_up (x ∷ l) i = zero_behind l i

-- what is made of a good memory is good
pub remembering_good : (n : ℕ) (m : Memory) → n ≤ 7 → GoodMemory m → GoodMemory (remembering n m)
unfolding remembering
remembering_good n m p g =
    cases GoodMemory (full m)
    (λ e.
    record {
      places = length-set m.states 7 n ∙ g.places;
      most = g.most;
      small = set_small m.states 7 n p g.small;
      unused = λ i h. get_or-set_other m.states 7 i n 0 (λ s. omega (arith, leb-true 8 m.count e)) ∙ g.unused i h;
      shown = g.shown;
    })
    (λ e.
    record {
      places = length-set m.states m.count n ∙ g.places;
      most = omega (arith, leb-false 8 m.count e);
      small = set_small m.states m.count n p g.small;
      unused = λ i h. get_or-set_other m.states m.count i n 0 (λ s. omega arith) ∙ g.unused i (omega arith);
      shown = g.shown;
    })

pub shown_good : (m : Memory) → GoodMemory m → GoodMemory (shown m)
unfolding shown
shown_good m g =
    cases GoodMemory (showing m)
    (λ e.
    record {
      places = length-append (drop 1 m.states) (0 ∷ []) ∙ omega (arith, length-drop 1 m.states, g.places);
      most = omega (arith, g.most);
      small = λ i. rw (moved_up m.states i) (g.small (suc i));
      unused = λ i h. moved_up m.states i ∙ g.unused (suc i) (omega arith);
      shown = refl;
    })
    (λ e. g)

pub hidden_good : (m : Memory) → GoodMemory m → GoodMemory (hidden m)
unfolding hidden
hidden_good m g = record { places = g.places; most = g.most; small = g.small; unused = g.unused; shown = refl }

pub showing_good : (m : Memory) → GoodMemory m → GoodMemory (showing_first m)
unfolding showing_first
showing_good m g = record { places = g.places; most = g.most; small = g.small; unused = g.unused; shown = mark_stands (any_remembered m) }

-- what is remembered, as a list
drop_take : (c : ℕ) (l : List ℕ) → take (c - 1) (drop 1 l) ≡ drop 1 (take c l)
drop_take zero l = refl
drop_take (suc c) [] = take-nil (suc c - 1)
drop_take (suc c) (x ∷ l) = let e : suc c - 1 ≡ c = omega arith in ap (λ (n : ℕ). take n l) e

pub remembered_none : remembered none ≡ []
unfolding remembered
remembered_none = refl

pub remembered_showing : (m : Memory) → remembered (showing_first m) ≡ remembered m
unfolding remembered showing_first
remembered_showing m = refl

-- "a broken-off report is followed by another with the same buttons"
pub remembered_hidden : (m : Memory) → remembered (hidden m) ≡ remembered m
unfolding remembered hidden
remembered_hidden m = refl

-- a report that showed none of them removes none
pub shown_none : (m : Memory) → showing m ≡ false → shown m ≡ m
unfolding shown
shown_none m e = ap (λ (t : Bool). cond t (memory (drop 1 m.states ++ (0 ∷ [])) (m.count - 1) 0) m) e

module _ (m : Memory) (g : good_memory m ≡ true) where
  pub remembered_length : length (remembered m) ≡ m.count
  unfolding remembered
  remembered_length = let p = memory_parts m g in length-take-le m.count m.states (omega (arith, p.places, p.most))

  -- "the box shall remember button states in order"
  pub remembered_behind : (n : ℕ) → full m ≡ false → remembered (remembering n m) ≡ remembered m ++ (n ∷ [])
  unfolding remembered remembering
  remembered_behind n e =
      let p = memory_parts m g in
      let l : m.count < length m.states = omega (arith, p.places, leb-false 8 m.count e) in
      rw (e, add-one) (take-suc-set m.states m.count n l)

  -- "A ninth change replaces the newest."
  pub remembered_ninth : (n : ℕ) → full m ≡ true → remembered (remembering n m) ≡ take 7 (remembered m) ++ (n ∷ [])
  unfolding remembered remembering
  remembered_ninth n e =
      let p = memory_parts m g in
      let c : m.count ≡ 8 = omega (arith, p.most, leb-true 8 m.count e) in
      let l : 7 < length m.states = omega (arith, p.places) in
      rw (e, c, take-take 7 8 m.states (omega arith)) (take-suc-set m.states 7 n l)

  -- "until the report's last byte has gone"
  pub remembered_shown : showing m ≡ true → remembered (shown m) ≡ drop 1 (remembered m)
  unfolding remembered shown
  remembered_shown e =
      let p = memory_parts m g in
      let l : m.count - 1 ≤ length (drop 1 m.states) = omega (arith, length-drop 1 m.states, p.places, p.most) in
      rw e (take-append-le (m.count - 1) (drop 1 m.states) (0 ∷ []) l ∙ drop_take m.count m.states)

-- the first that is remembered is shown, and with none remembered the present buttons
module _ (b : BallBox) (g : good_memory b.memory ≡ true) where
  pub shows_first : (n : ℕ) (ns : List ℕ) → remembered b.memory ≡ n ∷ ns → to_show b ≡ n
  unfolding to_show remembered
  shows_first n ns e =
      let m = b.memory in
      let l : 0 < m.count = omega (arith, remembered_length m g, ap length e) in
      rw (lt-ltb 0 m.count l) (sym (get_or-take m.count m.states 0 0 l) ∙ ap (at 0) e)

  pub shows_present : remembered b.memory ≡ [] → to_show b ≡ b.settings.buttons
  unfolding to_show
  shows_present e = rw (le-ltb 0 b.memory.count (omega (arith, remembered_length b.memory g, ap length e)))

  pub shown_small : b.settings.buttons ≤ 7 → to_show b ≤ 7
  unfolding to_show
  shown_small h =
      cases (λ (n : ℕ). n ≤ 7) (any_remembered b.memory) (λ e. (memory_parts b.memory g).small 0) (λ e. h)

-- eight places, of which the first is taken out
pub eight_up : (l : List ℕ) → length l ≡ 8 → at 1 l ∷ at 2 l ∷ at 3 l ∷ at 4 l ∷ at 5 l ∷ at 6 l ∷ at 7 l ∷ 0 ∷ [] ≡ drop 1 l ++ (0 ∷ [])
eight_up l e =
    let k : (i : ℕ) → i < 8 → i < length l = λ i h. omega arith in
    let c : (i : ℕ) → i < 8 → drop i l ≡ at i l ∷ drop (suc i) l = λ i h. drop-cons l i 0 (k i h) in
    let z : drop 8 l ≡ [] = drop_of_length-le l {i = 8} (omega arith) in
    rw (c 1 (omega arith), c 2 (omega arith), c 3 (omega arith), c 4 (omega arith), c 5 (omega arith), c 6 (omega arith), c 7 (omega arith), z)
