-- Bytes as one number: from the n-th on they are 0 where it is below 256 to the n.
use Prim.Native.Nat.{ℕ, zero, suc, ◌+◌, ◌*◌, ◌<◌, ◌≤◌, ◌^◌, zero-le}
use mathlib.Core.Path.{◌≡◌, refl, sym, ap, subst}
use mathlib.Core.Bool.{Bool, true, false, not, ◌&&◌, ◌||◌}
use mathlib.Core.List.{List}
use native.Mathlib.Omega.{arith}
use lib.Dec.{eqb, ltb, leb}
use lib.ListN.{length}
use borrow.Author.Tests.{ltb-true, ltb-false, eqb-true, eq-eqb, lt-ltb, le-ltb, le-leb}
use Rattle.numbers.specs.Tests.{each}
use Rattle.numbers.proofs.Tested.{each_of, each_at}
use Rattle.numbers.proofs.Choices.{other, either}
use Rattle.wire.specs.Reading.{at}
use Rattle.wire.specs.Line.{letter_of}
use Rattle.wire.specs.declared.Format.TheVariants.{FiveByte}
use Rattle.ballbox.specs.Marks.{is_mark}
use Rattle.ballbox.specs.Numbers.{number_from}
use Rattle.ballbox.specs.Good.{rest_zero, second_held, good_going, states_small, unused_zero, good_memory}
use Rattle.ballbox.specs.declared.Going.{Going}
use Rattle.ballbox.specs.declared.Memory.{Memory}

power : (n : ℕ) → 256 ^ suc n ≡ 256 * 256 ^ n
power n = omega arith

-- a number below 256 to the n has nothing from the n-th byte on
above_none : (l : List ℕ) (k i n j : ℕ) → number_from k i l < 256 ^ n → n ≤ j → j < k → at (i + j) l ≡ 0
above_none l zero i n j h a b = elim b [ ]
above_none l (suc k) i zero zero h a b = let e : i + 0 ≡ i = omega arith in subst (λ (m : ℕ). at m l ≡ 0) (sym e) (omega arith)
above_none l (suc k) i zero (suc j) h a b =
    let e : i + suc j ≡ suc i + j = omega arith in
    let r : number_from k (suc i) l < 256 ^ 0 = omega arith in
    subst (λ (m : ℕ). at m l ≡ 0) (sym e) (above_none l k (suc i) zero j r (omega arith) (omega arith))
above_none l (suc k) i (suc n) zero h a b = elim a [ ]
above_none l (suc k) i (suc n) (suc j) h a b =
    let e : i + suc j ≡ suc i + j = omega arith in
    let p = power n in
    let r : number_from k (suc i) l < 256 ^ n = omega arith in
    subst (λ (m : ℕ). at m l ≡ 0) (sym e) (above_none l k (suc i) n j r (omega arith) (omega arith))

-- and the other way
none_above : (l : List ℕ) (k i n : ℕ) → ((j : ℕ) → j < k → at (i + j) l < 256) → ((j : ℕ) → n ≤ j → j < k → at (i + j) l ≡ 0) → number_from k i l < 256 ^ n
none_above l zero i zero s z = omega arith
none_above l zero i (suc n) s z = let p = power n in let r = none_above l zero i n s (λ j a b. z j (omega arith) (omega arith)) in omega arith
none_above l (suc k) i zero s z =
    let e : i + 0 ≡ i = omega arith in
    let f : at i l ≡ 0 = subst (λ (m : ℕ). at m l ≡ 0) e (z 0 (omega arith) (omega arith)) in
    let r = none_above l k (suc i) zero (λ j b. subst (λ (m : ℕ). at m l < 256) (omega arith) (s (suc j) (omega arith))) (λ j a b. subst (λ (m : ℕ). at m l ≡ 0) (omega arith) (z (suc j) (omega arith) (omega arith))) in
    omega arith
none_above l (suc k) i (suc n) s z =
    let e : i + 0 ≡ i = omega arith in
    let p = power n in
    let f : at i l < 256 = subst (λ (m : ℕ). at m l < 256) e (s 0 (omega arith)) in
    let r = none_above l k (suc i) n (λ j b. subst (λ (m : ℕ). at m l < 256) (omega arith) (s (suc j) (omega arith))) (λ j a b. subst (λ (m : ℕ). at m l ≡ 0) (omega arith) (z (suc j) (omega arith) (omega arith))) in
    omega arith

-- two tests of which each gives the other
both_ways : (a b : Bool) → (a ≡ true → b ≡ true) → (b ≡ true → a ≡ true) → a ≡ b
both_ways true b f g = sym (f refl)
both_ways false true f g = g refl
both_ways false false f g = refl

plain : (j : ℕ) → 0 + j ≡ j
plain j = omega arith

-- the test by one comparison is the test byte by byte
pub rest_none : (l : List ℕ) (k n : ℕ) → ((j : ℕ) → j < k → at j l < 256) → ltb (number_from k 0 l) (256 ^ n) ≡ each (λ j. ltb j n || eqb (at j l) 0) k
rest_none l k n s =
    both_ways _ _
    (λ t. each_of (λ j. ltb j n || eqb (at j l) 0) k (λ j b. either (ltb j n) (eqb (at j l) 0) (λ f. eq-eqb _ _ (subst (λ (m : ℕ). at m l ≡ 0) (plain j) (above_none l k 0 n j (ltb-true _ _ t) (ltb-false _ _ f) b)))))
    (λ t. lt-ltb _ _ (none_above l k 0 n (λ j b. subst (λ (m : ℕ). at m l < 256) (sym (plain j)) (s j b)) (λ j a b. subst (λ (m : ℕ). at m l ≡ 0) (sym (plain j)) (eqb-true _ _ (other (ltb j n) (eqb (at j l) 0) (each_at (λ j. ltb j n || eqb (at j l) 0) k t j b) (le-ltb _ _ a))))))

-- where the bytes that count are all there are
pub rest_all : (l : List ℕ) (k n : ℕ) → k ≤ n → each (λ j. ltb j n || eqb (at j l) 0) k ≡ true
rest_all l k n h = each_of (λ j. ltb j n || eqb (at j l) 0) k (λ j b. rw (lt-ltb j n (omega arith)))

-- where none counts, each that is 0 is small
none_zero : (l : List ℕ) (k : ℕ) → each (λ j. ltb j 0 || eqb (at j l) 0) k ≡ true → (j : ℕ) → j < k → at j l ≡ 0
none_zero l k t j b = eqb-true _ _ (other (ltb j 0) (eqb (at j l) 0) (each_at (λ j. ltb j 0 || eqb (at j l) 0) k t j b) (le-ltb j 0 zero-le))

implied : (a b : Bool) → (b ≡ true → a ≡ true) → b ≡ a && b
implied a true f = rw (f refl)
implied true false f = refl
implied false false f = refl

pub empty_memory : (m : Memory) → length m.states ≡ 8 → m.count ≡ 0 → unused_zero m && is_mark m.showing ≡ good_memory m
unfolding good_memory
empty_memory m e z =
    let small : unused_zero m ≡ true → states_small m ≡ true = λ t.
    each_of (λ j. leb (at j m.states) 7) 8
    (λ j b. rw (none_zero m.states 8 (subst (λ (n : ℕ). each (λ j. ltb j n || eqb (at j m.states) 0) 8 ≡ true) z t) j b)) in
    rw (eq-eqb (length m.states) 8 e, le-leb m.count 8 (omega arith)) (ap (λ (t : Bool). t && is_mark m.showing) (implied (states_small m) (unused_zero m) small))

going_tests : (s sb eb lk k sh rz : Bool) → sb ≡ false → eb ≡ true → lk ≡ true → (rz ≡ true → sh ≡ true) → s && rz ≡ (sb || (s && eb)) && (lk || k) && sh && rz
going_tests true sb eb lk k sh rz p q u f = rw (p, q, u) (implied sh rz f)
going_tests false sb eb lk k sh rz p q u f = rw p

or_true : (a b : Bool) → a || b || true ≡ true
or_true true b = refl
or_true false true = refl
or_true false false = refl

pub empty_going : (letter : ℕ) (g : Going) → g.length ≡ 0 → eqb g.sent 0 && rest_zero g ≡ good_going letter g
unfolding good_going
empty_going letter g z =
    let none : rest_zero g ≡ true → (j : ℕ) → j < 5 → at j g.bytes ≡ 0 = λ t j b.
    none_zero g.bytes 5 (subst (λ (n : ℕ). each (λ j. ltb j n || eqb (at j g.bytes) 0) 5 ≡ true) z t) j b in
    let held : rest_zero g ≡ true → second_held letter g ≡ true = λ t.
    rw (none t 3 (omega arith), none t 4 (omega arith)) (or_true (not (eqb letter (letter_of FiveByte))) (leb 4 g.sent)) in
    going_tests (eqb g.sent 0) (ltb g.sent g.length) (eqb g.length 0) (leb g.length 3) _ (second_held letter g) (rest_zero g)
    (le-ltb g.sent g.length (omega arith)) (eq-eqb g.length 0 z) (le-leb g.length 3 (omega arith)) held
