-- The V reports that a report becomes: they add up to its movement, each in reach, and no fewer do; they carry its L and R, and as much as they can.
use Prim.Native.Nat.{ℕ, zero, suc, ◌+◌, ◌*◌, ◌≤◌}
use mathlib.Core.Path.{◌≡◌, sym, ◌∙◌, ap}
use mathlib.Core.List.{List, [], ◌∷◌, ◌++◌}
use native.Mathlib.Omega.{arith}
use lib.ListN.{length, get_or, drop, length-append}
use lib.Dec.{ltb}
use lib.IntN.{ℤ, pos, negsuc, nat_abs, neg_ℤ, ◌+ℤ◌, ◌-ℤ◌, +ℤ_idr, +ℤ_assoc, +ℤ_comm, -ℤ-+ℤ_cancel, +ℤ-neg_ℤ_cancel, neg_ℤ-+ℤ}
use borrow.Author.Tests.{ltb-true}
use Rattle.numbers.specs.Bits.{O, bit}
use Rattle.numbers.specs.Signed.{minus}
use Rattle.numbers.proofs.Choices.{cases}
use Rattle.numbers.proofs.Held.{held_excess}
use Rattle.numbers.proofs.Rows.{bit_in}
use Rattle.wire.specs.declared.Report.{Report}
use Rattle.wire.proofs.Codec.Ranges.{magnitude}
use Rattle.bridge.specs.Remembered.{movement}
use Rattle.bridge.specs.Splitting.{carries, leaves, rest, count_of, report_v, split, becomes}
use Rattle.bridge.specs.Sums.{sum_x, sum_y, Every, InReach, BothInReach, AddsUp, SameButtons}
use Rattle.bridge.specs.declared.Past.{Past}
use Rattle.bridge.specs.declared.Move.{Move}
use Rattle.bridge.proofs.Near.{leaves_less}
use Rattle.bridge.proofs.Writing.{carries_within, split_length}

-- the distance of a sum
pub abs_sum : (a b : ℤ) → nat_abs (a +ℤ b) ≤ nat_abs a + nat_abs b
abs_sum (pos a) (pos b) = omega arith
abs_sum (pos a) (negsuc b) = cases (λ (z : ℤ). nat_abs z ≤ a + suc b) (ltb a (suc b)) (λ e. omega (arith, ltb-true a (suc b) e)) (λ _. omega arith)
abs_sum (negsuc a) (pos b) = cases (λ (z : ℤ). nat_abs z ≤ suc a + b) (ltb b (suc a)) (λ e. omega (arith, ltb-true b (suc a) e)) (λ _. omega arith)
abs_sum (negsuc a) (negsuc b) = omega arith

zero_far : (d : ℤ) → nat_abs d ≤ 0 → pos 0 ≡ d
zero_far (pos n) h = ap pos (omega arith)
zero_far (negsuc n) h = absurd (omega arith)

-- n reports carry an axis that is no further than n times 127
parts_x : (n buttons : ℕ) (m : Move) → nat_abs m.x ≤ 127 * n → sum_x (split n buttons m) ≡ m.x
unfolding split
parts_x zero buttons m h = zero_far m.x (omega arith)
parts_x (suc n) buttons m h =
    ap (λ (z : ℤ). carries m.x +ℤ z) (parts_x n buttons (rest m) (omega (arith, leaves_less m.x))) ∙ held_excess (minus 127) (pos 127) m.x

parts_y : (n buttons : ℕ) (m : Move) → nat_abs m.y ≤ 127 * n → sum_y (split n buttons m) ≡ m.y
unfolding split
parts_y zero buttons m h = zero_far m.y (omega arith)
parts_y (suc n) buttons m h =
    ap (λ (z : ℤ). carries m.y +ℤ z) (parts_y n buttons (rest m) (omega (arith, leaves_less m.y))) ∙ held_excess (minus 127) (pos 127) m.y

pub every_split : (P : Report → Type 0) (buttons : ℕ) → ((m : Move) → P (report_v buttons m)) → (n : ℕ) (m : Move) → Every P (split n buttons m)
unfolding split
every_split P buttons h zero m = tt
every_split P buttons h (suc n) m = (h m, every_split P buttons h n (rest m))

-- as many as are counted are enough
enough_x : (m : Move) → nat_abs m.x ≤ 127 * count_of m
unfolding count_of
enough_x m = omega arith

enough_y : (m : Move) → nat_abs m.y ≤ 127 * count_of m
unfolding count_of
enough_y m = omega arith

some_count : (m : Move) → 1 ≤ count_of m
unfolding count_of
some_count m = omega arith

-- "whose movements, each within -127 to 127 on both axes, add up to it [..], at least one"
pub adds_up : (letter : ℕ) (past : Past) (p : Report) → AddsUp (becomes letter past p) (movement letter past p)
unfolding becomes
adds_up letter past p =
    let m = movement letter past p in
    record {
      some = omega (arith, split_length (count_of m) p.buttons m, some_count m);
      each = every_split BothInReach p.buttons (λ m. (carries_within m.x, carries_within m.y)) (count_of m) m;
      east = parts_x (count_of m) p.buttons m (enough_x m);
      north = parts_y (count_of m) p.buttons m (enough_y m);
    }

-- n reports reach 127 times n at most
reach_x : (l : List Report) → Every BothInReach l → nat_abs (sum_x l) ≤ 127 * length l
reach_x [] e = omega arith
reach_x (v ∷ l) e = omega (arith, abs_sum v.x1 (sum_x l), magnitude 126 v.x1 e.0.0, reach_x l e.1)

reach_y : (l : List Report) → Every BothInReach l → nat_abs (sum_y l) ≤ 127 * length l
reach_y [] e = omega arith
reach_y (v ∷ l) e = omega (arith, abs_sum v.y1 (sum_y l), magnitude 126 v.y1 e.0.1, reach_y l e.1)

few : (m : Move) (n : ℕ) → 1 ≤ n → nat_abs m.x ≤ 127 * n → nat_abs m.y ≤ 127 * n → count_of m ≤ n
unfolding count_of
few m n h x y = omega arith

-- "the fewest": no list of V reports that adds up to the movement is shorter
pub fewest : (letter : ℕ) (past : Past) (p : Report) (l : List Report) → AddsUp l (movement letter past p) → length (becomes letter past p) ≤ length l
unfolding becomes
fewest letter past p l h =
    let m = movement letter past p in
    omega (arith, split_length (count_of m) p.buttons m, few m (length l) h.some (rw h.east at (reach_x l h.each)) (rw h.north at (reach_y l h.each)))

-- "all with its L and R"
pub same_buttons : (p : Report) (m : Move) → SameButtons p (report_v p.buttons m)
same_buttons p m =
    let l = bit 2 p.buttons in
    let r = bit 0 p.buttons in
    record { left_is = bit_in [] l (O ∷ r ∷ []); right_is = bit_in (l ∷ O ∷ []) r []; middle_up = bit_in (l ∷ []) O (r ∷ []) }

pub left_and_right : (letter : ℕ) (past : Past) (p : Report) → Every (SameButtons p) (becomes letter past p)
unfolding becomes
left_and_right letter past p = let m = movement letter past p in every_split (SameButtons p) p.buttons (same_buttons p) (count_of m) m

-- "All but the last carry as much as they can on each axis": each carries what is held of what those before it leave, and nobody leaves less
less_carried : (d : ℤ) → d -ℤ carries d ≡ leaves d
less_carried d =
    ap (λ (z : ℤ). z -ℤ carries d) (sym (held_excess (minus 127) (pos 127) d) ∙ +ℤ_comm (carries d) (leaves d)) ∙ +ℤ-neg_ℤ_cancel (leaves d) (carries d)

pub as_much : (d v : ℤ) → InReach v → nat_abs (d -ℤ carries d) ≤ nat_abs (d -ℤ v)
as_much d v h =
    rw (less_carried d)
    (omega (arith, leaves_less d, magnitude 126 v h, rw (-ℤ-+ℤ_cancel d v) at (abs_sum (d -ℤ v) v)))

less_both : (a b c : ℤ) → a -ℤ (b +ℤ c) ≡ a -ℤ b -ℤ c
less_both a b c = ap (λ (z : ℤ). a +ℤ z) (neg_ℤ-+ℤ b c) ∙ sym (+ℤ_assoc a (neg_ℤ b) (neg_ℤ c))

behind_first : (d s : ℤ) → leaves d -ℤ s ≡ d -ℤ (carries d +ℤ s)
behind_first d s = sym (less_both d (carries d) s ∙ ap (λ (z : ℤ). z -ℤ s) (less_carried d))

split_carries : (n buttons : ℕ) (m : Move) (front later : List Report) (v : Report) → split n buttons m ≡ front ++ (v ∷ later)
    → (v.x1 ≡ carries (m.x -ℤ sum_x front)) × (v.y1 ≡ carries (m.y -ℤ sum_y front))
unfolding split
split_carries zero buttons m front later v e = absurd (omega (arith, ap length e, length-append front (v ∷ later)))
split_carries (suc n) buttons m [] later v e =
    let i = ap (λ (l : List Report). get_or l 0 v) e in
    (sym (ap (λ (r : Report). r.x1) i) ∙ ap carries (sym (+ℤ_idr m.x)), sym (ap (λ (r : Report). r.y1) i) ∙ ap carries (sym (+ℤ_idr m.y)))
split_carries (suc n) buttons m (u ∷ front) later v e =
    let i = ap (λ (l : List Report). get_or l 0 v) e in
    let ih = split_carries n buttons (rest m) front later v (ap (λ (l : List Report). drop 1 l) e) in
    rw (← i) (ih.0 ∙ ap carries (behind_first m.x (sum_x front)), ih.1 ∙ ap carries (behind_first m.y (sum_y front)))

pub all_carry : (letter : ℕ) (past : Past) (p : Report) (front later : List Report) (v : Report) → becomes letter past p ≡ front ++ (v ∷ later)
    → let m = movement letter past p in (v.x1 ≡ carries (m.x -ℤ sum_x front)) × (v.y1 ≡ carries (m.y -ℤ sum_y front))
unfolding becomes
all_carry letter past p = let m = movement letter past p in split_carries (count_of m) p.buttons m
