-- Numbers held between two ends, and the sums that are held at 16 bits.
use Prim.Native.Nat.{ℕ, zero, suc, ◌+◌, ◌-◌, ◌≤◌, ◌<◌, ◌^◌}
use mathlib.Core.Path.{◌≡◌, refl, sym, ap, subst, ◌∙◌}
use mathlib.Core.Bool.{Bool, true, false, not, cond, ◌&&◌}
use native.Mathlib.Omega.{arith}
use lib.IntN.{ℤ, pos, negsuc, neg_ℤ, ◌+ℤ◌, ◌-ℤ◌, sub_ℕ, +ℤ_idr, +ℤ_comm, +ℤ_assoc, neg_ℤ-+ℤ, +ℤ-neg_ℤ_cancel, -ℤ-+ℤ_cancel}
use lib.Dec.{T, ltb, leb-suc-suc}
use lib.Signed.{mag, lt_z, le_z, non_neg}
use mir.Syntax.{Width, w16, w32, w64}
use mir.Val.{SFits, hbits}
use borrow.Author.Tests.{ltb-false, leb-true, lt-ltb, le-ltb, le-leb}
use Rattle.numbers.specs.Signed.{held, excess}
use Rattle.numbers.proofs.Tested.{left, right, holds}
use Rattle.numbers.proofs.Machine.{neg_near}

-- what lies between two numbers of a width is a number of the width
near_between : (m : ℕ) (lo hi x : ℤ) → mag lo < m → mag hi < m → lt_z x lo ≡ false → lt_z hi x ≡ false → mag x < m
near_between m lo (pos b) (pos x) h k p q = omega (arith, ltb-false b x q)
near_between m (negsuc a) hi (negsuc x) h k p q = omega (arith, ltb-false a x p)
near_between m lo (negsuc b) (pos x) h k p q = absurd (subst T q tt)
near_between m (pos a) hi (negsuc x) h k p q = absurd (subst T p tt)

pub between_fits : {w : Width} {lo hi x : ℤ} → SFits w lo → SFits w hi → lt_z x lo ≡ false → lt_z hi x ≡ false → SFits w x
between_fits {w} {lo} {hi} {x} h k p q = record { sfits = near_between (2 ^ hbits w) lo hi x h.sfits k.sfits p q }

-- what is held between two ends lies between them
lt_z_le_z : (a b : ℤ) → lt_z a b ≡ false → le_z b a ≡ true
lt_z_le_z (pos a) (pos b) e = le-leb b a (ltb-false a b e)
lt_z_le_z (pos a) (negsuc b) e = refl
lt_z_le_z (negsuc a) (pos b) e = absurd (subst T e tt)
lt_z_le_z (negsuc a) (negsuc b) e = le-leb a b (ltb-false b a e)

le_z_lt_z : (a b : ℤ) → le_z b a ≡ true → lt_z a b ≡ false
le_z_lt_z (pos a) (pos b) e = le-ltb a b (leb-true b a e)
le_z_lt_z (pos a) (negsuc b) e = refl
le_z_lt_z (negsuc a) (pos b) e = absurd (holds e)
le_z_lt_z (negsuc a) (negsuc b) e = le-ltb b a (leb-true a b e)

pub le_z_trans : (a b c : ℤ) → le_z a b ≡ true → le_z b c ≡ true → le_z a c ≡ true
le_z_trans (pos a) (pos b) (pos c) h k = le-leb a c (omega (arith, leb-true a b h, leb-true b c k))
le_z_trans (negsuc a) (negsuc b) (negsuc c) h k = le-leb c a (omega (arith, leb-true b a h, leb-true c b k))
le_z_trans (negsuc a) b (pos c) h k = refl
le_z_trans (pos a) (pos b) (negsuc c) h k = absurd (holds k)
le_z_trans (pos a) (negsuc b) c h k = absurd (holds h)
le_z_trans (negsuc a) (pos b) (negsuc c) h k = absurd (holds k)

le_z_self : (a : ℤ) → le_z a a ≡ true
le_z_self (pos n) = le-leb n n (omega arith)
le_z_self (negsuc n) = le-leb n n (omega arith)

inside : (lo hi x : ℤ) (s t : Bool) → lt_z x lo ≡ s → lt_z hi x ≡ t → le_z lo hi ≡ true → le_z lo (cond s lo (cond t hi x)) && le_z (cond s lo (cond t hi x)) hi ≡ true
inside lo hi x true t p q r = simp (le_z_self lo, r)
inside lo hi x false true p q r = simp (le_z_self hi, r)
inside lo hi x false false p q r = simp (lt_z_le_z x lo p, lt_z_le_z hi x q)

pub held_inside : (lo hi x : ℤ) → le_z lo hi ≡ true → le_z lo (held lo hi x) && le_z (held lo hi x) hi ≡ true
unfolding held
held_inside lo hi x r = inside lo hi x (lt_z x lo) (lt_z hi x) refl refl r

-- and what lies between them is held as it is
pub held_same : (lo hi x : ℤ) → le_z lo x && le_z x hi ≡ true → held lo hi x ≡ x
unfolding held
held_same lo hi x e = rw (le_z_lt_z x lo (left (le_z lo x) (le_z x hi) e), le_z_lt_z hi x (right (le_z lo x) (le_z x hi) e))

-- what is held, and the excess, make up the number
made_up : (lo hi x : ℤ) (s t : Bool) → cond s lo (cond t hi x) +ℤ cond s (x -ℤ lo) (cond t (x -ℤ hi) (pos 0)) ≡ x
made_up lo hi x true t = +ℤ_comm lo (x -ℤ lo) ∙ -ℤ-+ℤ_cancel x lo
made_up lo hi x false true = +ℤ_comm hi (x -ℤ hi) ∙ -ℤ-+ℤ_cancel x hi
made_up lo hi x false false = +ℤ_idr x

pub held_excess : (lo hi x : ℤ) → held lo hi x +ℤ excess lo hi x ≡ x
unfolding held excess
held_excess lo hi x = made_up lo hi x (lt_z x lo) (lt_z hi x)

-- what lies between the ends has no excess
pub excess_none : (lo hi x : ℤ) → le_z lo x && le_z x hi ≡ true → excess lo hi x ≡ pos 0
unfolding excess
excess_none lo hi x e = rw (le_z_lt_z x lo (left (le_z lo x) (le_z x hi) e), le_z_lt_z hi x (right (le_z lo x) (le_z x hi) e))

-- a number is below another where their difference is below 0: adding to both changes nothing
sub_sign : (a b : ℕ) → ltb a b ≡ not (non_neg (sub_ℕ a b))
sub_sign a b = go (ltb a b) (b - suc a) (a - b)
  where
    go : (t : Bool) (x y : ℕ) → t ≡ not (non_neg (cond t (negsuc x) (pos y)))
    go true x y = refl
    go false x y = refl

difference : (x y : ℤ) → lt_z x y ≡ not (non_neg (x -ℤ y))
difference (pos a) (pos zero) = le-ltb a 0 (omega arith)
difference (pos a) (pos (suc b)) = sub_sign a (suc b)
difference (pos a) (negsuc b) = refl
difference (negsuc a) (pos zero) = sym (lt-ltb 0 (suc a) (omega arith)) ∙ sub_sign 0 (suc a)
difference (negsuc a) (pos (suc b)) = refl
difference (negsuc a) (negsuc b) = sym (leb-suc-suc (suc b) a) ∙ sub_sign (suc b) (suc a)

plus_both : (x y c : ℤ) → (x +ℤ c) -ℤ (y +ℤ c) ≡ x -ℤ y
plus_both x y c =
    ap (λ (z : ℤ). x +ℤ c +ℤ z) (neg_ℤ-+ℤ y c ∙ +ℤ_comm (neg_ℤ y) (neg_ℤ c)) ∙
    (sym (+ℤ_assoc (x +ℤ c) (neg_ℤ c) (neg_ℤ y)) ∙ ap (λ (z : ℤ). z +ℤ neg_ℤ y) (+ℤ-neg_ℤ_cancel x c))

pub lt_z_plus : (x y c : ℤ) → lt_z (x +ℤ c) (y +ℤ c) ≡ lt_z x y
lt_z_plus x y c = difference (x +ℤ c) (y +ℤ c) ∙ (ap (λ (z : ℤ). not (non_neg z)) (plus_both x y c) ∙ sym (difference x y))

-- so a sum is compared without being made: with an end, less one of the two
pub below_less : (a b lo : ℤ) → lt_z a (lo -ℤ b) ≡ lt_z (a +ℤ b) lo
below_less a b lo = sym (lt_z_plus a (lo -ℤ b) b) ∙ ap (lt_z (a +ℤ b)) (-ℤ-+ℤ_cancel lo b)

pub above_less : (a b hi : ℤ) → lt_z (hi -ℤ b) a ≡ lt_z hi (a +ℤ b)
above_less a b hi = sym (lt_z_plus (hi -ℤ b) a b) ∙ ap (λ (z : ℤ). lt_z z (a +ℤ b)) (-ℤ-+ℤ_cancel hi b)

-- a number below 0 takes nothing over the upper end, and another nothing under the lower
not_cond : (t : Bool) (x y : ℤ) → lt_z x y ≡ false → (z : ℤ) → lt_z x z ≡ false → lt_z x (cond t y z) ≡ false
not_cond true x y h z k = h
not_cond false x y h z k = k

cond_not : (t : Bool) (x y : ℤ) → lt_z y x ≡ false → (z : ℤ) → lt_z z x ≡ false → lt_z (cond t y z) x ≡ false
cond_not true x y h z k = h
cond_not false x y h z k = k

pub not_over : (m : ℕ) (a b : ℤ) → mag a < suc m → lt_z b (pos 0) ≡ true → lt_z (pos m) (a +ℤ b) ≡ false
not_over m a (pos b) h e = absurd (holds (sym (le-ltb b 0 (omega arith)) ∙ e))
not_over m (pos a) (negsuc b) h e = not_cond (ltb a (suc b)) (pos m) _ refl (pos (a - suc b)) (le-ltb m (a - suc b) (omega arith))
not_over m (negsuc a) (negsuc b) h e = refl

pub not_under : (m : ℕ) (a b : ℤ) → mag a < suc m → lt_z b (pos 0) ≡ false → lt_z (a +ℤ b) (negsuc m) ≡ false
not_under m a (negsuc b) h e = absurd (subst T e tt)
not_under m (pos a) (pos b) h e = refl
not_under m (negsuc a) (pos b) h e = cond_not (ltb b (suc a)) (negsuc m) (negsuc (suc a - suc b)) (le-ltb m (suc a - suc b) (omega arith)) _ refl

-- what is held and lies at neither end is the number itself
not_self : (a : ℤ) → lt_z a a ≡ false
not_self a = le_z_lt_z a a (le_z_self a)

not_held : (lo hi x : ℤ) (s t : Bool) → lt_z lo (cond s lo (cond t hi x)) && lt_z (cond s lo (cond t hi x)) hi ≡ true → cond s lo (cond t hi x) ≡ x
not_held lo hi x true t e = absurd (holds (sym (not_self lo) ∙ left (lt_z lo lo) (lt_z lo hi) e))
not_held lo hi x false true e = absurd (holds (sym (not_self hi) ∙ right (lt_z lo hi) (lt_z hi hi) e))
not_held lo hi x false false e = refl

pub held_plain : (lo hi x : ℤ) → lt_z lo (held lo hi x) && lt_z (held lo hi x) hi ≡ true → held lo hi x ≡ x
unfolding held
held_plain lo hi x e = not_held lo hi x (lt_z x lo) (lt_z hi x) e

-- the sum of two 16-bit numbers fits 32 bits, and held it fits 16
mag_cond : (t : Bool) {x y m : ℕ} → x ≤ m → y ≤ m → mag (cond t (negsuc x) (pos y)) ≤ m
mag_cond true h k = h
mag_cond false h k = k

mag_sub : (a b : ℕ) → mag (sub_ℕ a b) ≤ a + b
mag_sub a b =
    let h : b - suc a ≤ a + b = omega arith in
    let k : a - b ≤ a + b = omega arith in
    mag_cond (ltb a b) h k

pub mag_sum : (a b : ℤ) → mag (a +ℤ b) ≤ mag a + mag b + 1
mag_sum (pos a) (pos b) = omega arith
mag_sum (pos a) (negsuc b) = omega (arith, mag_sub a (suc b))
mag_sum (negsuc a) (pos b) = omega (arith, mag_sub b (suc a))
mag_sum (negsuc a) (negsuc b) = omega arith

pub sum_fits : {a b : ℤ} → SFits w16 a → SFits w16 b → SFits w32 (a +ℤ b)
sum_fits {a} {b} h k = record { sfits = omega (arith, mag_sum a b, h.sfits, k.sfits) }

-- and an end, less a number of its own side, is in the range
pub room_below : (m : ℕ) (b : ℤ) → mag b < suc m → lt_z b (pos 0) ≡ true → mag (negsuc m -ℤ b) < suc m
room_below m (pos b) h e = absurd (holds (sym (le-ltb b 0 (omega arith)) ∙ e))
room_below m (negsuc b) h e =
    let x : suc m - suc (suc b) ≤ m = omega arith in
    let y : suc b - suc m ≤ m = omega arith in
    omega (arith, mag_cond (ltb (suc b) (suc m)) x y)

pub room_above : (m : ℕ) (b : ℤ) → mag b < suc m → lt_z b (pos 0) ≡ false → mag (pos m -ℤ b) < suc m
room_above m (negsuc b) h e = absurd (subst T e tt)
room_above m (pos zero) h e = omega arith
room_above m (pos (suc b)) h e =
    let x : suc b - suc m ≤ m = omega arith in
    let y : m - suc b ≤ m = omega arith in
    omega (arith, mag_cond (ltb m (suc b)) x y)

-- and the difference of two of 32 bits fits 64
pub difference_fits : {a b : ℤ} → SFits w32 a → SFits w32 b → SFits w64 (a -ℤ b)
difference_fits {a} {b} h k = record { sfits = omega (arith, mag_sum a (neg_ℤ b), neg_near b, h.sfits, k.sfits) }
