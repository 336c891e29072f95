-- Two's complement for every half-range, and a magnitude under its sign: each way undoes the other.
use Prim.Native.Nat.{ℕ, zero, suc, ◌+◌, ◌-◌, ◌<◌, ◌≤◌}
use mathlib.Core.Path.{◌≡◌, refl, subst}
use mathlib.Core.Bool.{Bool, true, false, cond, ◌&&◌, ◌||◌}
use native.Mathlib.Omega.{arith}
use native.Mathlib.Nat.{not-suc-le-zero}
use lib.Dec.{T, ltb, leb, eqb, eqb-suc-zero}
use lib.IntN.{ℤ, pos, negsuc, neg_ℤ, nat_abs}
use lib.Signed.{mag, lt_z, le_z, non_neg}
use borrow.Author.Tests.{lt-ltb, le-ltb, ltb-true, ltb-false, leb-true, le-leb}
use Rattle.numbers.specs.Signed.{twos, untwos, signed}
use Rattle.numbers.proofs.Tested.{left}

pub untwos_twos : (half : ℕ) (z : ℤ) → mag z < half → untwos half (twos half z) ≡ z
unfolding twos untwos
untwos_twos half (pos n) h = simp (lt-ltb n half h)
untwos_twos half (negsuc n) h =
    let k : half ≤ half + half - suc n = omega arith in
    let e : half + half - suc (half + half - suc n) ≡ n = omega arith in
    simp (le-ltb (half + half - suc n) half k, e)

back : (half n : ℕ) (t : Bool) → ltb n half ≡ t → n < half + half → twos half (cond t (pos n) (negsuc (half + half - suc n))) ≡ n
unfolding twos
back half n true e h = refl
back half n false e h = let k = ltb-false n half e in omega arith

pub twos_untwos : (half n : ℕ) → n < half + half → twos half (untwos half n) ≡ n
unfolding untwos
twos_untwos half n h = back half n (ltb n half) refl h

-- the ranges on either side
pub twos_below : (half : ℕ) (z : ℤ) → mag z < half → twos half z < half + half
unfolding twos
twos_below half (pos n) h = omega arith
twos_below half (negsuc n) h = omega arith

near : (half n : ℕ) (t : Bool) → ltb n half ≡ t → n < half + half → mag (cond t (pos n) (negsuc (half + half - suc n))) < half
near half n true e h = ltb-true n half e
near half n false e h = let k = ltb-false n half e in omega arith

pub untwos_near : (half n : ℕ) → n < half + half → mag (untwos half n) < half
unfolding untwos
untwos_near half n h = near half n (ltb n half) refl h

-- either by a magnitude and a sign, as a program comes by it
pub twos_minus : (half : ℕ) (z : ℤ) → lt_z z (pos 0) ≡ true → twos half z ≡ half + half - nat_abs z
unfolding twos
twos_minus half (pos n) t = absurd (not-suc-le-zero (ltb-true n 0 t))
twos_minus half (negsuc n) t = refl

pub twos_plus : (half : ℕ) (z : ℤ) → lt_z z (pos 0) ≡ false → twos half z ≡ nat_abs z
unfolding twos
twos_plus half (pos n) t = refl
twos_plus half (negsuc n) t = absurd (subst T t tt)

-- a range of 2 * half numbers is what two's complement holds
pub within_near : (h : ℕ) (z : ℤ) → le_z (negsuc h) z && le_z z (pos h) ≡ true → mag z < suc h
within_near h (pos n) e = omega (arith, leb-true n h e)
within_near h (negsuc n) e = omega (arith, leb-true n h (left (leb n h) true e))

pub near_within : (h : ℕ) (z : ℤ) → mag z < suc h → le_z (negsuc h) z && le_z z (pos h) ≡ true
near_within h (pos n) k = le-leb n h (omega arith)
near_within h (negsuc n) k = simp (le-leb n h (omega arith))

-- a number is its magnitude under its sign
pub signed_whole : (z : ℤ) → signed (non_neg z) (nat_abs z) ≡ z
unfolding signed
signed_whole (pos n) = refl
signed_whole (negsuc n) = refl

pub signed_magnitude : (s : Bool) (m : ℕ) → nat_abs (signed s m) ≡ m
unfolding signed
signed_magnitude true m = refl
signed_magnitude false zero = refl
signed_magnitude false (suc m) = refl

-- and its sign is the one given, unless it is zero
pub signed_sign : (s : Bool) (m : ℕ) → non_neg (signed s m) ≡ s || eqb m 0
unfolding signed
signed_sign true m = refl
signed_sign false zero = refl
signed_sign false (suc m) = simp eqb-suc-zero

-- a number and its negation are equally far from zero
pub neg_magnitude : (z : ℤ) → nat_abs (neg_ℤ z) ≡ nat_abs z
neg_magnitude (pos zero) = refl
neg_magnitude (pos (suc n)) = refl
neg_magnitude (negsuc n) = refl

pub below_neg : (z : ℤ) → lt_z z (pos 0) ≡ true → non_neg (neg_ℤ z) ≡ true
below_neg (pos n) t = absurd (not-suc-le-zero (ltb-true n 0 t))
below_neg (negsuc n) t = refl

pub above_non_neg : (z : ℤ) → lt_z z (pos 0) ≡ false → non_neg z ≡ true
above_non_neg (pos n) t = refl
above_non_neg (negsuc n) t = absurd (subst T t tt)

pub below_non_neg : (z : ℤ) → lt_z z (pos 0) ≡ true → non_neg z ≡ false
below_non_neg (pos n) t = absurd (not-suc-le-zero (ltb-true n 0 t))
below_non_neg (negsuc n) t = refl

pub magnitude_near : (z : ℤ) → nat_abs z ≤ suc (mag z)
magnitude_near (pos n) = omega arith
magnitude_near (negsuc n) = omega arith

pub mag_magnitude : (z : ℤ) → mag z ≤ nat_abs z
mag_magnitude (pos n) = omega arith
mag_magnitude (negsuc n) = omega arith
