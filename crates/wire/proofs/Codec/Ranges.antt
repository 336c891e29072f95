-- The ranges of the movements, by what the wire carries of them.
use Prim.Native.Nat.{ℕ, zero, suc, ◌+◌, ◌<◌, ◌≤◌}
use mathlib.Core.Path.{◌≡◌, refl, ap}
use mathlib.Core.Bool.{true}
use native.Mathlib.Omega.{arith}
use lib.IntN.{ℤ, pos, negsuc, neg_ℤ, nat_abs}
use lib.Dec.{leb}
use lib.Signed.{mag, le_z}
use borrow.Author.Tests.{leb-true, le-leb}
use Rattle.numbers.specs.Signed.{twos, untwos}
use Rattle.numbers.proofs.Choices.{both}
use Rattle.numbers.proofs.Held.{le_z_trans}
use Rattle.numbers.proofs.Tested.{left, right, holds}
use Rattle.numbers.proofs.Twos.{twos_below, untwos_twos, twos_untwos, untwos_near, within_near, near_within}
use Rattle.frames.specs.Words.{is_byte}
use Rattle.wire.specs.Holds.{◌to◌, within}
use Rattle.wire.specs.declared.Range.{Range}

-- a wider range holds what a narrower one holds
pub wider : (r s : Range) (z : ℤ) → le_z s.low r.low ≡ true → le_z r.high s.high ≡ true → within r z ≡ true → within s z ≡ true
wider r s z h k e =
    both (le_z s.low z) (le_z z s.high) (le_z_trans s.low r.low z h (left (le_z r.low z) (le_z z r.high) e))
    (le_z_trans z r.high s.high (right (le_z r.low z) (le_z z r.high) e) k)

-- 0 to high: the magnitude is the number
pub positive : (high : ℕ) (z : ℤ) → within (pos 0 to pos high) z ≡ true → pos (nat_abs z) ≡ z
positive high (pos n) e = refl
positive high (negsuc n) e = absurd (holds e)

pub at_most : (high : ℕ) (z : ℤ) → within (pos 0 to pos high) z ≡ true → nat_abs z ≤ high
at_most high (pos n) e = leb-true n high (right (leb 0 n) (leb n high) e)
at_most high (negsuc n) e = absurd (holds e)

pub at_most_within : (high n : ℕ) → n ≤ high → within (pos 0 to pos high) (pos n) ≡ true
at_most_within high n h = rw (le-leb 0 n (omega arith), le-leb n high h)

-- nothing but 0
pub only_zero : (z : ℤ) → within (pos 0 to pos 0) z ≡ true → pos 0 ≡ z
only_zero (pos n) e = ap pos (omega (arith, at_most 0 (pos n) e))
only_zero (negsuc n) e = absurd (holds e)

-- the same magnitudes on either side of 0
pub magnitude : (h : ℕ) (z : ℤ) → within (negsuc h to pos (suc h)) z ≡ true → nat_abs z ≤ suc h
magnitude h (pos n) e = leb-true n (suc h) e
magnitude h (negsuc n) e = omega (arith, leb-true n h (left (leb n h) true e))

pub magnitude_within : (h : ℕ) (z : ℤ) → nat_abs z ≤ suc h → within (negsuc h to pos (suc h)) z ≡ true
magnitude_within h (pos n) k = le-leb n (suc h) k
magnitude_within h (negsuc n) k = rw (le-leb n h (omega arith))

-- minus a number of two's complement
pub south : (h : ℕ) (z : ℤ) → within (negsuc h to pos (suc (suc h))) z ≡ true → mag (neg_ℤ z) < suc (suc h)
south h (pos zero) e = omega arith
south h (pos (suc n)) e = omega (arith, leb-true (suc n) (suc (suc h)) e)
south h (negsuc n) e = omega (arith, leb-true n h (left (leb n h) true e))

pub south_within : (h : ℕ) (z : ℤ) → mag z < suc (suc h) → within (negsuc h to pos (suc (suc h))) (neg_ℤ z) ≡ true
south_within h (pos zero) k = le-leb 0 (suc (suc h)) (omega arith)
south_within h (pos (suc n)) k = rw (le-leb n h (omega arith))
south_within h (negsuc n) k = le-leb (suc n) (suc (suc h)) (omega arith)

-- two's complement
pub twos_within : (h : ℕ) (z : ℤ) → within (negsuc h to pos h) z ≡ true → twos (suc h) z < suc h + suc h
twos_within h z e = twos_below (suc h) z (within_near h z e)

pub twos_back : (h : ℕ) (z : ℤ) → within (negsuc h to pos h) z ≡ true → untwos (suc h) (twos (suc h) z) ≡ z
twos_back h z e = untwos_twos (suc h) z (within_near h z e)

pub untwos_within : (h n : ℕ) → n < suc h + suc h → within (negsuc h to pos h) (untwos (suc h) n) ≡ true
untwos_within h n k = near_within h (untwos (suc h) n) (untwos_near (suc h) n k)

-- and that of a byte
pub twos_byte : (z : ℤ) → within (negsuc 127 to pos 127) z ≡ true → is_byte (twos 128 z) ≡ true
twos_byte z e = le-leb (twos 128 z) 255 (omega (arith, twos_within 127 z e))

pub byte_below : (b : ℕ) → is_byte b ≡ true → b < 256
byte_below b e = omega (arith, leb-true b 255 e)

pub byte_within : (b : ℕ) → is_byte b ≡ true → within (negsuc 127 to pos 127) (untwos 128 b) ≡ true
byte_within b e = untwos_within 127 b (byte_below b e)

pub byte_back : (b : ℕ) → is_byte b ≡ true → twos 128 (untwos 128 b) ≡ b
byte_back b e = twos_untwos 128 b (byte_below b e)
