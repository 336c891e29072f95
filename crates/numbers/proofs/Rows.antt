-- A number from a row of bits, and back.
use Prim.Native.Nat.{ℕ, zero, suc, ◌+◌, ◌*◌, ◌/◌, ◌%◌, ◌^◌, ◌<◌, ◌≤◌}
use mathlib.Core.Path.{◌≡◌, refl, sym, ap, ap₂, ◌∙◌}
use mathlib.Core.Bool.{Bool, true, false}
use mathlib.Core.List.{List, [], ◌∷◌, ◌++◌, append_assoc}
use native.Mathlib.Omega.{arith}
use native.Mathlib.Nat.{pow-suc, add_comm, mod-one, mod-eq_of_lt, div-one}
use native.Mathlib.Numerals.{one-add}
use lib.ListN.{length, length-append}
use lib.Dec.{eqb}
use lib.Pow.{pow-add, mod-pow-add, shr-shr, high}
use borrow.Author.Tests.{eqb-true, eqb-false}
use Rattle.numbers.specs.Bits.{value, number, bit, bits}

pub value_small : (b : Bool) → value b ≤ 1
value_small true = omega arith
value_small false = omega arith

-- the bit that a remainder of 2 is
value_of : (r : ℕ) (t : Bool) → eqb r 1 ≡ t → r < 2 → value t ≡ r
value_of r true e h = sym (eqb-true r 1 e)
value_of r false e h = let d = eqb-false r 1 e in omega arith

pub value_bit : (k n : ℕ) → value (bit k n) ≡ n / 2 ^ k % 2
unfolding bit
value_bit k n = value_of (n / 2 ^ k % 2) (eqb (n / 2 ^ k % 2) 1) refl (omega arith)

-- a row of w bits is below 2 ^ w
pub number_below : (row : List Bool) → number row < 2 ^ length row
unfolding number
number_below [] = omega arith
number_below (true ∷ row) = simp pow-suc (omega (arith, number_below row))
number_below (false ∷ row) = simp pow-suc (omega (arith, number_below row))

pub length_bits : (w k n : ℕ) → length (bits w k n) ≡ w
unfolding bits
length_bits zero k n = refl
length_bits (suc w) k n = ap suc (length_bits w k n)

pub bits_below : (w k n : ℕ) → number (bits w k n) < 2 ^ w
bits_below w k n = rw (length_bits w k n) at (number_below (bits w k n))

-- a row before another
pub number_append : (a b : List Bool) → number (a ++ b) ≡ number a * 2 ^ length b + number b
unfolding number
number_append [] b = omega arith
number_append (c ∷ a) b =
    let e : 2 ^ length (a ++ b) ≡ 2 ^ length a * 2 ^ length b = rw length-append (pow-add 2 (length a) (length b)) in
    let h = number_append a b in
    rw (h, e) (omega arith)

-- the w bits from bit k up are n, shifted down by k, less what is above
pub number_bits : (w k n : ℕ) → number (bits w k n) ≡ n / 2 ^ k % 2 ^ w
unfolding number bits
number_bits zero k n = sym (mod-one (n / 2 ^ k))
number_bits (suc w) k n =
    rw (value_bit, length_bits w k n, number_bits w k n, ← shr-shr n k w, ← one-add w) (sym (mod-pow-add (n / 2 ^ k) 1 w))

-- the low w bits; they are n, if it has no more
pub number_low : (w n : ℕ) → number (bits w 0 n) ≡ n % 2 ^ w
number_low w n = number_bits w 0 n ∙ rw div-one

pub number_whole : (w n : ℕ) → n < 2 ^ w → number (bits w 0 n) ≡ n
number_whole w n h = number_low w n ∙ mod-eq_of_lt h

-- and a row before them
pub number_joined : (hi : List Bool) (w n : ℕ) → number (hi ++ bits w 0 n) ≡ number hi * 2 ^ w + n % 2 ^ w
number_joined hi w n = number_append hi (bits w 0 n) ∙ rw (length_bits, number_low)

is_bit : (b : Bool) (q : ℕ) → eqb ((q * 2 + value b) % 2) 1 ≡ b
is_bit true q = let e : (q * 2 + 1) % 2 ≡ 1 = omega arith in rw e
is_bit false q = let e : (q * 2 + 0) % 2 ≡ 0 = omega arith in rw e

-- what stands in a row between hi and lo is found there again: one bit
pub bit_in : (hi : List Bool) (b : Bool) (lo : List Bool) → bit (length lo) (number (hi ++ (b ∷ lo))) ≡ b
unfolding bit number
bit_in hi b lo =
    let e : number (hi ++ (b ∷ lo)) ≡ (number hi * 2 + value b) * 2 ^ length lo + number lo =
    number_append hi (b ∷ lo) ∙ rw pow-suc (omega arith) in
    rw (e, high (number hi * 2 + value b) (length lo) (number_below lo)) (is_bit b (number hi))

-- and several
pub bits_in : (hi mid lo : List Bool) → bits (length mid) (length lo) (number (hi ++ (mid ++ lo))) ≡ mid
unfolding bits
bits_in hi [] lo = refl
bits_in hi (b ∷ mid) lo =
    let place : length lo + length mid ≡ length (mid ++ lo) = simp length-append (add_comm (length lo) (length mid)) in
    let rest : bits (length mid) (length lo) (number (hi ++ (b ∷ (mid ++ lo)))) ≡ mid =
    rw append_assoc at (bits_in (hi ++ (b ∷ [])) mid lo) in
    ap₂ ◌∷◌ (rw place (bit_in hi b (mid ++ lo))) rest

-- and so is a number of w bits
pub whole_in : (hi lo : List Bool) (w n : ℕ) → n < 2 ^ w → number (bits w (length lo) (number (hi ++ (bits w 0 n ++ lo)))) ≡ n
whole_in hi lo w n h = ap number (rw (length_bits w 0 n) at (bits_in hi (bits w 0 n) lo)) ∙ number_whole w n h
