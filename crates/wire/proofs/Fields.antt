-- What a program finds in the rows of the table.
use Prim.Native.Nat.{ℕ, ◌+◌, ◌-◌, ◌*◌, ◌/◌, ◌%◌, ◌<◌}
use mathlib.Core.Path.{◌≡◌, sym}
use mathlib.Core.Bool.{Bool, true, false, not}
use mathlib.Core.List.{[], ◌∷◌, ◌++◌}
use native.Mathlib.Omega.{arith}
use lib.Dec.{ltb, ltb→lt}
use Rattle.numbers.specs.Bits.{O, value, number, bit, bits}
use Rattle.numbers.proofs.Rows.{value_bit, number_bits, number_low, number_joined}
use Rattle.numbers.proofs.Tested.{tested}
use Rattle.wire.specs.Reading.{twelve, pair}
use Rattle.wire.specs.Digits.{undigit}

-- V: L and R, with M up
pub buttons_v : (b : ℕ) → b / 32 % 2 * 4 + b / 16 % 2 ≡ number (bit 5 b ∷ O ∷ bit 4 b ∷ [])
unfolding number
buttons_v b = omega (arith, value_bit 5 b, value_bit 4 b)

-- V: X7 X6 and Y7 Y6 with the six bits of their own byte
pub byte_x : (b n : ℕ) → b % 4 * 64 % 256 + n % 64 ≡ number (bits 2 0 b ++ bits 6 0 n)
byte_x b n = omega (arith, number_joined (bits 2 0 b) 6 n, number_low 2 b)

pub byte_y : (b n : ℕ) → b / 4 % 4 * 64 % 256 + n % 64 ≡ number (bits 2 2 b ++ bits 6 0 n)
byte_y b n = omega (arith, number_joined (bits 2 2 b) 6 n, number_bits 2 2 b)

-- A, B: six bits above six
pub twelve_of : (low high : ℕ) → high % 64 * 64 % 65536 + low % 64 ≡ twelve low high
twelve_of low high = omega (arith, number_joined (bits 6 0 high) 6 low, number_low 6 high)

pub twelve_below : (low high : ℕ) → twelve low high < 4096
twelve_below low high = omega (arith, number_joined (bits 6 0 high) 6 low, number_low 6 high)

-- A, B: L M R above two zeros
pub buttons_a : (b : ℕ) → b / 4 % 8 ≡ number (bits 3 2 b)
buttons_a b = sym (number_bits 3 2 b)

-- U: L* M* R*
value_not : (t : Bool) → value (not t) + value t ≡ 1
value_not true = omega arith
value_not false = omega arith

pub buttons_u : (b : ℕ) → 7 - b % 8 ≡ number (not (bit 2 b) ∷ not (bit 1 b) ∷ not (bit 0 b) ∷ [])
unfolding number bits
buttons_u b = omega (arith, value_not (bit 2 b), value_not (bit 1 b), value_not (bit 0 b), number_low 3 b)

-- W: a digit's number has four bits
pub undigit_below : (b : ℕ) → b < 256 → undigit b < 16
unfolding undigit
undigit_below b h = ltb→lt (undigit b) 16 (tested (λ n. ltb (undigit n) 16) 256 tt b h)

-- W: four bits above four
pub pair_of : (low high : ℕ) → undigit low < 16 → undigit high < 16 → undigit high * 16 + undigit low ≡ pair low high
pair_of low high h k = omega (arith, number_joined (bits 4 0 (undigit high)) 4 (undigit low), number_low 4 (undigit high))
