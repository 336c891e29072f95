-- The rows of the table as the sums that a program makes of them.
use Prim.Native.Nat.{ℕ, ◌+◌, ◌-◌, ◌*◌, ◌/◌, ◌%◌, ◌≤◌, ◌<◌}
use mathlib.Core.Path.{◌≡◌, ◌∙◌}
use mathlib.Core.Bool.{Bool, not}
use mathlib.Core.List.{[], ◌∷◌}
use native.Mathlib.Omega.{arith}
use Rattle.numbers.specs.Bits.{I, O, value, number, bit, bits}
use Rattle.numbers.proofs.Rows.{value_small, value_bit, number_joined, number_bits}
use Rattle.numbers.proofs.Tested.{equal}
use Rattle.wire.specs.Table.{rows_v}

-- S: 1 0 0 SX SY L M R
pub sum_s : (sx sy : Bool) (b : ℕ) → b ≤ 7 → 128 + value sx * 16 % 256 + value sy * 8 % 256 + b ≡ number (I ∷ O ∷ O ∷ sx ∷ sy ∷ bit 2 b ∷ bit 1 b ∷ bit 0 b ∷ [])
unfolding number bits
sum_s sx sy b h = omega (arith, number_joined (I ∷ O ∷ O ∷ sx ∷ sy ∷ []) 3 b, value_small sx, value_small sy)

-- V: 0 1 L R Y7 Y6 X7 X6
top_pair : (n : ℕ) → n < 256 → n / 64 ≡ value (bit 7 n) * 2 + value (bit 6 n)
unfolding number bits
top_pair n h = omega (arith, number_bits 2 6 n)

in_place : (l r y x : ℕ) → l ≤ 1 → r ≤ 1 → y ≤ 3 → x ≤ 3 → 64 + l * 32 % 256 + r * 16 % 256 + y * 4 % 256 + x ≡ 64 + l * 32 + r * 16 + y * 4 + x
in_place l r y x h k m n = omega arith

row_v : (l r y7 y6 x7 x6 : Bool) → 64 + value l * 32 + value r * 16 + (value y7 * 2 + value y6) * 4 + (value x7 * 2 + value x6) ≡ number (O ∷ I ∷ l ∷ r ∷ y7 ∷ y6 ∷ x7 ∷ x6 ∷ [])
unfolding number
row_v l r y7 y6 x7 x6 = omega arith

sum_v : (b X Y : ℕ) → b ≤ 7 → X < 256 → Y < 256 → 64 + b / 4 * 32 % 256 + b % 2 * 16 % 256 + Y / 64 * 4 % 256 + X / 64 ≡ number (O ∷ I ∷ bit 2 b ∷ bit 0 b ∷ bit 7 Y ∷ bit 6 Y ∷ bit 7 X ∷ bit 6 X ∷ [])
sum_v b X Y h k l =
    let left : b / 4 ≡ value (bit 2 b) = omega (arith, value_bit 2 b) in
    let right : b % 2 ≡ value (bit 0 b) = omega (arith, value_bit 0 b) in
    in_place (b / 4) (b % 2) (Y / 64) (X / 64) (omega arith) (omega arith) (omega arith) (omega arith)
    ∙ rw (left, right, top_pair Y l, top_pair X k) (row_v (bit 2 b) (bit 0 b) (bit 7 Y) (bit 6 Y) (bit 7 X) (bit 6 X))

-- V, A, B: a row of fixed zeros and six bits
sum_six : (n : ℕ) → number (O ∷ O ∷ bits 6 0 n) ≡ n % 64
unfolding number bits
sum_six n = omega (arith, number_bits 6 0 n)

-- A, B: P 1 0 L M R 0 0, but for P
pub sum_a : (b : ℕ) → b ≤ 7 → 64 + b * 4 % 256 ≡ number (I ∷ O ∷ bit 2 b ∷ bit 1 b ∷ bit 0 b ∷ O ∷ O ∷ [])
unfolding number bits
sum_a b h = omega (arith, number_bits 3 0 b)

-- A, B: the six bits above the lowest six
pub sum_high : (n : ℕ) → n < 4096 → number (O ∷ bits 6 6 n) ≡ n / 64
unfolding number bits
sum_high n h = omega (arith, number_bits 6 6 n)

pub sum_low : (n : ℕ) → number (O ∷ bits 6 0 n) ≡ n % 64
unfolding number bits
sum_low n = omega (arith, number_bits 6 0 n)

-- U: 1 0 0 0 0 L* M* R*
pub sum_u : (b : ℕ) → b ≤ 7 → 128 + (7 - b) ≡ number (I ∷ O ∷ O ∷ O ∷ O ∷ not (bit 2 b) ∷ not (bit 1 b) ∷ not (bit 0 b) ∷ [])
unfolding number bit
sum_u b h = equal (λ n. 128 + (7 - n)) (λ n. number (I ∷ O ∷ O ∷ O ∷ O ∷ not (bit 2 n) ∷ not (bit 1 n) ∷ not (bit 0 n) ∷ [])) 8 tt b (omega arith)

-- T: 0 0 0 0 0 L M R
pub sum_t : (b : ℕ) → b ≤ 7 → b ≡ number (O ∷ O ∷ O ∷ O ∷ O ∷ bit 2 b ∷ bit 1 b ∷ bit 0 b ∷ [])
unfolding number bits
sum_t b h = omega (arith, number_joined (O ∷ O ∷ O ∷ O ∷ O ∷ []) 3 b)

-- W: the low and the high four bits of a byte
pub low_four : (n : ℕ) → number (bits 4 0 n) ≡ n % 16
low_four n = omega (arith, number_bits 4 0 n)

pub high_four : (n : ℕ) → n < 256 → number (bits 4 4 n) ≡ n / 16
high_four n h = omega (arith, number_bits 4 4 n)

-- V, whole
pub rows_v_lem : (b X Y : ℕ) → b ≤ 7 → X < 256 → Y < 256 → (64 + b / 4 * 32 % 256 + b % 2 * 16 % 256 + Y / 64 * 4 % 256 + X / 64) ∷ X % 64 ∷ Y % 64 ∷ [] ≡ rows_v (bit 2 b) (bit 0 b) X Y
unfolding rows_v
rows_v_lem b X Y h k l = rw (sum_v b X Y h k l, sum_six X, sum_six Y)
