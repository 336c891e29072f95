-- The bit P: seven bits under it have an even count of ones.
use Prim.Native.Nat.{ℕ, ◌+◌, ◌*◌, ◌^◌, ◌<◌}
use mathlib.Core.Path.{◌≡◌, ap}
use mathlib.Core.Bool.{Bool, true, false, not, cond}
use mathlib.Core.List.{List, ◌∷◌}
use native.Mathlib.Omega.{arith}
use lib.ListN.{length}
use lib.Count.{ones, ones_in}
use Rattle.numbers.specs.Bits.{value, number, bit, bits}
use Rattle.numbers.specs.Parity.{even, with_parity, evened}
use Rattle.numbers.proofs.Tested.{truth, tested, agree_if}
use Rattle.numbers.proofs.Rows.{number_below}

pub evened_even : (n : ℕ) → n < 128 → even (evened n) ≡ true
unfolding ones ones_in evened
evened_even n h = truth _ (tested (λ k. even (evened k)) 128 tt n h)

-- the bit above a row of seven, as a number: the row, or the row and 128
above : (n : ℕ) (t : Bool) → value (not t) * 2 ^ 7 + n ≡ cond t n (n + 128)
above n true = omega arith
above n false = omega arith

pub number_parity : (row : List Bool) → length row ≡ 7 → number (with_parity row) ≡ evened (number row)
unfolding number with_parity evened
number_parity row e = rw e (above (number row) (even (number row)))

pub parity_even : (row : List Bool) → length row ≡ 7 → even (number (with_parity row)) ≡ true
parity_even row e = rw (number_parity row e) (evened_even (number row) (rw e at (number_below row)))

-- a byte with an even count of ones has P above its seven low bits
parity_bit : (b : ℕ) → b < 256 → even b ≡ true → not (even (number (bits 7 0 b))) ≡ bit 7 b
unfolding ones ones_in bit bits number
parity_bit b h e = agree_if even (λ n. not (even (number (bits 7 0 n)))) (bit 7) 256 tt b h e

pub parity_of : (b : ℕ) → b < 256 → even b ≡ true → with_parity (bits 7 0 b) ≡ bits 8 0 b
unfolding with_parity bits
parity_of b h e = ap (λ (t : Bool). t ∷ bits 7 0 b) (parity_bit b h e)
