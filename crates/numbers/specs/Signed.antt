-- Signed numbers: in two's complement, under a sign, and held between two ends.
use Rattle.std.specs.Prelude.{ℕ, suc, ◌+◌, ◌-◌, Bool, cond, ltb, ℤ, pos, negsuc, neg_ℤ, ◌+ℤ◌, ◌-ℤ◌}
use Rattle.std.specs.Int.Signed.{lt_z}

-- -n, as the papers write it
abbrev pub minus : ℕ → ℤ
minus n = neg_ℤ (pos n)

-- two's complement with half numbers on either side of 0, from -half to half - 1 (128 for a byte, 2048 for twelve bits):
-- the number that stands for z on the wire
unfoldable pub twos : ℕ → ℤ → ℕ
twos half (pos n) = n
twos half (negsuc n) = half + half - suc n

-- and the number that n on the wire stands for
unfoldable pub untwos : ℕ → ℕ → ℤ
untwos half n = cond (ltb n half) (pos n) (negsuc (half + half - suc n))

-- a magnitude under its sign
unfoldable pub signed : Bool → ℕ → ℤ
signed positive m = cond positive (pos m) (neg_ℤ (pos m))

-- x held at lo and hi: lo for what is below lo, hi for what is above hi
unfoldable pub held : ℤ → ℤ → ℤ → ℤ
held lo hi x = cond (lt_z x lo) lo (cond (lt_z hi x) hi x)

-- the excess of x over lo and hi, with its sign: below 0 for what is below lo, above 0 for what is above hi
unfoldable pub excess : ℤ → ℤ → ℤ → ℤ
excess lo hi x = cond (lt_z x lo) (x -ℤ lo) (cond (lt_z hi x) (x -ℤ hi) (pos 0))

-- the ends of a 16-bit signed number
abbrev pub least : ℤ
least = negsuc 32767

abbrev pub most : ℤ
most = pos 32767

-- the sum of two, held at -32768 and 32767
unfoldable pub held_sum : ℤ → ℤ → ℤ
held_sum a b = held least most (a +ℤ b)

-- and the excess of the sum
unfoldable pub sum_excess : ℤ → ℤ → ℤ
sum_excess a b = excess least most (a +ℤ b)

-- the ends of a 64-bit signed number
abbrev pub least_long : ℤ
least_long = negsuc 9223372036854775807

abbrev pub most_long : ℤ
most_long = pos 9223372036854775807

-- the sum of two, held at them
unfoldable pub held_long : ℤ → ℤ → ℤ
held_long a b = held least_long most_long (a +ℤ b)
