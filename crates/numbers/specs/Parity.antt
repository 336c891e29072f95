-- Even parity: the count of ones.
use Rattle.std.specs.Prelude.{ℕ, ◌+◌, ◌%◌, Bool, not, cond, List, ◌∷◌, eqb}
use Rattle.std.specs.Int.Count.{ones}
use Rattle.numbers.specs.Bits.{number}

-- the count of ones in a byte is even
abbrev pub even : ℕ → Bool
even b = eqb (ones b % 2) 0

-- a row with a bit P before it: P makes the count of ones even
unfoldable pub with_parity : List Bool → List Bool
with_parity row = not (even (number row)) ∷ row

-- the same of seven bits that are handed in as a number
unfoldable pub evened : ℕ → ℕ
evened n = cond (even n) n (n + 128)
