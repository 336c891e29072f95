-- A byte as the row of bits that a table prints.
use Rattle.std.specs.Prelude.{ℕ, zero, suc, ◌+◌, ◌*◌, ◌/◌, ◌%◌, ◌^◌, Bool, true, false, List, [], ◌∷◌, length, eqb}

-- a bit as a table prints it
abbrev pub I : Bool
I = true

abbrev pub O : Bool
O = false

-- the number that a bit stands for
abbrev pub value : Bool → ℕ
value true = 1
value false = 0

-- the number that a row of bits stands for, the highest bit first
unfoldable pub number : List Bool → ℕ
number [] = 0
number (b ∷ row) = value b * 2 ^ length row + number row

-- bit k of a number: bits are numbered from 0, the lowest
unfoldable pub bit : ℕ → ℕ → Bool
bit k n = eqb (n / 2 ^ k % 2) 1

-- the w bits of a number from bit k up, as a row: `bits 6 0 x` is X5-X0 and `bits 6 6 x` is X11-X6
unfoldable pub bits : ℕ → ℕ → ℕ → List Bool
bits zero k n = []
bits (suc w) k n = bit (k + w) n ∷ bits w k n
