-- How a program that listens is called: `LETTER [TENTHS]`.
use Rattle.std.specs.Prelude.{ℕ, cond, List, [], ◌∷◌, ℤ, pos, nat_abs, Option, Some, None}
use Rattle.std.specs.Int.Signed.{lt_z}
use Rattle.wire.specs.Line.{known}
use Rattle.text.specs.Decimals.{plain, number_in}

-- a letter of the table, alone
abbrev pub letter_in : List ℕ → Option ℕ
letter_in [] = None
letter_in (l ∷ []) = cond (known l) (Some l) None
letter_in (l ∷ more ∷ word) = None

-- a number from 1 to 255
abbrev pub small_in : ℤ → Option ℕ
small_in x = cond (lt_z x (pos 1)) None (cond (lt_z (pos 255) x) None (Some (nat_abs x)))

abbrev pub small_of : Option ℤ → Option ℕ
small_of None = None
small_of (Some x) = small_in x

abbrev pub tenths_in : List ℕ → Option ℕ
tenths_in word = small_of (number_in plain word)
