-- Lines in places that are there: the quick way. The number of a line is carried on to the next.
use Rattle.std.specs.Prelude.{ℕ, ◌+◌, ◌≡◌, List, [], ◌∷◌, ◌++◌, length, set}
use Rattle.text.specs.Growth.{slice, filled_by}
use Rattle.text.specs.Decimals.{digit_of, digits_of}
use Rattle.listing.specs.Lines.{tab}
use Rattle.listing.specs.declared.Stamp.{Stamp}

-- bytes in a slice from a place on, all of them, and the place behind them
pub record Filled (before : List ℕ) (at : ℕ) (bytes after : List ℕ) (end : ℕ) : Type 0 where
  pub text : slice after end ≡ filled_by (slice before at) bytes
  pub behind : end ≡ at + length bytes

-- the six digits of a line number, between tabs
unfoldable pub stamp_of : ℕ → List ℕ
stamp_of n = tab ∷ digits_of 6 n ++ tab ∷ []

-- a stamp's bytes, with the last digit that is kept beside them
abbrev pub stamped : Stamp → List ℕ
stamped s = set s.bytes 6 s.last

-- it is that of line n
abbrev pub Stamps : ℕ → Stamp → Type 0
Stamps n s = (stamped s ≡ stamp_of n) × (s.last ≡ digit_of n)
