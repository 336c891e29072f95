-- The lines of a recording that are written.
use Rattle.std.specs.Prelude.{ℕ, List, [], ◌∷◌, ◌++◌, pos}
use Rattle.text.specs.Decimals.{plain, decimal_of}
use Rattle.listing.specs.Lines.{newline, tab}
use Rattle.wire.specs.Line.{letter_of}
use Rattle.wire.specs.declared.Format.TheVariants.{Microsoft}

-- "tab between fields", "Decimals have no leading zeros"
abbrev pub numbered : ℕ → ℕ → List ℕ
numbered letter n = letter ∷ tab ∷ decimal_of plain (pos n) ++ (newline ∷ [])

-- "`F` letter first", and the letter is V
abbrev pub format_line : List ℕ
format_line = 0x46 ∷ tab ∷ letter_of Microsoft ∷ newline ∷ []

-- "`B` decimal byte"
abbrev pub byte_line : ℕ → List ℕ
byte_line b = numbered 0x42 b

-- one for each byte
unfoldable pub byte_lines : List ℕ → List ℕ
byte_lines [] = []
byte_lines (b ∷ bytes) = byte_line b ++ byte_lines bytes

-- a bad line of the recording that came in is shown by one that is bad in the recording of V: `E` and its number
abbrev pub bad_line : ℕ → List ℕ
bad_line n = numbered 0x45 n

-- and a line too many by `E` and `over`
abbrev pub over_line : List ℕ
over_line = 0x45 ∷ tab ∷ 0x6F ∷ 0x76 ∷ 0x65 ∷ 0x72 ∷ newline ∷ []
