-- Which bytes are valid at the first place of a report, and which at a later one.
use Rattle.std.specs.Prelude.{ℕ, Bool, true, false, not, cond, ◌&&◌, List, [], ◌∷◌, length, eqb}
use Rattle.numbers.specs.Bits.{bit}
use Rattle.numbers.specs.Parity.{even}
use Rattle.frames.specs.Words.{is_byte}
use Rattle.wire.specs.Line.{named_by, of_named, size_of}
use Rattle.wire.specs.Digits.{between, is_digit}
use Rattle.wire.specs.declared.Format.{Format}
use Rattle.wire.specs.declared.Format.TheVariants.{Mm, Microsoft, Absolute, Relative, FiveByte, ThreeByte, Hexadecimal}

-- a place of a row in the table: a fixed one, a fixed zero, or a bit that carries something
pub data Cell : Type 0 where
  𝟏 : Cell
  𝟎 : Cell
  · : Cell

abbrev pub agrees : Cell → Bool → Bool
agrees 𝟏 b = b
agrees 𝟎 b = not b
agrees · b = true

-- a byte that has the fixed bits of a row, the highest place first
unfoldable pub like : List Cell → ℕ → Bool
like [] b = is_byte b
like (c ∷ cells) b = agrees c (bit (length cells) b) && like cells b

-- the first byte of a report
unfoldable pub fits_first : Format → ℕ → Bool
fits_first Mm b = like (𝟏 ∷ 𝟎 ∷ 𝟎 ∷ · ∷ · ∷ · ∷ · ∷ · ∷ []) b
fits_first Microsoft b = like (𝟎 ∷ 𝟏 ∷ · ∷ · ∷ · ∷ · ∷ · ∷ · ∷ []) b
fits_first Absolute b = like (· ∷ 𝟏 ∷ 𝟎 ∷ · ∷ · ∷ · ∷ 𝟎 ∷ 𝟎 ∷ []) b && even b
fits_first Relative b = like (· ∷ 𝟏 ∷ 𝟎 ∷ · ∷ · ∷ · ∷ 𝟎 ∷ 𝟎 ∷ []) b && even b
fits_first FiveByte b = like (𝟏 ∷ 𝟎 ∷ 𝟎 ∷ 𝟎 ∷ 𝟎 ∷ · ∷ · ∷ · ∷ []) b
fits_first ThreeByte b = like (𝟎 ∷ 𝟎 ∷ 𝟎 ∷ 𝟎 ∷ 𝟎 ∷ · ∷ · ∷ · ∷ []) b
fits_first Hexadecimal b = between 0x30 0x37 b

-- a later byte
unfoldable pub fits_later : Format → ℕ → Bool
fits_later Mm b = like (𝟎 ∷ · ∷ · ∷ · ∷ · ∷ · ∷ · ∷ · ∷ []) b
fits_later Microsoft b = like (𝟎 ∷ 𝟎 ∷ · ∷ · ∷ · ∷ · ∷ · ∷ · ∷ []) b
fits_later Absolute b = like (· ∷ 𝟎 ∷ · ∷ · ∷ · ∷ · ∷ · ∷ · ∷ []) b && even b
fits_later Relative b = like (· ∷ 𝟎 ∷ · ∷ · ∷ · ∷ · ∷ · ∷ · ∷ []) b && even b
fits_later FiveByte b = is_byte b
fits_later ThreeByte b = is_byte b
fits_later Hexadecimal b = is_digit b

-- a byte at a place: 0 is the first, any other a later one
unfoldable pub fits_at : Format → ℕ → ℕ → Bool
fits_at f place b = cond (eqb place 0) (fits_first f b) (fits_later f b)

-- the same by letter: no byte fits a letter that is not in the table
unfoldable pub fits_by : ℕ → ℕ → ℕ → Bool
fits_by letter place b = of_named false (λ f. fits_at f place b) (named_by letter)

-- a full set of valid bytes: as many as the size, each valid in its place
unfoldable pub all_later : Format → List ℕ → Bool
all_later f [] = true
all_later f (b ∷ bytes) = fits_later f b && all_later f bytes

unfoldable pub valid : Format → List ℕ → Bool
valid f [] = false
valid f (b ∷ bytes) = eqb (length (b ∷ bytes)) (size_of f) && fits_first f b && all_later f bytes
