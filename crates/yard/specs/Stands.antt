-- Which bytes of a report a box can send: those that fit their place, less what no box sends. "Minus zero in S and -128 on the wire of an eight-bit format are
-- such words." "The V rule of §1 does not apply here: bit 7 must be 0."
use Rattle.std.specs.Prelude.{ℕ, Bool, false, not, ◌&&◌, ◌||◌, ◌++◌, eqb}
use Rattle.numbers.specs.Bits.{number, bit, bits}
use Rattle.wire.specs.Line.{named_by, of_named}
use Rattle.wire.specs.Places.{fits_at, fits_by}
use Rattle.wire.specs.declared.Format.{Format}
use Rattle.wire.specs.declared.Format.TheVariants.{Mm, Microsoft, Absolute, Relative, FiveByte, ThreeByte, Hexadecimal}

-- "Minus zero in S": a magnitude 0, X at place 1 and Y at place 2, whose sign bit in the first byte is 0
unfoldable pub minus_zero : ℕ → ℕ → ℕ → Bool
minus_zero place first b = eqb b 0 && ((eqb place 1 && not (bit 4 first)) || (eqb place 2 && not (bit 3 first)))

-- -128 on the wire, which is 128 as a byte
abbrev pub is_least : ℕ → Bool
is_least X = eqb X 128

-- in V: "0 1 L R Y7 Y6 X7 X6; 0 0 X5-X0; 0 0 Y5-Y0"
unfoldable pub least_v : ℕ → ℕ → ℕ → Bool
least_v place first b =
    (eqb place 1 && is_least (number (bits 2 0 first ++ bits 6 0 b))) || (eqb place 2 && is_least (number (bits 2 2 first ++ bits 6 0 b)))

-- in U and T: any byte behind the first
unfoldable pub least : ℕ → ℕ → Bool
least place b = not (eqb place 0) && is_least b

-- in W: "X low digit, X high; Y low, Y high", the high digit 8 behind the low digit 0
unfoldable pub least_w : ℕ → ℕ → ℕ → Bool
least_w place last b = (eqb place 2 || eqb place 4) && eqb last 0x30 && eqb b 0x38

-- what no box sends at a place, behind a first and a last byte of a report; in A and B it sends all that fits
unfoldable pub barred : Format → ℕ → ℕ → ℕ → ℕ → Bool
barred Mm place first last b = minus_zero place first b
barred Microsoft place first last b = least_v place first b
barred Absolute place first last b = false
barred Relative place first last b = false
barred FiveByte place first last b = least place b
barred ThreeByte place first last b = least place b
barred Hexadecimal place first last b = least_w place last b

unfoldable pub stands : Format → ℕ → ℕ → ℕ → ℕ → Bool
stands f place first last b = fits_at f place b && not (barred f place first last b)

-- the same by letter: nothing is barred of a letter that is not in the table, and nothing stands
unfoldable pub barred_by : ℕ → ℕ → ℕ → ℕ → ℕ → Bool
barred_by letter place first last b = of_named false (λ f. barred f place first last b) (named_by letter)

unfoldable pub stands_by : ℕ → ℕ → ℕ → ℕ → ℕ → Bool
stands_by letter place first last b = fits_by letter place b && not (barred_by letter place first last b)
