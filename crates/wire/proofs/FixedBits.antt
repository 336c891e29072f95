-- The fixed bits of a row, as a program tests them.
use Prim.Native.Nat.{ℕ, ◌/◌, ◌%◌, ◌<◌}
use mathlib.Core.Path.{◌≡◌}
use mathlib.Core.Bool.{Bool, true, ◌&&◌}
use lib.Dec.{eqb, ltb, leb}
use lib.Count.{ones, ones_in}
use Rattle.numbers.specs.Bits.{bit}
use Rattle.numbers.specs.Parity.{even}
use Rattle.numbers.proofs.Tested.{agree}
use Rattle.wire.specs.Places.{like, fits_first, fits_later}
use Rattle.wire.specs.Digits.{is_digit}
use Rattle.wire.specs.declared.Format.{Format}
use Rattle.wire.specs.declared.Format.TheVariants.{Mm, Microsoft, Absolute, Relative, FiveByte, ThreeByte, Hexadecimal}

abbrev pub first_test : Format → ℕ → Bool
first_test Mm b = eqb (b / 32) 4
first_test Microsoft b = eqb (b / 64) 1
first_test Absolute b = eqb (b / 32 % 4) 2 && eqb (b % 4) 0 && even b
first_test Relative b = eqb (b / 32 % 4) 2 && eqb (b % 4) 0 && even b
first_test FiveByte b = eqb (b / 8) 16
first_test ThreeByte b = ltb b 8
first_test Hexadecimal b = leb 0x30 b && leb b 0x37

abbrev pub later_test : Format → ℕ → Bool
later_test Mm b = ltb b 128
later_test Microsoft b = ltb b 64
later_test Absolute b = eqb (b / 64 % 2) 0 && even b
later_test Relative b = eqb (b / 64 % 2) 0 && even b
later_test FiveByte b = true
later_test ThreeByte b = true
later_test Hexadecimal b = is_digit b

-- at each byte
pub first_tested : (f : Format) (b : ℕ) → b < 256 → first_test f b ≡ fits_first f b
unfolding fits_first like bit ones ones_in
first_tested Mm b h = agree (first_test Mm) (fits_first Mm) 256 tt b h
first_tested Microsoft b h = agree (first_test Microsoft) (fits_first Microsoft) 256 tt b h
first_tested Absolute b h = agree (first_test Absolute) (fits_first Absolute) 256 tt b h
first_tested Relative b h = agree (first_test Relative) (fits_first Relative) 256 tt b h
first_tested FiveByte b h = agree (first_test FiveByte) (fits_first FiveByte) 256 tt b h
first_tested ThreeByte b h = agree (first_test ThreeByte) (fits_first ThreeByte) 256 tt b h
first_tested Hexadecimal b h = agree (first_test Hexadecimal) (fits_first Hexadecimal) 256 tt b h

pub later_tested : (f : Format) (b : ℕ) → b < 256 → later_test f b ≡ fits_later f b
unfolding fits_later like bit ones ones_in
later_tested Mm b h = agree (later_test Mm) (fits_later Mm) 256 tt b h
later_tested Microsoft b h = agree (later_test Microsoft) (fits_later Microsoft) 256 tt b h
later_tested Absolute b h = agree (later_test Absolute) (fits_later Absolute) 256 tt b h
later_tested Relative b h = agree (later_test Relative) (fits_later Relative) 256 tt b h
later_tested FiveByte b h = agree (later_test FiveByte) (fits_later FiveByte) 256 tt b h
later_tested ThreeByte b h = agree (later_test ThreeByte) (fits_later ThreeByte) 256 tt b h
later_tested Hexadecimal b h = agree (later_test Hexadecimal) (fits_later Hexadecimal) 256 tt b h
