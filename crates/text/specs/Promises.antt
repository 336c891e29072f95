-- What each public function promises: for every argument one answer.
use Rattle.std.specs.Prelude.{ℕ, ◌≡◌, Bool, List, ℤ, Option}
use Rattle.text.specs.Growth.{none, grown, grown_by, slice, filled, filled_by, fits_at, put_of}
use Rattle.text.specs.Decimals.{decimal_of, number_in}
use Rattle.text.specs.Lengths.{length_to}
use Rattle.text.specs.declared.Text.{Text}

-- `Text::none()`: the empty text
abbrev pub NonePromise : Text → Type 0
NonePromise r = r ≡ none

-- `Text::with(self, byte)`: a byte more
abbrev pub WithPromise : Text → ℕ → Text → Type 0
WithPromise t b r = r ≡ grown t b

-- `Text::decimal(self, width, x)`: the decimal of a number
abbrev pub DecimalPromise : Text → ℕ → ℤ → Text → Type 0
DecimalPromise t width x r = r ≡ grown_by t (decimal_of width x)

-- `number(bytes, width)`: the number of a decimal
abbrev pub NumberPromise : List ℕ → ℕ → Option ℤ → Type 0
NumberPromise bytes width r = r ≡ number_in width bytes

-- `Text::put(self, out, at)`: whether it was put, and every byte of the slice
abbrev pub PutPromise : Text → ℕ → List ℕ → Bool → List ℕ → Type 0
PutPromise t at before r after = (r ≡ fits_at t at before) × (after ≡ put_of t at before)

-- `Text::byte_to(out, at, b)`: a byte to a slice, and the place behind it
abbrev pub ByteToPromise : List ℕ → ℕ → ℕ → ℕ → List ℕ → Type 0
ByteToPromise before at b r after = slice after r ≡ filled (slice before at) b

-- `Text::bytes_to(out, at, bytes)`: bytes to a slice, and the place behind them
abbrev pub BytesToPromise : List ℕ → ℕ → List ℕ → ℕ → List ℕ → Type 0
BytesToPromise before at bytes r after = slice after r ≡ filled_by (slice before at) bytes

-- `Text::decimal_to(out, at, width, x)`: the decimal of a number to a slice, and the place behind it
abbrev pub DecimalToPromise : List ℕ → ℕ → ℕ → ℤ → ℕ → List ℕ → Type 0
DecimalToPromise before at width x r after = slice after r ≡ filled_by (slice before at) (decimal_of width x)

-- `length_to(bytes, stop)`: the bytes in front of the first that is this one, or all where none is
abbrev pub LengthToPromise : List ℕ → ℕ → ℕ → Type 0
LengthToPromise bytes stop r = r ≡ length_to stop bytes
