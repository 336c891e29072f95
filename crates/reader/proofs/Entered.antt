-- What enters: the laws of `entered`, through which every byte comes in, and the words of a line as they enter. No other law sees through it.
use Prim.Native.Nat.{ℕ, ◌≤◌}
use mathlib.Core.Path.{◌≡◌, refl, sym, ◌∙◌}
use mathlib.Core.Bool.{Bool, true, false, cond}
use mathlib.Core.List.{List, map}
use native.Mathlib.Omega.{arith}
use lib.Dec.{eqb}
use borrow.Author.Tests.{eqb-true}
use Rattle.numbers.specs.Bits.{number, bit, bits}
use Rattle.numbers.proofs.Choices.{cases}
use Rattle.numbers.proofs.Rows.{bits_below}
use Rattle.numbers.proofs.Tested.{equal_if}
use Rattle.frames.specs.Words.{is_byte}
use Rattle.wire.specs.Line.{letter_of}
use Rattle.wire.specs.Places.{like, fits_first, fits_later, fits_at, fits_by}
use Rattle.wire.specs.declared.Format.TheVariants.{Microsoft}
use Rattle.wire.proofs.Codec.{fits_byte}
use Rattle.wire.proofs.Letters.{letter_named, fits_named}
use Rattle.reader.specs.Rules.{entered}

-- in V a byte enters without bit 7, and outside V as itself
pub enters_in_v : (b : ℕ) → entered (letter_of Microsoft) b ≡ number (bits 7 0 b)
unfolding entered
enters_in_v b = refl

pub enters_outside_v : (letter b : ℕ) → eqb letter (letter_of Microsoft) ≡ false → entered letter b ≡ b
unfolding entered
enters_outside_v letter b h = rw h

-- so it enters as a byte
pub byte_enters : (letter b : ℕ) → b ≤ 255 → entered letter b ≤ 255
unfolding entered
byte_enters letter b h =
    cases (λ (n : ℕ). n ≤ 255) (eqb letter (letter_of Microsoft)) (λ _. omega (arith, bits_below 7 0 b)) (λ _. h)

-- and one that fits its place as itself, as all that a box sends
pub seven_bits_lem : (place b : ℕ) → fits_at Microsoft place b ≡ true → number (bits 7 0 b) ≡ b
unfolding fits_at fits_first fits_later like bit bits number
seven_bits_lem place b h = go (eqb place 0) h
  where
    go : (t : Bool) → cond t (fits_first Microsoft b) (fits_later Microsoft b) ≡ true → number (bits 7 0 b) ≡ b
    go true e = equal_if (fits_first Microsoft) (λ n. number (bits 7 0 n)) (λ n. n) 256 tt b (fits_byte Microsoft place b h) e
    go false e = equal_if (fits_later Microsoft) (λ n. number (bits 7 0 n)) (λ n. n) 256 tt b (fits_byte Microsoft place b h) e

pub fit_enters : (letter place b : ℕ) → fits_by letter place b ≡ true → entered letter b ≡ b
fit_enters letter place b h = go (eqb letter (letter_of Microsoft)) refl
  where
    go : (t : Bool) → eqb letter (letter_of Microsoft) ≡ t → entered letter b ≡ b
    go true e =
        let is = eqb-true letter (letter_of Microsoft) e in
        rw (is, enters_in_v b) (seven_bits_lem place b (sym (fits_named (letter_of Microsoft) (letter_named Microsoft) place b) ∙ (rw is at h)))
    go false e = enters_outside_v letter b e

-- a word as it enters: a break and a silence as themselves
abbrev pub entered_word : ℕ → ℕ → ℕ
entered_word letter w = cond (is_byte w) (entered letter w) w

abbrev pub entered_all : ℕ → List ℕ → List ℕ
entered_all letter words = map (entered_word letter) words
