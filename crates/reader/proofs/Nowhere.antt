-- "(wrong fixed bits, odd count of ones in A or B, [..] in W no hex digit, or a first digit above 7)": such a byte "is dropped with the k kept, k+1;
-- U, T, W then await silence".
use Prim.Native.Nat.{ℕ, ◌+◌, ◌<◌, ◌≤◌}
use mathlib.Core.Path.{◌≡◌, refl, ◌∙◌}
use mathlib.Core.Bool.{Bool, true, false, not, ◌&&◌, ◌||◌, and-false}
use native.Mathlib.Omega.{arith}
use lib.Dec.{T, leb, ltb, eqb}
use lib.Count.{ones, ones_in}
use borrow.Author.Tests.{lt-leb, le-leb, lt-ltb}
use Rattle.numbers.specs.Bits.{bit}
use Rattle.numbers.specs.Parity.{even}
use Rattle.numbers.specs.Tests.{each}
use Rattle.numbers.proofs.Choices.{cases, neither}
use Rattle.numbers.proofs.Tested.{same, agree_if}
use Rattle.wire.specs.Line.{letter_of, named_by, marked_of}
use Rattle.wire.specs.Digits.{between, is_digit}
use Rattle.wire.specs.Places.{like, fits_at, fits_first, fits_later}
use Rattle.wire.specs.declared.Format.{Format}
use Rattle.wire.specs.declared.Format.TheVariants.{Mm, Absolute, Relative, FiveByte, ThreeByte, Hexadecimal}
use Rattle.std.proofs.Common.{Some}
use Rattle.wire.proofs.Letters.{letter_named, marked_named, fits_named}
use Rattle.reader.specs.State.{fresh, Read}
use Rattle.reader.specs.Good.{good}
use Rattle.reader.specs.Rules.{entered, answered}
use Rattle.reader.specs.Promises.{StepPromise}
use Rattle.reader.specs.declared.Reader.{Reader}
use Rattle.reader.specs.declared.Answer.TheVariants.{Dropped}
use Rattle.reader.proofs.Entered.{enters_outside_v}
use Rattle.reader.proofs.Sentences.{never_awaits, lost}

-- bytes that pass a test are valid neither first nor later: computed at every byte
no_place : (f : Format) (test : ℕ → Bool) → T (each (λ n. not (test n) || same (fits_first f n || fits_later f n) false) 256)
    → (place b : ℕ) → b ≤ 255 → test b ≡ true → fits_at f place b ≡ false
unfolding fits_at
no_place f test t place b h e =
    let none = neither (fits_first f b) (fits_later f b) (agree_if test (λ n. fits_first f n || fits_later f n) (λ n. false) 256 t b (omega arith) e) in
    cases (λ (u : Bool). u ≡ false) (eqb place 0) (λ _. none.0) (λ _. none.1)

module _ (r : Reader) (w : ℕ) (s : Read) (g : good r ≡ true) (byte : w ≤ 255) (e : StepPromise r w s) where
  abbrev Lost : Type 0
  Lost = s ≡ answered (fresh r.format) (Dropped (r.count + 1))

  -- a byte of the format that enters as it is
  module _ (f : Format) (is : r.format ≡ letter_of f) (enters : entered (letter_of f) w ≡ w) where
    named : named_by r.format ≡ Some f
    named = rw is (letter_named f)

    same_byte : entered r.format w ≡ w
    same_byte = rw is enters

    unfit : r.awaiting ≡ false → fits_at f r.count w ≡ false → marked_of f && fits_at f 0 w ≡ false → Lost
    unfit waits h k =
        lost r w s g byte e waits (rw same_byte (fits_named r.format named r.count w ∙ h))
        (rw (same_byte, marked_named r.format named, fits_named r.format named 0 w) k)

    marked_lost : marked_of f ≡ true → (test : ℕ → Bool) → T (each (λ n. not (test n) || same (fits_first f n || fits_later f n) false) 256) → test w ≡ true → Lost
    marked_lost m test t h =
        unfit (never_awaits r g (marked_named r.format named ∙ m)) (no_place f test t r.count w byte h)
        (rw (no_place f test t 0 w byte h) (and-false (marked_of f)))

    unmarked_lost : marked_of f ≡ false → r.awaiting ≡ false → fits_at f r.count w ≡ false → Lost
    unmarked_lost m waits h = unfit waits h (rw m)

  -- S: 1 0 0 SX SY L M R, and later bytes below 128
  pub wrong_bits_s : r.format ≡ 0x53 → 0xA0 ≤ w → Lost
  unfolding fits_first fits_later like bit
  wrong_bits_s f h = marked_lost Mm f (enters_outside_v 0x53 w refl) refl (leb 0xA0) tt (le-leb 0xA0 w h)

  -- A, B: P 1 0 L M R 0 0, and later bytes P 0 and six bits; an odd count of ones
  pub wrong_bits_a : r.format ≡ 0x41 → bit 6 w && (bit 5 w || (bit 1 w || bit 0 w)) ≡ true → Lost
  unfolding fits_first fits_later like bit ones ones_in
  wrong_bits_a f h = marked_lost Absolute f (enters_outside_v 0x41 w refl) refl (λ n. bit 6 n && (bit 5 n || (bit 1 n || bit 0 n))) tt h

  pub wrong_bits_b : r.format ≡ 0x42 → bit 6 w && (bit 5 w || (bit 1 w || bit 0 w)) ≡ true → Lost
  unfolding fits_first fits_later like bit ones ones_in
  wrong_bits_b f h = marked_lost Relative f (enters_outside_v 0x42 w refl) refl (λ n. bit 6 n && (bit 5 n || (bit 1 n || bit 0 n))) tt h

  pub odd_in_a : r.format ≡ 0x41 → even w ≡ false → Lost
  unfolding fits_first fits_later like bit ones ones_in
  odd_in_a f o = marked_lost Absolute f (enters_outside_v 0x41 w refl) refl (λ n. not (even n)) tt (rw o)

  pub odd_in_b : r.format ≡ 0x42 → even w ≡ false → Lost
  unfolding fits_first fits_later like bit ones ones_in
  odd_in_b f o = marked_lost Relative f (enters_outside_v 0x42 w refl) refl (λ n. not (even n)) tt (rw o)

  -- U: a first byte that is not 1 0 0 0 0 L* M* R*; T: one that is not 0 0 0 0 0 L M R
  pub wrong_bits_u : r.format ≡ 0x55 → r.awaiting ≡ false → r.count ≡ 0 → between 0x80 0x87 w ≡ false → Lost
  unfolding fits_at fits_first like bit
  wrong_bits_u f waits z h =
      unmarked_lost FiveByte f (enters_outside_v 0x55 w refl) refl waits
      (rw z (agree_if (λ n. not (between 0x80 0x87 n)) (fits_first FiveByte) (λ n. false) 256 tt w (omega arith) (rw h)))

  pub wrong_bits_t : r.format ≡ 0x54 → r.awaiting ≡ false → r.count ≡ 0 → 7 < w → Lost
  unfolding fits_at fits_first like bit
  wrong_bits_t f waits z h =
      unmarked_lost ThreeByte f (enters_outside_v 0x54 w refl) refl waits
      (rw z (agree_if (ltb 7) (fits_first ThreeByte) (λ n. false) 256 tt w (omega arith) (lt-ltb 7 w h)))

  -- W: no hex digit; a first digit above 7
  pub no_digit_in_w : r.format ≡ 0x57 → r.awaiting ≡ false → is_digit w ≡ false → Lost
  unfolding fits_first fits_later
  no_digit_in_w f waits n =
      unmarked_lost Hexadecimal f (enters_outside_v 0x57 w refl) refl waits (no_place Hexadecimal (λ n. not (is_digit n)) tt r.count w byte (rw n))

  pub first_above_7_in_w : r.format ≡ 0x57 → r.awaiting ≡ false → r.count ≡ 0 → 0x37 < w → Lost
  unfolding fits_at fits_first
  first_above_7_in_w f waits z h = unmarked_lost Hexadecimal f (enters_outside_v 0x57 w refl) refl waits (rw z (simp (lt-leb w 0x37 h, and-false)))
