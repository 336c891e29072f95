-- S: a report and its bytes.
use Prim.Native.Nat.{ℕ}
use mathlib.Core.Path.{◌≡◌, refl, ap, ap₂, ◌∙◌, sym}
use mathlib.Core.Bool.{Bool, true, false, ◌||◌}
use mathlib.Core.List.{List, [], ◌∷◌, ◌++◌}
use native.Mathlib.Omega.{arith}
use native.Mathlib.Nat.{zero-add}
use lib.ListN.{length, take}
use lib.IntN.{ℤ, nat_abs}
use lib.Signed.{non_neg}
use borrow.Author.Tests.{ne_eqb}
use Rattle.numbers.specs.Bits.{I, O, number, bit, bits}
use Rattle.numbers.specs.Signed.{signed}
use Rattle.numbers.proofs.Tested.{truth, tested, holds}
use Rattle.numbers.proofs.Rows.{bits_below, number_whole, bit_in, bits_in, whole_in}
use Rattle.numbers.proofs.Twos.{signed_whole, signed_magnitude, signed_sign}
use Rattle.wire.specs.Table.{L, M, R, bytes_s}
use Rattle.wire.specs.Holds.{within, x_range}
use Rattle.wire.specs.Places.{𝟏, 𝟎, ·, like, fits_first, fits_later, all_later, valid}
use Rattle.wire.specs.Reading.{read_s, report_of, plus_zero, is_zero}
use Rattle.wire.specs.declared.Report.{Report}
use Rattle.wire.specs.declared.Format.TheVariants.{Mm}
use Rattle.wire.proofs.Codec.Cells.{like_row, like_byte, like_filled, like_number}
use Rattle.wire.proofs.Codec.Shapes.{OfThree, ReadParts, ComesBack, three}
use Rattle.wire.proofs.Codec.Accepted.{Parts, one_pair, same_pair}
use Rattle.wire.proofs.Codec.Ranges.{magnitude, magnitude_within}

-- a magnitude is a later byte
magnitude_fits : (z : ℤ) → within (x_range Mm) z ≡ true → fits_later Mm (nat_abs z) ≡ true
unfolding fits_later like bit
magnitude_fits z h = truth (fits_later Mm (nat_abs z)) (tested (fits_later Mm) 128 tt (nat_abs z) (omega (arith, magnitude 126 z h)))

pub valid_s : (r : Report) → Parts Mm r → valid Mm (bytes_s r) ≡ true
unfolding valid all_later fits_first bytes_s
valid_s r p =
    three (like_row (𝟏 ∷ 𝟎 ∷ 𝟎 ∷ · ∷ · ∷ · ∷ · ∷ · ∷ []) (I ∷ O ∷ O ∷ non_neg r.x1 ∷ non_neg r.y1 ∷ L r ∷ M r ∷ R r ∷ []) refl refl)
    (magnitude_fits r.x1 p.moved.x)
    (magnitude_fits r.y1 p.moved.y)

-- a movement by its sign in the first byte and its magnitude
movement : (hi lo : List Bool) (z : ℤ) → within (x_range Mm) z ≡ true → signed (bit (length lo) (number (hi ++ (non_neg z ∷ lo)))) (number (bits 7 0 (nat_abs z))) ≡ z
movement hi lo z h =
    rw (bit_in hi (non_neg z) lo, number_whole 7 (nat_abs z) (omega (arith, magnitude 126 z h))) (signed_whole z)

pub there_s : (r : Report) → Parts Mm r → report_of Mm (bytes_s r) ≡ r
unfolding read_s bits bytes_s
there_s r p =
    same_pair Mm refl p (whole_in (I ∷ O ∷ O ∷ non_neg r.x1 ∷ non_neg r.y1 ∷ []) [] 3 r.buttons p.pressed)
    (movement (I ∷ O ∷ O ∷ []) (non_neg r.y1 ∷ L r ∷ M r ∷ R r ∷ []) r.x1 p.moved.x)
    (movement (I ∷ O ∷ O ∷ non_neg r.x1 ∷ []) (L r ∷ M r ∷ R r ∷ []) r.y1 p.moved.y)

-- seven bits under either sign are a movement that S holds
seven_within : (s : Bool) (b : ℕ) → within (x_range Mm) (signed s (number (bits 7 0 b))) ≡ true
seven_within s b =
    let m = number (bits 7 0 b) in
    magnitude_within 126 (signed s m) (rw (signed_magnitude s m) (omega (arith, bits_below 7 0 b)))

pub read_s_lem : OfThree Mm (ReadParts Mm)
unfolding read_s
read_s_lem b1 b2 b3 h1 h2 h3 =
    one_pair Mm refl (bits_below 3 0 b1) (seven_within (bit 4 b1) b2)
    (seven_within (bit 3 b1) b3)

-- a later byte is its magnitude
seven : (b : ℕ) → fits_later Mm b ≡ true → number (bits 7 0 b) ≡ b
unfolding fits_later number bits
seven b l = sym (zero-add (number (bits 7 0 b))) ∙ like_number (𝟎 ∷ · ∷ · ∷ · ∷ · ∷ · ∷ · ∷ · ∷ []) b refl l

pub back_s : OfThree Mm (ComesBack Mm)
unfolding fits_first bytes_s read_s plus_zero bits
back_s b1 b2 b3 h1 h2 h3 =
    let mark = ap (take 3) (like_filled (𝟏 ∷ 𝟎 ∷ 𝟎 ∷ · ∷ · ∷ · ∷ · ∷ · ∷ []) b1 h1) in
    simp (signed_sign, signed_magnitude, seven b2 h2, seven b3 h3)
    (ap₂ (λ (hi lo : List Bool). number (hi ++ (bit 4 b1 || is_zero b2) ∷ (bit 3 b1 || is_zero b3) ∷ lo) ∷ b2 ∷ b3 ∷ []) mark (bits_in [] (bits 3 0 b1) []))

-- a sign that is 1 where the magnitude is 0 stays as it is
sign_stays : (s : Bool) (m : ℕ) → (m ≡ 0 → s ≡ true) → s || is_zero m ≡ s
sign_stays true m h = refl
sign_stays false m h = ne_eqb m 0 (λ e. holds (h e))

pub settled_s : (b1 b2 b3 : ℕ) → fits_first Mm b1 ≡ true → (b2 ≡ 0 → bit 4 b1 ≡ true) → (b3 ≡ 0 → bit 3 b1 ≡ true) → plus_zero b1 b2 b3 ≡ b1 ∷ b2 ∷ b3 ∷ []
unfolding fits_first plus_zero bits
settled_s b1 b2 b3 h1 x y =
    rw (sign_stays (bit 4 b1) b2 x, sign_stays (bit 3 b1) b3 y)
    (ap (λ (b : ℕ). b ∷ b2 ∷ b3 ∷ []) (number_whole 8 b1 (like_byte (𝟏 ∷ 𝟎 ∷ 𝟎 ∷ · ∷ · ∷ · ∷ · ∷ · ∷ []) b1 h1)))
