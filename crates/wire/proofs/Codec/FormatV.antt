-- V: a report and its bytes.
use Prim.Native.Nat.{ℕ, ◌<◌}
use mathlib.Core.Path.{◌≡◌, refl, ap, ap₂, ◌∙◌}
use mathlib.Core.Bool.{Bool, true}
use mathlib.Core.List.{List, [], ◌∷◌, ◌++◌}
use lib.ListN.{length}
use lib.IntN.{neg_ℤ, neg_ℤ-neg_ℤ}
use Rattle.numbers.specs.Bits.{I, O, number, bit, bits}
use Rattle.numbers.specs.Signed.{twos, untwos}
use Rattle.numbers.proofs.Rows.{number_below, number_whole, bit_in, bits_in}
use Rattle.numbers.proofs.Twos.{twos_below, untwos_twos, untwos_near, twos_untwos}
use Rattle.wire.specs.Table.{L, R, rows_v, bytes_v}
use Rattle.wire.specs.Holds.{without_m}
use Rattle.wire.specs.Places.{𝟏, 𝟎, ·, fits_first, fits_later, all_later, valid}
use Rattle.wire.specs.Reading.{read_v, report_of}
use Rattle.wire.specs.declared.Report.{Report}
use Rattle.wire.specs.declared.Format.TheVariants.{Microsoft}
use Rattle.wire.proofs.Codec.Cells.{like_row, like_number}
use Rattle.wire.proofs.Codec.Shapes.{OfThree, ReadParts, ComesBack, three}
use Rattle.wire.proofs.Codec.Accepted.{Parts, one_pair, same_pair}
use Rattle.wire.proofs.Codec.Ranges.{twos_within, twos_back, untwos_within, south, south_within}

pub valid_v : (r : Report) → valid Microsoft (bytes_v r) ≡ true
unfolding valid all_later fits_first fits_later bytes_v rows_v bits
valid_v r =
    let X = twos 128 r.x1 in
    let Y = twos 128 (neg_ℤ r.y1) in
    let later = 𝟎 ∷ 𝟎 ∷ · ∷ · ∷ · ∷ · ∷ · ∷ · ∷ [] in
    three (like_row (𝟎 ∷ 𝟏 ∷ · ∷ · ∷ · ∷ · ∷ · ∷ · ∷ []) (O ∷ I ∷ L r ∷ R r ∷ bits 2 6 Y ++ bits 2 6 X) refl refl)
    (like_row later (O ∷ O ∷ bits 6 0 X) refl refl)
    (like_row later (O ∷ O ∷ bits 6 0 Y) refl refl)

-- a byte of which the first byte has the high two bits, and a later one the low six
eight : (hi lo : List Bool) (X : ℕ) → X < 256 → number (bits 2 (length lo) (number (hi ++ (bits 2 6 X ++ lo))) ++ bits 6 0 (number (O ∷ O ∷ bits 6 0 X))) ≡ X
unfolding bits
eight hi lo X h =
    ap₂ (λ (a b : List Bool). number (a ++ b)) (bits_in hi (bits 2 6 X) lo) (bits_in (O ∷ O ∷ []) (bits 6 0 X) [])
    ∙ number_whole 8 X h

-- without M a report is held as it was
pub carried_v : (r : Report) → Parts Microsoft r → Parts Microsoft (without_m r)
carried_v r p =
    let m = p.moved in
    record {
      pressed = number_below (L r ∷ O ∷ R r ∷ []);
      moved = record { x = m.x; y = m.y; second_x = m.second_x; second_y = m.second_y };
    }

pub there_v : (r : Report) → Parts Microsoft r → report_of Microsoft (bytes_v r) ≡ without_m r
unfolding read_v bits bytes_v rows_v
there_v r p =
    let X = twos 128 r.x1 in
    let Y = twos 128 (neg_ℤ r.y1) in
    let near = south 126 r.y1 p.moved.y in
    same_pair Microsoft refl (carried_v r p)
    (ap₂ (λ (a b : Bool). number (a ∷ O ∷ b ∷ [])) (bit_in (O ∷ I ∷ []) (L r) (R r ∷ bits 2 6 Y ++ bits 2 6 X))
    (bit_in (O ∷ I ∷ L r ∷ []) (R r) (bits 2 6 Y ++ bits 2 6 X)))
    (ap (untwos 128) (eight (O ∷ I ∷ L r ∷ R r ∷ bits 2 6 Y) [] X (twos_within 127 r.x1 p.moved.x))
    ∙ twos_back 127 r.x1 p.moved.x)
    (ap (λ (n : ℕ). neg_ℤ (untwos 128 n)) (eight (O ∷ I ∷ L r ∷ R r ∷ []) (bits 2 6 X) Y (twos_below 128 (neg_ℤ r.y1) near))
    ∙ ap neg_ℤ (untwos_twos 128 (neg_ℤ r.y1) near) ∙ neg_ℤ-neg_ℤ r.y1)

-- two bits and six are a byte
eight_below : (k b c : ℕ) → number (bits 2 k b ++ bits 6 0 c) < 256
unfolding bits
eight_below k b c = number_below (bits 2 k b ++ bits 6 0 c)

pub read_v_lem : OfThree Microsoft (ReadParts Microsoft)
unfolding read_v
read_v_lem b1 b2 b3 h1 h2 h3 =
    let X = number (bits 2 0 b1 ++ bits 6 0 b2) in
    let Y = number (bits 2 2 b1 ++ bits 6 0 b3) in
    one_pair Microsoft refl (number_below (bit 5 b1 ∷ O ∷ bit 4 b1 ∷ []))
    (untwos_within 127 X (eight_below 0 b1 b2))
    (south_within 126 (untwos 128 Y) (untwos_near 128 Y (eight_below 2 b1 b3)))

-- a later byte is its six bits
six : (b : ℕ) (row : List Bool) → fits_later Microsoft b ≡ true → row ≡ bits 6 0 b → number (O ∷ O ∷ row) ≡ b
unfolding fits_later bits
six b row l e =
    ap (λ (row : List Bool). number (O ∷ O ∷ row)) e ∙ like_number (𝟎 ∷ 𝟎 ∷ · ∷ · ∷ · ∷ · ∷ · ∷ · ∷ []) b refl l

pub back_v : OfThree Microsoft (ComesBack Microsoft)
unfolding fits_first bytes_v rows_v read_v bits
back_v b1 b2 b3 h1 h2 h3 =
    let X = number (bits 2 0 b1 ++ bits 6 0 b2) in
    let Y = number (bits 2 2 b1 ++ bits 6 0 b3) in
    let buttons = number (bit 5 b1 ∷ O ∷ bit 4 b1 ∷ []) in
    let first : number (O ∷ I ∷ bit 2 buttons ∷ bit 0 buttons ∷ bits 2 6 Y ++ bits 2 6 X) ≡ b1 =
    ap₂ (λ (l r : Bool). number (O ∷ I ∷ l ∷ r ∷ bits 2 6 Y ++ bits 2 6 X)) (bit_in [] (bit 5 b1) (O ∷ bit 4 b1 ∷ []))
    (bit_in (bit 5 b1 ∷ O ∷ []) (bit 4 b1) [])
    ∙ ap₂ (λ (y x : List Bool). number (O ∷ I ∷ bit 5 b1 ∷ bit 4 b1 ∷ y ++ x)) (bits_in [] (bits 2 2 b1) (bits 6 0 b3))
    (bits_in [] (bits 2 0 b1) (bits 6 0 b2))
    ∙ like_number (𝟎 ∷ 𝟏 ∷ · ∷ · ∷ · ∷ · ∷ · ∷ · ∷ []) b1 refl h1 in
    rw (neg_ℤ-neg_ℤ, twos_untwos 128 X (eight_below 0 b1 b2), twos_untwos 128 Y (eight_below 2 b1 b3))
    (λ i. first i ∷ six b2 (bits 6 0 X) h2 (bits_in (bits 2 0 b1) (bits 6 0 b2) []) i ∷ six b3 (bits 6 0 Y) h3 (bits_in (bits 2 2 b1) (bits 6 0 b3) []) i ∷ [])
