-- A and B: a report and its bytes.
use Prim.Native.Nat.{ℕ, ◌<◌}
use mathlib.Core.Path.{◌≡◌, refl, ap, ap₂, ◌∙◌}
use mathlib.Core.Bool.{Bool, true, not}
use mathlib.Core.List.{List, [], ◌∷◌, ◌++◌}
use native.Mathlib.Omega.{arith}
use lib.IntN.{ℤ, pos, nat_abs}
use Rattle.wire.proofs.Fields.{twelve_below}
use Rattle.numbers.specs.Bits.{I, O, number, bits}
use Rattle.numbers.specs.Signed.{twos, untwos}
use Rattle.numbers.specs.Parity.{even, with_parity}
use Rattle.numbers.proofs.Rows.{number_whole, bits_below, bits_in, whole_in}
use Rattle.numbers.proofs.Twos.{twos_untwos}
use Rattle.wire.specs.Table.{L, M, R, rows_a, bytes_a, bytes_b}
use Rattle.wire.specs.Holds.{within, x_range}
use Rattle.wire.specs.Places.{Cell, 𝟏, 𝟎, ·, fits_first, fits_later, all_later, valid}
use Rattle.wire.specs.Reading.{at, report, twelve, read_a, read_b, report_of}
use Rattle.wire.specs.declared.Report.{Report}
use Rattle.wire.specs.declared.Format.TheVariants.{Absolute, Relative}
use Rattle.wire.proofs.Codec.Cells.{parity_row, parity_number}
use Rattle.wire.proofs.Codec.Shapes.{OfFive, ReadParts, ComesBack, five}
use Rattle.wire.proofs.Codec.Accepted.{Parts, one_pair, same_pair}
use Rattle.wire.proofs.Codec.Ranges.{positive, at_most, at_most_within, twos_within, twos_back, untwos_within}

-- the seven bits under P
abbrev first : List Cell
first = 𝟏 ∷ 𝟎 ∷ · ∷ · ∷ · ∷ 𝟎 ∷ 𝟎 ∷ []

abbrev later : List Cell
later = 𝟎 ∷ · ∷ · ∷ · ∷ · ∷ · ∷ · ∷ []

valid_rows : (r : Report) (X Y : ℕ) → valid Absolute (rows_a r X Y) ≡ true
unfolding valid all_later fits_first fits_later rows_a bits
valid_rows r X Y =
    five (parity_row first (I ∷ O ∷ L r ∷ M r ∷ R r ∷ O ∷ O ∷ []) refl refl)
    (parity_row later (O ∷ bits 6 0 X) refl refl)
    (parity_row later (O ∷ bits 6 6 X) refl refl)
    (parity_row later (O ∷ bits 6 0 Y) refl refl)
    (parity_row later (O ∷ bits 6 6 Y) refl refl)

pub valid_a : (r : Report) → valid Absolute (bytes_a r) ≡ true
unfolding bytes_a
valid_a r = valid_rows r (nat_abs r.x1) (nat_abs r.y1)

pub valid_b : (r : Report) → valid Relative (bytes_b r) ≡ true
unfolding valid all_later fits_first fits_later bytes_b rows_a
valid_b r = valid_rows r (twos 2048 r.x1) (twos 2048 r.y1)

-- the buttons and the two numbers, read back
buttons_there : (r : Report) → r.buttons < 8 → number (bits 3 2 (number (with_parity (I ∷ O ∷ L r ∷ M r ∷ R r ∷ O ∷ O ∷ [])))) ≡ r.buttons
unfolding with_parity bits
buttons_there r h =
    let P = not (even (number (I ∷ O ∷ L r ∷ M r ∷ R r ∷ O ∷ O ∷ []))) in
    whole_in (P ∷ I ∷ O ∷ []) (O ∷ O ∷ []) 3 r.buttons h

six_there : (k X : ℕ) → bits 6 0 (number (with_parity (O ∷ bits 6 k X))) ≡ bits 6 k X
unfolding with_parity bits
six_there k X = bits_in (not (even (number (O ∷ bits 6 k X))) ∷ O ∷ []) (bits 6 k X) []

twelve_there : (X : ℕ) → X < 4096 → twelve (number (with_parity (O ∷ bits 6 0 X))) (number (with_parity (O ∷ bits 6 6 X))) ≡ X
unfolding bits
twelve_there X h = ap₂ (λ (a b : List Bool). number (a ++ b)) (six_there 6 X) (six_there 0 X) ∙ number_whole 12 X h

absolute_there : (z : ℤ) → within (x_range Absolute) z ≡ true → pos (twelve (number (with_parity (O ∷ bits 6 0 (nat_abs z)))) (number (with_parity (O ∷ bits 6 6 (nat_abs z))))) ≡ z
absolute_there z e = ap pos (twelve_there (nat_abs z) (omega (arith, at_most 4095 z e))) ∙ positive 4095 z e

pub there_a : (r : Report) → Parts Absolute r → report_of Absolute (bytes_a r) ≡ r
unfolding read_a bytes_a rows_a
there_a r p =
    same_pair Absolute refl p (buttons_there r p.pressed)
    (absolute_there r.x1 p.moved.x)
    (absolute_there r.y1 p.moved.y)

relative_there : (z : ℤ) → within (x_range Relative) z ≡ true → untwos 2048 (twelve (number (with_parity (O ∷ bits 6 0 (twos 2048 z)))) (number (with_parity (O ∷ bits 6 6 (twos 2048 z))))) ≡ z
relative_there z e = ap (untwos 2048) (twelve_there (twos 2048 z) (twos_within 2047 z e)) ∙ twos_back 2047 z e

pub there_b : (r : Report) → Parts Relative r → report_of Relative (bytes_b r) ≡ r
unfolding read_b bytes_b rows_a
there_b r p =
    same_pair Relative refl p (buttons_there r p.pressed)
    (relative_there r.x1 p.moved.x)
    (relative_there r.y1 p.moved.y)

pub read_a_lem : OfFive Absolute (ReadParts Absolute)
unfolding read_a
read_a_lem b1 b2 b3 b4 b5 h1 h2 h3 h4 h5 =
    one_pair Absolute refl (bits_below 3 2 b1) (at_most_within 4095 (twelve b2 b3) (omega (arith, twelve_below b2 b3)))
    (at_most_within 4095 (twelve b4 b5) (omega (arith, twelve_below b4 b5)))

pub read_b_lem : OfFive Relative (ReadParts Relative)
unfolding read_b
read_b_lem b1 b2 b3 b4 b5 h1 h2 h3 h4 h5 =
    one_pair Relative refl (bits_below 3 2 b1) (untwos_within 2047 (twelve b2 b3) (twelve_below b2 b3))
    (untwos_within 2047 (twelve b4 b5) (twelve_below b4 b5))

-- a later byte is its six bits under P
six : (b : ℕ) (row : List Bool) → fits_later Absolute b ≡ true → row ≡ bits 6 0 b → number (with_parity (O ∷ row)) ≡ b
unfolding fits_later bits
six b row l e = ap (λ (row : List Bool). number (with_parity (O ∷ row))) e ∙ parity_number later b refl l

low : (b c : ℕ) → fits_later Absolute b ≡ true → number (with_parity (O ∷ bits 6 0 (twelve b c))) ≡ b
unfolding bits
low b c l = six b (bits 6 0 (twelve b c)) l (bits_in (bits 6 0 c) (bits 6 0 b) [])

high : (b c : ℕ) → fits_later Absolute c ≡ true → number (with_parity (O ∷ bits 6 6 (twelve b c))) ≡ c
unfolding bits
high b c l = six c (bits 6 6 (twelve b c)) l (bits_in [] (bits 6 0 c) (bits 6 0 b))

rows_back : (x y : ℤ) → OfFive Absolute (λ bs. rows_a (report (number (bits 3 2 (at 0 bs))) x y) (twelve (at 1 bs) (at 2 bs)) (twelve (at 3 bs) (at 4 bs)) ≡ bs)
unfolding fits_first rows_a bits
rows_back x y b1 b2 b3 b4 b5 h1 h2 h3 h4 h5 =
    let buttons = ap (λ (row : List Bool). number (with_parity (I ∷ O ∷ row ++ O ∷ O ∷ []))) (bits_in [] (bits 3 2 b1) []) in
    let head = buttons ∙ parity_number first b1 refl h1 in
    λ i. head i ∷ low b2 b3 h2 i ∷ high b2 b3 h3 i ∷ low b4 b5 h4 i ∷ high b4 b5 h5 i ∷ []

pub back_a : OfFive Absolute (ComesBack Absolute)
unfolding bytes_a read_a
back_a b1 b2 b3 b4 b5 = rows_back (pos (twelve b2 b3)) (pos (twelve b4 b5)) b1 b2 b3 b4 b5

pub back_b : OfFive Relative (ComesBack Relative)
unfolding fits_first fits_later bytes_b read_b
back_b b1 b2 b3 b4 b5 h1 h2 h3 h4 h5 =
    rw (twos_untwos 2048 (twelve b2 b3) (twelve_below b2 b3), twos_untwos 2048 (twelve b4 b5) (twelve_below b4 b5))
    (rows_back (untwos 2048 (twelve b2 b3)) (untwos 2048 (twelve b4 b5)) b1 b2 b3 b4 b5 h1 h2 h3 h4 h5)
