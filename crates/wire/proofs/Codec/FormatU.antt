-- U: a report and its bytes.
use mathlib.Core.Path.{◌≡◌, refl, ap, ap₂, ◌∙◌}
use mathlib.Core.Bool.{Bool, true, not, not-not}
use mathlib.Core.List.{List, [], ◌∷◌, map}
use Rattle.numbers.specs.Bits.{I, O, number, bits}
use Rattle.numbers.proofs.Rows.{number_below, number_whole, bits_in}
use Rattle.wire.specs.Table.{L, M, R, bytes_u}
use Rattle.wire.specs.Places.{𝟏, 𝟎, ·, fits_first, fits_later, all_later, valid}
use Rattle.wire.specs.Reading.{read_u, report_of}
use Rattle.wire.specs.declared.Report.{Report}
use Rattle.wire.specs.declared.Format.TheVariants.{FiveByte}
use Rattle.wire.proofs.Codec.Cells.{like_row, like_number}
use Rattle.wire.proofs.Codec.Shapes.{OfFive, ReadParts, ComesBack, five}
use Rattle.wire.proofs.Codec.Accepted.{Parts, same_report}
use Rattle.wire.proofs.Codec.Ranges.{twos_byte, twos_back, byte_within, byte_back}

-- "0 = pressed", twice
not_twice : (row : List Bool) → map not (map not row) ≡ row
not_twice [] = refl
not_twice (b ∷ row) = ap₂ ◌∷◌ (not-not b) (not_twice row)

pub valid_u : (r : Report) → Parts FiveByte r → valid FiveByte (bytes_u r) ≡ true
unfolding valid all_later fits_first fits_later bytes_u
valid_u r p =
    five
    (like_row (𝟏 ∷ 𝟎 ∷ 𝟎 ∷ 𝟎 ∷ 𝟎 ∷ · ∷ · ∷ · ∷ []) (I ∷ O ∷ O ∷ O ∷ O ∷ not (L r) ∷ not (M r) ∷ not (R r) ∷ []) refl refl)
    (twos_byte r.x1 p.moved.x)
    (twos_byte r.y1 p.moved.y)
    (twos_byte r.x2 p.moved.second_x)
    (twos_byte r.y2 p.moved.second_y)

pub there_u : (r : Report) → Parts FiveByte r → report_of FiveByte (bytes_u r) ≡ r
unfolding read_u bits bytes_u
there_u r p =
    let stars = map not (bits 3 0 r.buttons) in
    same_report
    (ap (λ (row : List Bool). number (map not row)) (bits_in (I ∷ O ∷ O ∷ O ∷ O ∷ []) stars [])
    ∙ ap number (not_twice (bits 3 0 r.buttons))
    ∙ number_whole 3 r.buttons p.pressed)
    (twos_back 127 r.x1 p.moved.x)
    (twos_back 127 r.y1 p.moved.y)
    (twos_back 127 r.x2 p.moved.second_x)
    (twos_back 127 r.y2 p.moved.second_y)

pub read_u_lem : OfFive FiveByte (ReadParts FiveByte)
unfolding read_u fits_later bits
read_u_lem b1 b2 b3 b4 b5 h1 h2 h3 h4 h5 =
    record {
      pressed = number_below (map not (bits 3 0 b1));
      moved =
          record {
            x = byte_within b2 h2;
            y = byte_within b3 h3;
            second_x = byte_within b4 h4;
            second_y = byte_within b5 h5;
          };
    }

pub back_u : OfFive FiveByte (ComesBack FiveByte)
unfolding fits_first fits_later bytes_u read_u bits
back_u b1 b2 b3 b4 b5 h1 h2 h3 h4 h5 =
    let stars = map not (bits 3 0 b1) in
    let first : number (I ∷ O ∷ O ∷ O ∷ O ∷ map not (bits 3 0 (number stars))) ≡ b1 =
    ap (λ (row : List Bool). number (I ∷ O ∷ O ∷ O ∷ O ∷ map not row)) (bits_in [] stars [])
    ∙ ap (λ (row : List Bool). number (I ∷ O ∷ O ∷ O ∷ O ∷ row)) (not_twice (bits 3 0 b1))
    ∙ like_number (𝟏 ∷ 𝟎 ∷ 𝟎 ∷ 𝟎 ∷ 𝟎 ∷ · ∷ · ∷ · ∷ []) b1 refl h1 in
    rw (first, byte_back b2 h2, byte_back b3 h3, byte_back b4 h4, byte_back b5 h5)
