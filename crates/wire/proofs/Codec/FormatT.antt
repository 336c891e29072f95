-- T: a report and its bytes.
use mathlib.Core.Path.{◌≡◌, refl}
use mathlib.Core.Bool.{true}
use mathlib.Core.List.{[], ◌∷◌}
use Rattle.numbers.specs.Bits.{O, number, bits}
use Rattle.numbers.proofs.Rows.{bits_below, bits_in, whole_in}
use Rattle.wire.specs.Table.{L, M, R, bytes_t}
use Rattle.wire.specs.Places.{𝟎, ·, fits_first, fits_later, all_later, valid}
use Rattle.wire.specs.Reading.{read_t, report_of}
use Rattle.wire.specs.declared.Report.{Report}
use Rattle.wire.specs.declared.Format.TheVariants.{ThreeByte}
use Rattle.wire.proofs.Codec.Cells.{like_row, like_number}
use Rattle.wire.proofs.Codec.Shapes.{OfThree, ReadParts, ComesBack, three}
use Rattle.wire.proofs.Codec.Accepted.{Parts, one_pair, same_pair}
use Rattle.wire.proofs.Codec.Ranges.{twos_byte, twos_back, byte_within, byte_back}

pub valid_t : (r : Report) → Parts ThreeByte r → valid ThreeByte (bytes_t r) ≡ true
unfolding valid all_later fits_first fits_later bytes_t
valid_t r p =
    three (like_row (𝟎 ∷ 𝟎 ∷ 𝟎 ∷ 𝟎 ∷ 𝟎 ∷ · ∷ · ∷ · ∷ []) (O ∷ O ∷ O ∷ O ∷ O ∷ L r ∷ M r ∷ R r ∷ []) refl refl)
    (twos_byte r.x1 p.moved.x)
    (twos_byte r.y1 p.moved.y)

pub there_t : (r : Report) → Parts ThreeByte r → report_of ThreeByte (bytes_t r) ≡ r
unfolding read_t bits bytes_t
there_t r p =
    same_pair ThreeByte refl p (whole_in (O ∷ O ∷ O ∷ O ∷ O ∷ []) [] 3 r.buttons p.pressed)
    (twos_back 127 r.x1 p.moved.x)
    (twos_back 127 r.y1 p.moved.y)

pub read_t_lem : OfThree ThreeByte (ReadParts ThreeByte)
unfolding read_t fits_later
read_t_lem b1 b2 b3 h1 h2 h3 =
    one_pair ThreeByte refl (bits_below 3 0 b1) (byte_within b2 h2)
    (byte_within b3 h3)

pub back_t : OfThree ThreeByte (ComesBack ThreeByte)
unfolding fits_first fits_later bytes_t read_t bits
back_t b1 b2 b3 h1 h2 h3 =
    let first : number (O ∷ O ∷ O ∷ O ∷ O ∷ bits 3 0 (number (bits 3 0 b1))) ≡ b1 =
    rw (bits_in [] (bits 3 0 b1) []) (like_number (𝟎 ∷ 𝟎 ∷ 𝟎 ∷ 𝟎 ∷ 𝟎 ∷ · ∷ · ∷ · ∷ []) b1 refl h1) in
    rw (first, byte_back b2 h2, byte_back b3 h3)
