-- The bytes of a report, each as the row of bits that the table prints.
use Rattle.std.specs.Prelude.{ℕ, Bool, not, List, [], ◌∷◌, ◌++◌, take, replicate, neg_ℤ, nat_abs}
use Rattle.std.specs.Int.Signed.{non_neg}
use Rattle.wire.specs.Line.{named_by, of_named}
use Rattle.wire.specs.Digits.{digit}
use Rattle.numbers.specs.Bits.{I, O, number, bit, bits}
use Rattle.numbers.specs.Signed.{twos}
use Rattle.numbers.specs.Parity.{with_parity}
use Rattle.wire.specs.declared.Report.{Report}
use Rattle.wire.specs.declared.Format.{Format}
use Rattle.wire.specs.declared.Format.TheVariants.{Mm, Microsoft, Absolute, Relative, FiveByte, ThreeByte, Hexadecimal}

-- "Buttons are 4L+2M+R"
abbrev pub L : Report → Bool
L r = bit 2 r.buttons

abbrev pub M : Report → Bool
M r = bit 1 r.buttons

abbrev pub R : Report → Bool
R r = bit 0 r.buttons

-- S: "1 0 0 SX SY L M R; X magnitude 0-127; Y magnitude 0-127. SX, SY 1 = positive"; "S sends zero with the sign bit 1"
unfoldable pub bytes_s : Report → List ℕ
bytes_s r =
    number (I ∷ O ∷ O ∷ non_neg r.x1 ∷ non_neg r.y1 ∷ L r ∷ M r ∷ R r ∷ [])
    ∷ nat_abs r.x1
    ∷ nat_abs r.y1
    ∷ []

-- V: "0 1 L R Y7 Y6 X7 X6; 0 0 X5-X0; 0 0 Y5-Y0", of two bytes X and Y
unfoldable pub rows_v : Bool → Bool → ℕ → ℕ → List ℕ
rows_v left right X Y =
    number (O ∷ I ∷ left ∷ right ∷ bit 7 Y ∷ bit 6 Y ∷ bit 7 X ∷ bit 6 X ∷ [])
    ∷ number (O ∷ O ∷ bits 6 0 X)
    ∷ number (O ∷ O ∷ bits 6 0 Y)
    ∷ []

-- "On the wire V's Y is positive to the south, so its wire value is minus y."
unfoldable pub bytes_v : Report → List ℕ
bytes_v r = rows_v (L r) (R r) (twos 128 r.x1) (twos 128 (neg_ℤ r.y1))

-- A: "P 1 0 L M R 0 0; then P 0 and six bits each: X5-X0, X11-X6, Y5-Y0, Y11-Y6", of two numbers X and Y of twelve bits;
-- "P makes the count of ones in the byte even."
unfoldable pub rows_a : Report → ℕ → ℕ → List ℕ
rows_a r X Y =
    number (with_parity (I ∷ O ∷ L r ∷ M r ∷ R r ∷ O ∷ O ∷ []))
    ∷ number (with_parity (O ∷ bits 6 0 X))
    ∷ number (with_parity (O ∷ bits 6 6 X))
    ∷ number (with_parity (O ∷ bits 6 0 Y))
    ∷ number (with_parity (O ∷ bits 6 6 Y))
    ∷ []

unfoldable pub bytes_a : Report → List ℕ
bytes_a r = rows_a r (nat_abs r.x1) (nat_abs r.y1)

-- B: "as A, two's complement, -2048 to 2047"
unfoldable pub bytes_b : Report → List ℕ
bytes_b r = rows_a r (twos 2048 r.x1) (twos 2048 r.y1)

-- U: "1 0 0 0 0 L* M* R* with 0 = pressed; X1, Y1, X2, Y2"; "Bytes of U, T, W are two's complement."
unfoldable pub bytes_u : Report → List ℕ
bytes_u r =
    number (I ∷ O ∷ O ∷ O ∷ O ∷ not (L r) ∷ not (M r) ∷ not (R r) ∷ [])
    ∷ twos 128 r.x1
    ∷ twos 128 r.y1
    ∷ twos 128 r.x2
    ∷ twos 128 r.y2
    ∷ []

-- T: "0 0 0 0 0 L M R; X; Y"
unfoldable pub bytes_t : Report → List ℕ
bytes_t r =
    number (O ∷ O ∷ O ∷ O ∷ O ∷ L r ∷ M r ∷ R r ∷ [])
    ∷ twos 128 r.x1
    ∷ twos 128 r.y1
    ∷ []

-- W: "ASCII digit 0-7 (4L+2M+R); X low digit, X high; Y low, Y high", of two bytes X and Y
unfoldable pub rows_w : ℕ → ℕ → ℕ → List ℕ
rows_w buttons X Y =
    digit buttons
    ∷ digit (number (bits 4 0 X))
    ∷ digit (number (bits 4 4 X))
    ∷ digit (number (bits 4 0 Y))
    ∷ digit (number (bits 4 4 Y))
    ∷ []

unfoldable pub bytes_w : Report → List ℕ
bytes_w r = rows_w r.buttons (twos 128 r.x1) (twos 128 r.y1)

-- the bytes of a report in a format
abbrev pub bytes_of : Format → Report → List ℕ
bytes_of Mm r = bytes_s r
bytes_of Microsoft r = bytes_v r
bytes_of Absolute r = bytes_a r
bytes_of Relative r = bytes_b r
bytes_of FiveByte r = bytes_u r
bytes_of ThreeByte r = bytes_t r
bytes_of Hexadecimal r = bytes_w r

-- bytes with zeros behind them, to make five
abbrev pub five : List ℕ → List ℕ
five bytes = take 5 (bytes ++ replicate 5 0)

-- the same by letter
unfoldable pub bytes_by : ℕ → Report → List ℕ
bytes_by letter r = of_named [] (λ f. bytes_of f r) (named_by letter)
