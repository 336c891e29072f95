-- The report that the bytes of a format stand for: the table, read the other way.
use Rattle.std.specs.Prelude.{ℕ, Bool, not, ◌||◌, List, [], ◌∷◌, ◌++◌, get_or, eqb, ℤ, pos, neg_ℤ}
use Rattle.numbers.specs.Bits.{O, number, bit, bits}
use Rattle.numbers.specs.Signed.{untwos, signed}
use Rattle.wire.specs.Line.{named_by, of_named}
use Rattle.wire.specs.Digits.{undigit}
use Rattle.wire.specs.declared.Report.{Report}
use Rattle.wire.specs.declared.Format.{Format}
use Rattle.wire.specs.declared.Format.TheVariants.{Mm, Microsoft, Absolute, Relative, FiveByte, ThreeByte, Hexadecimal}

-- "A report has a second x, y pair; it is zero except in U."
abbrev pub report : ℕ → ℤ → ℤ → Report
report buttons x y = record { buttons = buttons; x1 = x; y1 = y; x2 = pos 0; y2 = pos 0 }

-- S: 1 0 0 SX SY L M R; X magnitude; Y magnitude. It "reads 0 under either sign".
unfoldable pub read_s : ℕ → ℕ → ℕ → Report
read_s b1 b2 b3 = report (number (bits 3 0 b1)) (signed (bit 4 b1) (number (bits 7 0 b2))) (signed (bit 3 b1) (number (bits 7 0 b3)))

-- V: 0 1 L R Y7 Y6 X7 X6; 0 0 X5-X0; 0 0 Y5-Y0. M is up, and y is minus the wire's.
unfoldable pub read_v : ℕ → ℕ → ℕ → Report
read_v b1 b2 b3 =
    report (number (bit 5 b1 ∷ O ∷ bit 4 b1 ∷ [])) (untwos 128 (number (bits 2 0 b1 ++ bits 6 0 b2)))
    (neg_ℤ (untwos 128 (number (bits 2 2 b1 ++ bits 6 0 b3))))

-- A: P 1 0 L M R 0 0; then P 0 and six bits each: X5-X0, X11-X6, Y5-Y0, Y11-Y6
abbrev pub twelve : ℕ → ℕ → ℕ
twelve low high = number (bits 6 0 high ++ bits 6 0 low)

unfoldable pub read_a : ℕ → ℕ → ℕ → ℕ → ℕ → Report
read_a b1 b2 b3 b4 b5 = report (number (bits 3 2 b1)) (pos (twelve b2 b3)) (pos (twelve b4 b5))

-- B: as A, two's complement
unfoldable pub read_b : ℕ → ℕ → ℕ → ℕ → ℕ → Report
read_b b1 b2 b3 b4 b5 = report (number (bits 3 2 b1)) (untwos 2048 (twelve b2 b3)) (untwos 2048 (twelve b4 b5))

-- U: 1 0 0 0 0 L* M* R* with 0 = pressed; X1, Y1, X2, Y2
unfoldable pub read_u : ℕ → ℕ → ℕ → ℕ → ℕ → Report
read_u b1 b2 b3 b4 b5 =
    record {
      buttons = number (not (bit 2 b1) ∷ not (bit 1 b1) ∷ not (bit 0 b1) ∷ []);
      x1 = untwos 128 b2;
      y1 = untwos 128 b3;
      x2 = untwos 128 b4;
      y2 = untwos 128 b5;
    }

-- T: 0 0 0 0 0 L M R; X; Y
unfoldable pub read_t : ℕ → ℕ → ℕ → Report
read_t b1 b2 b3 = report (number (bits 3 0 b1)) (untwos 128 b2) (untwos 128 b3)

-- W: digit 0-7 (4L+2M+R); X low digit, X high; Y low, Y high
abbrev pub pair : ℕ → ℕ → ℕ
pair low high = number (bits 4 0 (undigit high) ++ bits 4 0 (undigit low))

unfoldable pub read_w : ℕ → ℕ → ℕ → ℕ → ℕ → Report
read_w b1 b2 b3 b4 b5 = report (undigit b1) (untwos 128 (pair b2 b3)) (untwos 128 (pair b4 b5))

-- byte i of a report, the first being 0
abbrev pub at : ℕ → List ℕ → ℕ
at i bytes = get_or bytes i 0

-- the report that bytes stand for
abbrev pub report_of : Format → List ℕ → Report
report_of Mm bs = read_s (at 0 bs) (at 1 bs) (at 2 bs)
report_of Microsoft bs = read_v (at 0 bs) (at 1 bs) (at 2 bs)
report_of Absolute bs = read_a (at 0 bs) (at 1 bs) (at 2 bs) (at 3 bs) (at 4 bs)
report_of Relative bs = read_b (at 0 bs) (at 1 bs) (at 2 bs) (at 3 bs) (at 4 bs)
report_of FiveByte bs = read_u (at 0 bs) (at 1 bs) (at 2 bs) (at 3 bs) (at 4 bs)
report_of ThreeByte bs = read_t (at 0 bs) (at 1 bs) (at 2 bs)
report_of Hexadecimal bs = read_w (at 0 bs) (at 1 bs) (at 2 bs) (at 3 bs) (at 4 bs)

-- the same by letter: an empty report for a letter that is not in the table
unfoldable pub report_by : ℕ → List ℕ → Report
report_by letter bytes = of_named (report 0 (pos 0) (pos 0)) (λ f. report_of f bytes) (named_by letter)

-- "it reads 0 under either sign": a minus zero of S is a magnitude 0 under the sign bit 0. Its bytes with the sign bit set to 1, and nothing
-- else changed; all other bytes as they are
abbrev pub is_zero : ℕ → Bool
is_zero m = eqb m 0

unfoldable pub plus_zero : ℕ → ℕ → ℕ → List ℕ
plus_zero b1 b2 b3 =
    number (bits 3 5 b1 ++ (bit 4 b1 || is_zero b2) ∷ (bit 3 b1 || is_zero b3) ∷ bits 3 0 b1) ∷ b2 ∷ b3 ∷ []

abbrev pub settled : Format → List ℕ → List ℕ
settled Mm bs = plus_zero (at 0 bs) (at 1 bs) (at 2 bs)
settled Microsoft bs = bs
settled Absolute bs = bs
settled Relative bs = bs
settled FiveByte bs = bs
settled ThreeByte bs = bs
settled Hexadecimal bs = bs

-- bytes with a minus zero's sign bit set to 1, by letter
unfoldable pub settled_by : ℕ → List ℕ → List ℕ
settled_by letter bytes = of_named bytes (λ f. settled f bytes) (named_by letter)
