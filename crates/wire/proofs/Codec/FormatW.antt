-- W: a report and its bytes.
use Prim.Native.Nat.{ℕ, ◌<◌, ◌≤◌}
use mathlib.Core.Path.{◌≡◌, refl, ap, ap₂, ◌∙◌}
use mathlib.Core.Bool.{Bool, true}
use mathlib.Core.List.{List, [], ◌∷◌, ◌++◌}
use native.Mathlib.Omega.{arith}
use lib.Dec.{leb, ltb}
use lib.IntN.{ℤ}
use borrow.Author.Tests.{leb-true, ltb-true}
use Rattle.numbers.proofs.Choices.{or_else}
use Rattle.numbers.specs.Bits.{number, bits}
use Rattle.numbers.specs.Signed.{twos, untwos}
use Rattle.numbers.proofs.Tested.{right, truth, tested, agree_if, equal, equal_if}
use Rattle.numbers.proofs.Rows.{number_below, number_whole, bits_below, bits_in}
use Rattle.numbers.proofs.Twos.{twos_untwos}
use Rattle.wire.specs.Table.{rows_w, bytes_w}
use Rattle.wire.specs.Digits.{between, digit, undigit}
use Rattle.wire.specs.Holds.{within, x_range}
use Rattle.wire.specs.Places.{fits_first, fits_later, all_later, valid}
use Rattle.wire.specs.Reading.{pair, read_w, report_of}
use Rattle.wire.specs.declared.Report.{Report}
use Rattle.wire.specs.declared.Format.TheVariants.{Hexadecimal}
use Rattle.wire.proofs.Fields.{undigit_below}
use Rattle.wire.proofs.Codec.Shapes.{OfFive, ReadParts, ComesBack, five}
use Rattle.wire.proofs.Codec.Accepted.{Parts, one_pair, same_pair}
use Rattle.wire.proofs.Codec.Ranges.{twos_within, twos_back, untwos_within}

-- digits are bytes
below_high : (low high b : ℕ) → between low high b ≡ true → b ≤ high
below_high low high b e = leb-true b high (right (leb low b) (leb b high) e)

pub later_byte : (b : ℕ) → fits_later Hexadecimal b ≡ true → b < 256
unfolding fits_later
later_byte b =
    or_else (between 0x30 0x39 b) (between 0x41 0x46 b) (λ e. omega (arith, below_high 0x30 0x39 b e)) (λ e. omega (arith, below_high 0x41 0x46 b e))

pub first_byte : (b : ℕ) → fits_first Hexadecimal b ≡ true → b < 256
unfolding fits_first
first_byte b l = omega (arith, below_high 0x30 0x37 b l)

-- the digit of a number, and the number of a digit
digit_fits : (n : ℕ) → n < 16 → fits_later Hexadecimal (digit n) ≡ true
unfolding fits_later digit
digit_fits n h = truth (fits_later Hexadecimal (digit n)) (tested (λ n. fits_later Hexadecimal (digit n)) 16 tt n h)

first_fits : (n : ℕ) → n < 8 → fits_first Hexadecimal (digit n) ≡ true
unfolding fits_first digit
first_fits n h = truth (fits_first Hexadecimal (digit n)) (tested (λ n. fits_first Hexadecimal (digit n)) 8 tt n h)

undigit_digit : (n : ℕ) → n < 16 → undigit (digit n) ≡ n
unfolding undigit digit
undigit_digit n h = equal (λ n. undigit (digit n)) (λ n. n) 16 tt n h

digit_undigit : (b : ℕ) → fits_later Hexadecimal b ≡ true → digit (undigit b) ≡ b
unfolding fits_later undigit digit
digit_undigit b l = equal_if (fits_later Hexadecimal) (λ b. digit (undigit b)) (λ b. b) 256 tt b (later_byte b l) l

-- a first digit is a digit, and below 8
first_digit : (b : ℕ) → fits_first Hexadecimal b ≡ true → fits_later Hexadecimal b ≡ true
unfolding fits_first fits_later
first_digit b l = agree_if (fits_first Hexadecimal) (fits_later Hexadecimal) (λ b. true) 256 tt b (first_byte b l) l

first_below : (b : ℕ) → fits_first Hexadecimal b ≡ true → undigit b < 8
unfolding fits_first undigit
first_below b l =
    ltb-true (undigit b) 8 (agree_if (fits_first Hexadecimal) (λ b. ltb (undigit b) 8) (λ b. true) 256 tt b (first_byte b l) l)

four_fits : (k X : ℕ) → fits_later Hexadecimal (digit (number (bits 4 k X))) ≡ true
four_fits k X = digit_fits (number (bits 4 k X)) (bits_below 4 k X)

pub valid_w : (r : Report) → Parts Hexadecimal r → valid Hexadecimal (bytes_w r) ≡ true
unfolding valid all_later bytes_w rows_w
valid_w r p =
    let X = twos 128 r.x1 in
    let Y = twos 128 r.y1 in
    five (first_fits r.buttons p.pressed) (four_fits 0 X) (four_fits 4 X) (four_fits 0 Y) (four_fits 4 Y)

-- four bits by their digit, and a byte by its two
four_there : (k X : ℕ) → bits 4 0 (undigit (digit (number (bits 4 k X)))) ≡ bits 4 k X
unfolding bits
four_there k X =
    ap (bits 4 0) (undigit_digit (number (bits 4 k X)) (bits_below 4 k X)) ∙ bits_in [] (bits 4 k X) []

pair_there : (X : ℕ) → X < 256 → pair (digit (number (bits 4 0 X))) (digit (number (bits 4 4 X))) ≡ X
unfolding bits
pair_there X h = ap₂ (λ (a b : List Bool). number (a ++ b)) (four_there 4 X) (four_there 0 X) ∙ number_whole 8 X h

movement_there : (z : ℤ) → within (x_range Hexadecimal) z ≡ true → untwos 128 (pair (digit (number (bits 4 0 (twos 128 z)))) (digit (number (bits 4 4 (twos 128 z))))) ≡ z
movement_there z e = ap (untwos 128) (pair_there (twos 128 z) (twos_within 127 z e)) ∙ twos_back 127 z e

pub there_w : (r : Report) → Parts Hexadecimal r → report_of Hexadecimal (bytes_w r) ≡ r
unfolding read_w bytes_w rows_w
there_w r p =
    same_pair Hexadecimal refl p (undigit_digit r.buttons (omega (arith, p.pressed)))
    (movement_there r.x1 p.moved.x)
    (movement_there r.y1 p.moved.y)

pair_below : (b c : ℕ) → pair b c < 256
unfolding bits
pair_below b c = number_below (bits 4 0 (undigit c) ++ bits 4 0 (undigit b))

pub read_w_lem : OfFive Hexadecimal (ReadParts Hexadecimal)
unfolding read_w
read_w_lem b1 b2 b3 b4 b5 h1 h2 h3 h4 h5 =
    one_pair Hexadecimal refl (first_below b1 h1) (untwos_within 127 (pair b2 b3) (pair_below b2 b3))
    (untwos_within 127 (pair b4 b5) (pair_below b4 b5))

four_back : (b : ℕ) (row : List Bool) → fits_later Hexadecimal b ≡ true → row ≡ bits 4 0 (undigit b) → digit (number row) ≡ b
four_back b row l e =
    ap (λ (row : List Bool). digit (number row)) e
    ∙ ap digit (number_whole 4 (undigit b) (undigit_below b (later_byte b l)))
    ∙ digit_undigit b l

low : (b c : ℕ) → fits_later Hexadecimal b ≡ true → digit (number (bits 4 0 (pair b c))) ≡ b
unfolding bits
low b c l = four_back b (bits 4 0 (pair b c)) l (bits_in (bits 4 0 (undigit c)) (bits 4 0 (undigit b)) [])

high : (b c : ℕ) → fits_later Hexadecimal c ≡ true → digit (number (bits 4 4 (pair b c))) ≡ c
unfolding bits
high b c l = four_back c (bits 4 4 (pair b c)) l (bits_in [] (bits 4 0 (undigit c)) (bits 4 0 (undigit b)))

pub back_w : OfFive Hexadecimal (ComesBack Hexadecimal)
unfolding bytes_w rows_w read_w
back_w b1 b2 b3 b4 b5 h1 h2 h3 h4 h5 =
    rw (twos_untwos 128 (pair b2 b3) (pair_below b2 b3), twos_untwos 128 (pair b4 b5) (pair_below b4 b5))
    (λ i. digit_undigit b1 (first_digit b1 h1) i ∷ low b2 b3 h2 i ∷ high b2 b3 h3 i ∷ low b4 b5 h4 i ∷ high b4 b5 h5 i ∷ [])
