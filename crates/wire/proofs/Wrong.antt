-- Wrong answers, two or more for each promise, that it does not permit.
use Prim.Native.Nat.{ℕ}
use mathlib.Core.Path.{ap, sym, subst}
use mathlib.Core.Bool.{true, false}
use mathlib.Core.List.{[], ◌∷◌}
use native.Mathlib.Omega.{arith}
use lib.ListN.{replicate}
use lib.Dec.{T}
use lib.IntN.{pos, nat_abs}
use Rattle.numbers.specs.Bits.{bit, number}
use Rattle.numbers.specs.Signed.{minus, untwos}
use Rattle.wire.specs.Line.{letter_of, named_by, known, size_by, marked_by}
use Rattle.wire.specs.Holds.{holds}
use Rattle.wire.specs.Places.{like, fits_first, fits_at, fits_by}
use Rattle.wire.specs.Reading.{report, read_u, report_by}
use Rattle.wire.specs.Encoder.{Encoding, encode_in}
use Rattle.wire.specs.declared.refusal.Refusal.TheVariants.{BadWord, FaultyLine}
use Rattle.wire.specs.Promises.{KnownPromise, SizePromise, MarkedPromise, FitsPromise, ReportPromise, EncodePromise, NumberPromise, RefusalPromise, LengthPromise}
use Rattle.wire.specs.declared.Report.{Report}
use Rattle.wire.specs.declared.Format.TheVariants.{Mm, Microsoft, FiveByte, ThreeByte, Hexadecimal}
use Rattle.wire.specs.declared.refusal.Refusal.TheVariants.{NoSuchLetter, ButtonsAboveSeven, FirstXNotHeld, FirstYNotHeld, BufferTooShort}
use Rattle.std.proofs.Common.{Ok, Err}

-- V's y refused at 128; refusal 8 told of a report whose buttons are above 7; 9 where x does not fit either; and 8 for a second x outside U
pub encode_refuses_128 : EncodePromise (letter_of Microsoft) (report 0 (pos 0) (pos 128)) (replicate 5 0) (Err FirstYNotHeld) (replicate 5 0) → ⊥
unfolding encode_in named_by holds
encode_refuses_128 e = omega (arith, ap (λ (l : Encoding). l.refusal) e)

pub encode_movement_first : EncodePromise (letter_of ThreeByte) (report 9 (pos 200) (pos 0)) (replicate 5 0) (Err FirstXNotHeld) (replicate 5 0) → ⊥
unfolding encode_in named_by holds
encode_movement_first e = omega (arith, ap (λ (l : Encoding). l.refusal) e)

pub encode_y_before_x : EncodePromise (letter_of ThreeByte) (report 0 (pos 200) (pos 200)) (replicate 5 0) (Err FirstYNotHeld) (replicate 5 0) → ⊥
unfolding encode_in named_by holds
encode_y_before_x e = omega (arith, ap (λ (l : Encoding). l.refusal) e)

pub encode_second_as_first : EncodePromise (letter_of ThreeByte) (record { buttons = 0; x1 = pos 0; y1 = pos 0; x2 = pos 1; y2 = pos 0 }) (replicate 5 0) (Err FirstXNotHeld) (replicate 5 0) → ⊥
unfolding encode_in named_by holds
encode_second_as_first e = omega (arith, ap (λ (l : Encoding). l.refusal) e)

-- U's second pair read as zero; its first pair read from the second; and both pairs read as one, the X bytes joined to one 16-bit number and
-- the Y bytes to another, the second byte above the first or below it
pub report_second_zero : ReportPromise (letter_of FiveByte) (0x85 ∷ 0x05 ∷ 0xFD ∷ 0x85 ∷ 0x00 ∷ []) (record { buttons = 2; x1 = pos 5; y1 = minus 3; x2 = pos 0; y2 = pos 0 }) → ⊥
unfolding report_by named_by read_u untwos number bit
report_second_zero e = omega (arith, ap (λ (r : Report). nat_abs r.x2) e)

pub report_first_from_second : ReportPromise (letter_of FiveByte) (0x85 ∷ 0x05 ∷ 0xFD ∷ 0x85 ∷ 0x00 ∷ []) (record { buttons = 2; x1 = minus 123; y1 = pos 0; x2 = minus 123; y2 = pos 0 }) → ⊥
unfolding report_by named_by read_u untwos number bit
report_first_from_second e = omega (arith, ap (λ (r : Report). nat_abs r.x1) e)

pub report_joined : ReportPromise (letter_of FiveByte) (0x85 ∷ 0x05 ∷ 0xFD ∷ 0x85 ∷ 0x00 ∷ []) (report 2 (untwos 32768 0x8505) (untwos 32768 0x00FD)) → ⊥
unfolding report_by named_by read_u untwos number bit
report_joined e = omega (arith, ap (λ (r : Report). nat_abs r.x1) e)

pub report_joined_below : ReportPromise (letter_of FiveByte) (0x85 ∷ 0x05 ∷ 0xFD ∷ 0x85 ∷ 0x00 ∷ []) (report 2 (untwos 32768 0x0585) (untwos 32768 0xFD00)) → ⊥
unfolding report_by named_by read_u untwos number bit
report_joined_below e = omega (arith, ap (λ (r : Report). nat_abs r.x1) e)

-- a first byte of S with two of its fixed bits only; and a first digit 8 of W
pub fits_two_bits : FitsPromise (letter_of Mm) 0 0xA0 true → ⊥
unfolding fits_by named_by fits_at fits_first like bit
fits_two_bits e = subst T e tt

pub fits_first_eight : FitsPromise (letter_of Hexadecimal) 0 0x38 true → ⊥
unfolding fits_by named_by fits_at fits_first
fits_first_eight e = subst T e tt

-- a letter that is not in the table taken for one; and U not known
pub known_unlisted : KnownPromise 0x58 true → ⊥
unfolding known named_by
known_unlisted e = subst T e tt

pub known_not_u : KnownPromise (letter_of FiveByte) false → ⊥
unfolding known named_by
known_not_u e = subst T (sym e) tt

-- 4 bytes in U; and 3 bytes for a letter that is not in the table
pub size_four : SizePromise (letter_of FiveByte) 4 → ⊥
unfolding size_by named_by
size_four e = omega arith

pub size_unlisted : SizePromise 0x58 3 → ⊥
unfolding size_by named_by
size_unlisted e = omega arith

-- U marked; and S not marked
pub marked_u : MarkedPromise (letter_of FiveByte) true → ⊥
unfolding marked_by named_by
marked_u e = subst T e tt

pub unmarked_s : MarkedPromise (letter_of Mm) false → ⊥
unfolding marked_by named_by
unmarked_s e = subst T (sym e) tt

-- 2 for buttons above 7; 2 for a movement; and 4 for a short buffer
pub refusal_two_for_buttons : RefusalPromise {A = ℕ} (Err ButtonsAboveSeven) 2 → ⊥
refusal_two_for_buttons e = omega arith

pub refusal_two_for_movement : RefusalPromise {A = ℕ} (Err FirstXNotHeld) 2 → ⊥
refusal_two_for_movement e = omega arith

pub refusal_four_for_room : RefusalPromise {A = ℕ} (Err BufferTooShort) 4 → ⊥
refusal_four_for_room e = omega arith

-- a refusal told as success, and a faulty line as a state that breaks its rules
pub number_of_none : NumberPromise BadWord 0 → ⊥
number_of_none e = omega arith

pub number_six_for_line : NumberPromise FaultyLine 6 → ⊥
number_six_for_line e = omega arith

-- 3 whatever was written; and 3 for a refusal
pub length_three_of_five : LengthPromise (Ok 5) 3 → ⊥
length_three_of_five e = omega arith

pub length_three_refused : LengthPromise (Err NoSuchLetter) 3 → ⊥
length_three_refused e = omega arith
