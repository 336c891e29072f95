-- Wrong answers, two or more for each promise, that it does not permit.
use Prim.Native.Nat.{ℕ}
use mathlib.Core.Path.{ap, subst}
use mathlib.Core.Bool.{true}
use mathlib.Core.List.{List, [], ◌∷◌}
use native.Mathlib.Omega.{arith}
use lib.Dec.{T}
use lib.IntN.{pos, negsuc}
use lib.ListN.{get_or, replicate}
use Rattle.text.specs.Growth.{none, grown, text_of, filled, put_of}
use Rattle.text.specs.Decimals.{digits_of, size_in, places_of, decimal_of, readable, plus_in, number_in}
use Rattle.text.specs.Promises.{NonePromise, WithPromise, DecimalPromise, NumberPromise, PutPromise, ByteToPromise, BytesToPromise, DecimalToPromise, LengthToPromise}
use Rattle.std.proofs.Common.{ℤ, Option, Some, None}
use Rattle.text.specs.declared.Text.{Text}

-- an empty text of one byte, and one of blanks
pub none_of_one : NonePromise (record { bytes = replicate 40 0; len = 1 }) → ⊥
none_of_one e = omega (arith, ap (λ (t : Text). t.len) e)

pub none_of_blanks : NonePromise (record { bytes = replicate 40 32; len = 0 }) → ⊥
none_of_blanks e = omega (arith, ap (λ (t : Text). get_or t.bytes 0 0) e)

-- a byte that is left off, though there is room; and one that a full text takes
pub with_left_off : WithPromise none 65 none → ⊥
unfolding grown
with_left_off e = omega (arith, ap (λ (t : Text). t.len) e)

abbrev full : ℕ → Text
full len = record { bytes = replicate 40 32; len = len }

pub with_beyond : WithPromise (full 40) 65 (full 41) → ⊥
unfolding grown
with_beyond e = omega (arith, ap (λ (t : Text). t.len) e)

-- 7 without its zeros, 12345 cut to its width, and -5 without its minus
pub decimal_no_zeros : DecimalPromise none 4 (pos 7) (text_of (0x37 ∷ [])) → ⊥
unfolding grown decimal_of digits_of places_of size_in
decimal_no_zeros e = omega (arith, ap (λ (t : Text). t.len) e)

pub decimal_cut : DecimalPromise none 4 (pos 12345) (text_of (0x32 ∷ 0x33 ∷ 0x34 ∷ 0x35 ∷ [])) → ⊥
unfolding grown decimal_of digits_of places_of size_in
decimal_cut e = omega (arith, ap (λ (t : Text). t.len) e)

pub decimal_no_minus : DecimalPromise none 1 (negsuc 4) (text_of (0x35 ∷ [])) → ⊥
unfolding grown decimal_of digits_of places_of size_in
decimal_no_minus e = omega (arith, ap (λ (t : Text). t.len) e)

-- `-0` read as 0, and `07` as 7; and 7 not read
abbrev is_read : Option ℤ → ℕ
is_read None = 0
is_read (Some x) = 1

pub number_minus_zero : NumberPromise (0x2D ∷ 0x30 ∷ []) 1 (Some (pos 0)) → ⊥
unfolding number_in plus_in readable places_of size_in
number_minus_zero e = omega (arith, ap is_read e)

pub number_leading_zero : NumberPromise (0x30 ∷ 0x37 ∷ []) 1 (Some (pos 7)) → ⊥
unfolding number_in plus_in readable places_of size_in
number_leading_zero e = omega (arith, ap is_read e)

pub number_not_read : NumberPromise (0x37 ∷ []) 1 None → ⊥
unfolding number_in plus_in readable places_of size_in
number_not_read e = omega (arith, ap is_read e)

-- a text said to be put where it has no room; and one put at the wrong place
pub put_without_room : PutPromise (text_of (65 ∷ [])) 1 (0 ∷ []) true (0 ∷ []) → ⊥
unfolding grown
put_without_room e = subst T e.0 tt

pub put_in_front : PutPromise (text_of (65 ∷ [])) 1 (0 ∷ 0 ∷ []) true (65 ∷ 0 ∷ []) → ⊥
unfolding grown put_of
put_in_front e = omega (arith, ap (λ (l : List ℕ). get_or l 0 0) e.1)

-- a place told behind a full slice; and a byte at the wrong place
pub byte_behind : ByteToPromise (0 ∷ []) 1 65 2 (0 ∷ []) → ⊥
unfolding filled
byte_behind e = omega (arith, ap (λ (t : Text). t.len) e)

pub byte_misplaced : ByteToPromise (0 ∷ 0 ∷ []) 0 65 1 (0 ∷ 65 ∷ []) → ⊥
unfolding filled
byte_misplaced e = omega (arith, ap (λ (t : Text). get_or t.bytes 0 0) e)

-- the last of two bytes left out, though there is a place; and two bytes the wrong way round
pub bytes_left_out : BytesToPromise (0 ∷ 0 ∷ []) 0 (65 ∷ 66 ∷ []) 1 (65 ∷ 0 ∷ []) → ⊥
unfolding filled
bytes_left_out e = omega (arith, ap (λ (t : Text). t.len) e)

pub bytes_turned : BytesToPromise (0 ∷ 0 ∷ []) 0 (65 ∷ 66 ∷ []) 2 (66 ∷ 65 ∷ []) → ⊥
unfolding filled
bytes_turned e = omega (arith, ap (λ (t : Text). get_or t.bytes 0 0) e)

-- a decimal that is told and not written; and 5 at width 2 as one digit
pub decimal_untold : DecimalToPromise (0 ∷ 0 ∷ []) 0 1 (pos 5) 1 (0 ∷ 0 ∷ []) → ⊥
unfolding filled decimal_of digits_of places_of size_in
decimal_untold e = omega (arith, ap (λ (t : Text). get_or t.bytes 0 0) e)

pub decimal_short : DecimalToPromise (0 ∷ 0 ∷ []) 0 2 (pos 5) 1 (0x35 ∷ 0 ∷ []) → ⊥
unfolding filled decimal_of digits_of places_of size_in
decimal_short e = omega (arith, ap (λ (t : Text). t.len) e)

-- the byte that is looked for counted too; and all bytes told, though it stands among them
pub length_with_stop : LengthToPromise (65 ∷ 9 ∷ 66 ∷ []) 9 2 → ⊥
length_with_stop e = omega (arith, e)

pub length_past_stop : LengthToPromise (65 ∷ 9 ∷ 66 ∷ []) 9 3 → ⊥
length_past_stop e = omega (arith, e)
