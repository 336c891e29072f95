-- Wrong answers, two for each promise, that it does not permit; and a worked log.
use mathlib.Core.Path.{◌≡◌, refl, ap, subst}
use mathlib.Core.Bool.{true}
use mathlib.Core.List.{[], ◌∷◌}
use native.Mathlib.Omega.{arith}
use lib.ListN.{get_or}
use lib.Dec.{T}
use Rattle.numbers.specs.Bits.{bit}
use Rattle.frames.specs.Words.{line_words, break}
use Rattle.wire.specs.Line.{letter_of, named_by, known, size_by, marked_by}
use Rattle.wire.specs.Places.{like, fits_first, fits_later, all_later, valid}
use Rattle.wire.specs.declared.Format.TheVariants.{ThreeByte}
use Rattle.choosing.specs.Choice.{all_bytes, bytes_in}
use Rattle.choosing.specs.Earliest.{starts, earliest_from}
use Rattle.salvage.specs.Picking.{valid_by, picked_by, Whole, refusal_of, picking, taken_of, left_of, pick_of}
use Rattle.salvage.specs.Promises.{StartsPromise, PickPromise}

-- a log of T: 9 begins no report; then two reports, of which the second could also start a place later; two bytes, a break and two bytes more
worked : picked_by (letter_of ThreeByte) (9 ∷ 1 ∷ 2 ∷ 3 ∷ 4 ∷ 5 ∷ 6 ∷ 7 ∷ break ∷ 0 ∷ 0 ∷ []) ≡ 1 ∷ 4 ∷ []
unfolding earliest_from starts all_bytes valid_by valid all_later size_by named_by fits_first fits_later like bit
worked = refl

-- a later start where an earlier one fits; and a report across a 256
pub picks_later : PickPromise (letter_of ThreeByte) (1 ∷ 2 ∷ 3 ∷ 4 ∷ []) (9 ∷ []) (record { refusal = 0; taken = 4; runs = 1; left = 1 }) (1 ∷ []) → ⊥
unfolding pick_of refusal_of picking taken_of left_of bytes_in known marked_by line_words earliest_from starts all_bytes valid_by valid all_later size_by named_by fits_first fits_later like bit
picks_later e = omega (arith, ap (λ (w : Whole). get_or w.places 0 0) e)

pub picks_across : PickPromise (letter_of ThreeByte) (1 ∷ break ∷ 2 ∷ 3 ∷ []) (9 ∷ []) (record { refusal = 0; taken = 4; runs = 1; left = 0 }) (0 ∷ []) → ⊥
unfolding pick_of refusal_of picking taken_of left_of bytes_in known marked_by line_words earliest_from starts all_bytes valid_by valid all_later size_by named_by fits_first fits_later like bit
picks_across e = omega (arith, ap (λ (w : Whole). w.picked.runs) e)

-- a run of two bytes of T; and one whose first byte is 9
pub starts_with_two : StartsPromise (letter_of ThreeByte) (1 ∷ 2 ∷ []) true → ⊥
unfolding starts valid_by valid all_later size_by named_by
starts_with_two e = subst T e tt

pub starts_with_nine : StartsPromise (letter_of ThreeByte) (9 ∷ 1 ∷ 2 ∷ []) true → ⊥
unfolding starts all_bytes valid_by valid all_later size_by named_by fits_first fits_later like bit
starts_with_nine e = subst T e tt
