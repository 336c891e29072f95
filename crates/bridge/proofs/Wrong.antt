-- Wrong answers, two for each promise, that it does not permit.
use mathlib.Core.Path.{ap, sym}
use mathlib.Core.Bool.{true, false}
use mathlib.Core.List.{[], ◌∷◌}
use native.Mathlib.Omega.{arith}
use lib.ListN.{replicate}
use lib.IntN.{pos}
use Rattle.numbers.proofs.Tested.{holds}
use Rattle.reader.specs.State.{fresh, ready}
use Rattle.bridge.specs.Remembered.{base_at}
use Rattle.bridge.specs.Line.{Long}
use Rattle.bridge.specs.Promises.{NewBridge, FreshPromise, GoodPromise, ConvertPromise, with_none}
use Rattle.bridge.proofs.Computing.{computing}

-- a bridge of U for the letter T; and a letter that is not in the table taken without a word
pub fresh_other_letter : FreshPromise 0x54 (record { refusal = 0; bridge = with_none (fresh 0x55) }) → ⊥
unfolding computing
fresh_other_letter e = omega (arith, ap (λ (n : NewBridge). n.bridge.reader.format) e)

pub fresh_not_refused : FreshPromise 0x58 (record { refusal = 0; bridge = with_none (fresh 0x55) }) → ⊥
unfolding computing
fresh_not_refused e = omega (arith, ap (λ (n : NewBridge). n.refusal) e)

-- a base in T called good; and a fresh bridge of A not
pub good_base_in_t : GoodPromise (record { reader = ready 0x54; past = record { base = base_at (pos 0) (pos 0); middle = false; presses = 0 } }) true → ⊥
unfolding computing
good_base_in_t e = holds (sym e)

pub good_refuses_fresh : GoodPromise (with_none (ready 0x41)) false → ⊥
unfolding computing
good_refuses_fresh e = holds e

-- of a report of T that moves by 128 the first V report alone, where there is room for no more; and one that says nothing of a press
pub convert_in_part : ConvertPromise (with_none (ready 0x54)) (2 ∷ 0x80 ∷ 0 ∷ []) (replicate 3 9)
    (record { refusal = 0; next = with_none (ready 0x54); taken = 3; reports = 1; sent = 1; dropped = 0 }) (0x42 ∷ 0x01 ∷ 0 ∷ []) → ⊥
unfolding computing
convert_in_part e = omega (arith, ap (λ (l : Long). l.taken) e)

pub convert_press_lost : ConvertPromise (with_none (ready 0x54)) (2 ∷ 0 ∷ 0 ∷ []) (replicate 3 9)
    (record { refusal = 0; next = with_none (ready 0x54); taken = 3; reports = 1; sent = 1; dropped = 0 }) (0x40 ∷ 0 ∷ 0 ∷ []) → ⊥
unfolding computing
convert_press_lost e = omega (arith, ap (λ (l : Long). l.next.past.presses) e)
