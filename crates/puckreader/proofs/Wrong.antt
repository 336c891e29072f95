-- Wrong answers, two or more for each promise, that it does not permit.
use Prim.Native.Nat.{ℕ}
use mathlib.Core.Path.{◌≡◌, sym, ◌∙◌, ap, subst}
use mathlib.Core.Bool.{true, false}
use mathlib.Core.List.{List, [], ◌∷◌}
use native.Mathlib.Omega.{arith}
use lib.Dec.{T}
use lib.ListN.{length, get_or}
use lib.IntN.{ℤ, pos, nat_abs}
use Rattle.numbers.specs.Bits.{number, bit, bits}
use Rattle.frames.specs.Frame.{move_of}
use Rattle.fold.specs.Fold.{run}
use Rattle.fold.specs.Calls.{sum, line, call}
use Rattle.puckreader.specs.Line.{PuckReading, Long}
use Rattle.wire.specs.Places.{like, fits_first, fits_later}
use Rattle.vsxxx.specs.SelfTests.{test_of, is_test, is_buttons}
use Rattle.vsxxx.specs.Reports.{size_from, fits_start, fits_behind}
use Rattle.puckreader.specs.State.{PuckRead, reader, fresh, numbers_of}
use Rattle.puckreader.specs.Rules.{word_of}
use Rattle.puckreader.specs.Good.{good}
use Rattle.puckreader.specs.Promises.{Step, FreshPromise, GoodPromise, StepPromise, ReadPromise, step_of}
use Rattle.puckreader.specs.declared.PuckReader.{PuckReader}

-- a fresh reader that has a byte; and one that counts one
pub fresh_with_byte : FreshPromise (reader (0xA0 ∷ 0 ∷ 0 ∷ []) 0) → ⊥
fresh_with_byte e = omega (arith, ap (λ (r : PuckReader). get_or r.kept 0 0) e)

pub fresh_counting : FreshPromise (reader (0 ∷ 0 ∷ 0 ∷ []) 1) → ⊥
fresh_counting e = omega (arith, ap (λ (r : PuckReader). r.count) e)

-- a reader with B0H kept, which begins no report, told to be good; and a fresh one told to be bad
pub b0_good : GoodPromise (reader (0xB0 ∷ 0 ∷ 0 ∷ []) 1) true → ⊥
unfolding good size_from fits_start is_test fits_first like bit
b0_good e = subst T e tt

pub fresh_bad : GoodPromise fresh false → ⊥
unfolding good
fresh_bad e = subst T (sym e) tt

-- byte 4 of a self-test above 7, answered by a self-test; it is dropped with the three before it
pub eight_taken : (s : PuckRead) → StepPromise (reader (0xA1 ∷ 0x12 ∷ 0 ∷ []) 3) 8 s → length (numbers_of s.answer) ≡ 6 → ⊥
unfolding step_of word_of move_of good size_from fits_start fits_behind is_test is_buttons fits_first fits_later like bit
eight_taken s e h = omega (arith, h, ap (λ (x : Step). length x.numbers) e)

pub eight_alone : (s : PuckRead) → StepPromise (reader (0xA1 ∷ 0x12 ∷ 0 ∷ []) 3) 8 s → numbers_of s.answer ≡ pos 1 ∷ [] → ⊥
unfolding step_of word_of move_of good size_from fits_start fits_behind is_test is_buttons fits_first fits_later like bit
eight_alone s e h = omega (arith, ap (λ (l : List ℤ). nat_abs (get_or l 0 (pos 0))) (sym h ∙ ap (λ (x : Step). x.numbers) e))

-- a fatal error told as one that is not: 20H, by a step and in a long read
abbrev fatal_bytes : List ℕ
fatal_bytes = 0xA1 ∷ 0x12 ∷ 0x20 ∷ 0 ∷ []

pub twenty_not_fatal : (out : List ℤ) (a : PuckReading) (after : List ℤ) → out ≡ pos 0 ∷ pos 0 ∷ pos 0 ∷ pos 0 ∷ pos 0 ∷ pos 0 ∷ [] → ReadPromise fresh fatal_bytes out a after
    → get_or after 0 (pos 0) ≡ pos 1 → ⊥
unfolding call line run sum word_of move_of good size_from fits_start fits_behind is_test is_buttons fits_first fits_later test_of number bits like bit
twenty_not_fatal out a after z e h =
    let i = rw z at e in
    omega (arith, ap nat_abs (sym h ∙ ap (λ (l : Long). get_or l.out 0 (pos 0)) i))

pub five_taken : (out : List ℤ) (a : PuckReading) (after : List ℤ) → out ≡ [] → ReadPromise fresh fatal_bytes out a after → a.taken ≡ 4 → ⊥
unfolding call line run sum word_of move_of good size_from fits_start fits_behind is_test is_buttons fits_first fits_later test_of number bits like bit
five_taken out a after z e h =
    let i = rw z at e in
    omega (arith, h, ap (λ (l : Long). l.taken) i)
