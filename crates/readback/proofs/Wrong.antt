-- Wrong answers, two or more for each promise, that it does not permit. In the comments a blank stands for a tab and / for a newline.
use Prim.Native.Nat.{ℕ}
use mathlib.Core.Path.{ap}
use mathlib.Core.Bool.{true, false}
use mathlib.Core.List.{List, [], ◌∷◌}
use native.Mathlib.Omega.{arith}
use lib.IntN.{ℤ, pos, nat_abs}
use lib.ListN.{get_or, replicate}
use Rattle.wire.specs.Numbers.{success, bad_state}
use Rattle.readback.specs.Steps.{readback, fresh, opened_at, good}
use Rattle.readback.specs.Pieces.{faulty_line, back, Whole, call_of}
use Rattle.readback.specs.Rewriting.{rewritten}
use Rattle.readback.specs.Promises.{finish_of, FreshPromise, ReadPromise, FinishPromise, RewritePromise}
use Rattle.readback.specs.Examples.{rewriting_computes}
use Rattle.readback.specs.declared.Readback.{Readback}
use Rattle.readback.specs.declared.Back.{Back}

-- readers behind L 4/ and behind L 6/; and one at a width that there is not
abbrev four : Readback
four = opened_at false 4

abbrev six : Readback
six = opened_at false 6

abbrev five : Readback
five = opened_at false 5

-- places of a lent slice with the numbers that they held before
abbrev old : ℕ → List ℤ
old places = replicate places (pos 9)

-- a fresh reader that has ended; and one that knows a width before the first line
pub fresh_ended : FreshPromise (readback false 0 0 0 true) → ⊥
fresh_ended e = omega (arith, ap (λ (r : Readback). r.ended) e)

pub fresh_at_a_width : FreshPromise (readback false 6 0 0 false) → ⊥
fresh_at_a_width e = omega (arith, ap (λ (r : Readback). r.width) e)

-- R 0004 --- 5 3/ with x and y the wrong way round
pub read_turned : ReadPromise four (82 ∷ 9 ∷ 48 ∷ 48 ∷ 48 ∷ 52 ∷ 9 ∷ 45 ∷ 45 ∷ 45 ∷ 9 ∷ 53 ∷ 9 ∷ 51 ∷ 10 ∷ []) (old 5)
    (back success (readback false 4 4 2 false) 15 1 0) (pos 1 ∷ pos 4 ∷ pos 0 ∷ pos 3 ∷ pos 5 ∷ []) → ⊥
unfolding rewriting_computes
read_turned e = omega (arith, ap (λ (w : Whole ℤ). nat_abs (get_or w.out 3 (pos 0))) e)

-- D 0002 0/ taken for a line; and told as the fault of line 1
pub read_none_dropped : ReadPromise four (68 ∷ 9 ∷ 48 ∷ 48 ∷ 48 ∷ 50 ∷ 9 ∷ 48 ∷ 10 ∷ []) (old 5)
    (back success (readback false 4 2 2 false) 9 1 0) (pos 2 ∷ pos 2 ∷ pos 0 ∷ pos 0 ∷ pos 0 ∷ []) → ⊥
unfolding rewriting_computes
read_none_dropped e = omega (arith, ap (λ (w : Whole ℤ). w.refusal) e)

pub read_line_off_by_one : ReadPromise four (68 ∷ 9 ∷ 48 ∷ 48 ∷ 48 ∷ 50 ∷ 9 ∷ 48 ∷ 10 ∷ []) (old 5) (back faulty_line four 0 0 1) (old 5) → ⊥
unfolding rewriting_computes
read_line_off_by_one e = omega (arith, ap (λ (w : Whole ℤ). w.line) e)

-- S 4/ told as a listing; and H 0 taken before its newline has come
pub read_salvage_as_listing : ReadPromise fresh (83 ∷ 9 ∷ 52 ∷ 10 ∷ []) [] (back success four 4 0 0) [] → ⊥
unfolding rewriting_computes
read_salvage_as_listing e = omega (arith, ap (λ (w : Whole ℤ). w.next.salvage) e)

pub read_cut_line : ReadPromise four (72 ∷ 9 ∷ 48 ∷ []) (old 5) (back success (readback false 4 0 2 true) 3 1 0) (pos 3 ∷ pos 0 ∷ pos 0 ∷ pos 0 ∷ pos 0 ∷ []) → ⊥
unfolding rewriting_computes
read_cut_line e = omega (arith, ap (λ (w : Whole ℤ). w.taken) e)

-- a reader at width 5: it takes a line; and it is refused, and a number of the slice is another
pub read_bad_state_takes : ReadPromise five (10 ∷ []) (old 1) (back bad_state five 1 0 0) (old 1) → ⊥
unfolding call_of good
read_bad_state_takes e = omega (arith, ap (λ (w : Whole ℤ). w.taken) e)

pub read_refused_writes : ReadPromise five (10 ∷ []) (old 1) (back bad_state five 0 0 0) (pos 0 ∷ []) → ⊥
unfolding call_of good
read_refused_writes e = omega (arith, ap (λ (w : Whole ℤ). nat_abs (get_or w.out 0 (pos 0))) e)

-- L 4/ and no more: the missing end told as success; and told at line 1
pub finish_end_missing : FinishPromise four 0 (back success four 0 0 0) → ⊥
unfolding finish_of good
finish_end_missing e = omega (arith, ap (λ (b : Back). b.refusal) e)

pub finish_line_off_by_one : FinishPromise four 0 (back faulty_line four 0 0 1) → ⊥
unfolding finish_of good
finish_line_off_by_one e = omega (arith, ap (λ (b : Back). b.line) e)

-- L 4/H 0/: refused, though it is whole; and a byte behind it told as success
abbrev over : Readback
over = readback false 4 0 2 true

pub finish_whole_refused : FinishPromise over 0 (back faulty_line over 0 0 3) → ⊥
unfolding finish_of good
finish_whole_refused e = omega (arith, ap (λ (b : Back). b.refusal) e)

pub finish_byte_behind : FinishPromise over 1 (back success over 0 0 0) → ⊥
unfolding finish_of good
finish_byte_behind e = omega (arith, ap (λ (b : Back). b.refusal) e)

-- L 4/ rewritten as it is; and S 4/ as L 6/
pub rewrite_same_width : RewritePromise fresh (76 ∷ 9 ∷ 52 ∷ 10 ∷ []) (replicate 4 0) (rewritten success four 4 4 0) (76 ∷ 9 ∷ 52 ∷ 10 ∷ []) → ⊥
unfolding rewriting_computes
rewrite_same_width e = omega (arith, ap (λ (w : Whole ℕ). get_or w.out 2 0) e)

pub rewrite_not_marked : RewritePromise fresh (83 ∷ 9 ∷ 52 ∷ 10 ∷ []) (replicate 4 0) (rewritten success (opened_at true 4) 4 4 0) (76 ∷ 9 ∷ 54 ∷ 10 ∷ []) → ⊥
unfolding rewriting_computes
rewrite_not_marked e = omega (arith, ap (λ (w : Whole ℕ). get_or w.out 0 0) e)

-- E 0002/ behind L 4/ rewritten as it is, where six digits are to stand
pub rewrite_row_too_narrow : RewritePromise four (69 ∷ 9 ∷ 48 ∷ 48 ∷ 48 ∷ 50 ∷ 10 ∷ []) (replicate 9 0) (rewritten success (readback false 4 2 2 true) 7 7 0)
    (69 ∷ 9 ∷ 48 ∷ 48 ∷ 48 ∷ 50 ∷ 10 ∷ 0 ∷ 0 ∷ []) → ⊥
unfolding rewriting_computes
rewrite_row_too_narrow e = omega (arith, ap (λ (w : Whole ℕ). w.count) e)

-- D 010000 1/ behind L 6/: cut to D 0000 1/; and told as faulty, and not as too wide
pub rewrite_number_cut : RewritePromise six (68 ∷ 9 ∷ 48 ∷ 49 ∷ 48 ∷ 48 ∷ 48 ∷ 48 ∷ 9 ∷ 49 ∷ 10 ∷ []) (replicate 9 0) (rewritten success (readback false 6 10000 2 false) 11 9 0)
    (68 ∷ 9 ∷ 48 ∷ 48 ∷ 48 ∷ 48 ∷ 9 ∷ 49 ∷ 10 ∷ []) → ⊥
unfolding rewriting_computes
rewrite_number_cut e = omega (arith, ap (λ (w : Whole ℕ). w.refusal) e)

pub rewrite_told_as_faulty : RewritePromise six (68 ∷ 9 ∷ 48 ∷ 49 ∷ 48 ∷ 48 ∷ 48 ∷ 48 ∷ 9 ∷ 49 ∷ 10 ∷ []) (replicate 9 0) (rewritten faulty_line six 0 0 2) (replicate 9 0) → ⊥
unfolding rewriting_computes
rewrite_told_as_faulty e = omega (arith, ap (λ (w : Whole ℕ). w.refusal) e)

-- a reader at width 5 that is refused, and a byte of the slice is another
pub rewrite_refused_writes : RewritePromise five (10 ∷ []) (0 ∷ []) (rewritten bad_state five 0 0 0) (69 ∷ []) → ⊥
unfolding call_of good
rewrite_refused_writes e = omega (arith, ap (λ (w : Whole ℕ). get_or w.out 0 0) e)
