-- `number`: with a minus or without.
use mathlib.Core.Path.{◌≡◌, sym, ◌∙◌, ap}
use Prim.Native.Nat.{◌-◌}
use native.Mathlib.Omega.{arith}
use lib.ListN.{length, take, drop, length-drop}
use lib.Seq.{take_all}
use Rattle.text.specs.Decimals.{plus_in, minus, number_in}
use Rattle.text.proofs.Digits.{some_minus}
use Rattle.text.proofs.decimals.number.Goals as goal

pub slice_bounds-plus-count : goal.slice_bounds-plus-count
slice_bounds-plus-count c = some_minus c.args.bytes.now (sym c.has_minus.ensures ∙ c.if-has_minus.true)

pub returns-then-has_minus : goal.returns-then-has_minus
unfolding number_in
returns-then-has_minus c = let a = c.args in
    let ds = a.bytes.now in
    let rest : take (length ds - 1) (drop 1 ds) ≡ drop 1 ds = take_all (length ds - 1) (drop 1 ds) (omega (arith, length-drop 1 ds)) in
    rw (sym c.has_minus.ensures ∙ c.if-has_minus.true) (c.minus.ensures ∙ ap minus (c.plus.ensures ∙ ap (plus_in a.width) rest))

pub returns-else-has_minus : goal.returns-else-has_minus
unfolding number_in
returns-else-has_minus c = rw (sym c.has_minus.ensures ∙ c.if-has_minus.false) c.plus-else-has_minus.ensures
