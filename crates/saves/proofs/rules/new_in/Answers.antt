-- Each button at its place.
use Prim.Native.Nat.{ℕ, ◌/◌, ◌^◌}
use mathlib.Core.Path.{◌≡◌, ◌∙◌}
use mathlib.Core.Bool.{not, ◌&&◌}
use native.Mathlib.Omega.{arith}
use Rattle.numbers.specs.Bits.{value, number, bit}
use Rattle.numbers.proofs.Rows.{value_small}
use Rattle.wire.specs.Buttons.{left, middle, right}
use Rattle.saves.specs.Rules.{is_new, new_in}
use Rattle.saves.proofs.Numbers.{shifted}
use Rattle.saves.proofs.rules.new_in.Goals as goal

both_shifted : (k now was : ℕ) → value (bit 0 (now / 2 ^ k) && not (bit 0 (was / 2 ^ k))) ≡ value (bit k now && not (bit k was))
both_shifted k now was = rw (shifted k now, shifted k was)

pub overflow_mul-result : goal.overflow_mul-result
overflow_mul-result c =
    let left_is : c.new_lowest-left.result ≡ value (is_new left c.args.now c.args.was) = let a = c.args in c.new_lowest-left.ensures ∙ both_shifted 2 a.now a.was in
    omega (arith, left_is, value_small (is_new left c.args.now c.args.was))

pub overflow_mul-result-2 : goal.overflow_mul-result-2
overflow_mul-result-2 c =
    let middle_is : c.new_lowest-middle.result ≡ value (is_new middle c.args.now c.args.was) = let a = c.args in c.new_lowest-middle.ensures ∙ both_shifted 1 a.now a.was in
    omega (arith, middle_is, value_small (is_new middle c.args.now c.args.was))

pub overflow_add-result : goal.overflow_add-result
overflow_add-result c =
    let left_is : c.new_lowest-left.result ≡ value (is_new left c.args.now c.args.was) = let a = c.args in c.new_lowest-left.ensures ∙ both_shifted 2 a.now a.was in
    let middle_is : c.new_lowest-middle.result ≡ value (is_new middle c.args.now c.args.was) = let a = c.args in c.new_lowest-middle.ensures ∙ both_shifted 1 a.now a.was in
    omega (arith, left_is, value_small (is_new left c.args.now c.args.was), middle_is, value_small (is_new middle c.args.now c.args.was))

pub overflow_add-result-2 : goal.overflow_add-result-2
overflow_add-result-2 c =
    let left_is : c.new_lowest-left.result ≡ value (is_new left c.args.now c.args.was) = let a = c.args in c.new_lowest-left.ensures ∙ both_shifted 2 a.now a.was in
    let middle_is : c.new_lowest-middle.result ≡ value (is_new middle c.args.now c.args.was) = let a = c.args in c.new_lowest-middle.ensures ∙ both_shifted 1 a.now a.was in
    omega (arith, left_is, value_small (is_new left c.args.now c.args.was), middle_is, value_small (is_new middle c.args.now c.args.was), c.new_lowest-right.ensures, value_small (is_new right c.args.now c.args.was))

pub returns : goal.returns
unfolding new_in number
returns c =
    let left_is : c.new_lowest-left.result ≡ value (is_new left c.args.now c.args.was) = let a = c.args in c.new_lowest-left.ensures ∙ both_shifted 2 a.now a.was in
    let middle_is : c.new_lowest-middle.result ≡ value (is_new middle c.args.now c.args.was) = let a = c.args in c.new_lowest-middle.ensures ∙ both_shifted 1 a.now a.was in
    omega (arith, left_is, middle_is, c.new_lowest-right.ensures)
