-- Button by button.
use Prim.Native.Nat.{◌≤◌}
use native.Mathlib.Omega.{arith}
use Rattle.readback.proofs.Values.{counted_most, middle_most}
use Rattle.readback.proofs.items.pressed_number.Goals as goal

pub overflow_add-result : goal.overflow_add-result
overflow_add-result c =
    let first : c.counted.result ≤ 4 = rw c.counted.ensures (counted_most c.args.buttons.left 4) in
    let second : c.middle_number.result ≤ 8 = rw c.middle_number.ensures (middle_most c.args.buttons.middle) in
    record { fits = omega (arith, first, second) }

pub overflow_add-result-2 : goal.overflow_add-result-2
overflow_add-result-2 c =
    let first : c.counted.result ≤ 4 = rw c.counted.ensures (counted_most c.args.buttons.left 4) in
    let second : c.middle_number.result ≤ 8 = rw c.middle_number.ensures (middle_most c.args.buttons.middle) in
    let third : c.counted-2.result ≤ 1 = rw c.counted-2.ensures (counted_most c.args.buttons.right 1) in
    record { fits = omega (arith, first, second, third) }
