-- Below, above, or between.
use lib.IntN.{pos, ◌+ℤ◌, ◌-ℤ◌}
use mathlib.Core.Path.{◌≡◌}
use mir.Facts.{to_z-of_z}
use mir.Syntax.{w32}
use mir.Val.{SFits, to_z, of_z}
use native.Mathlib.Omega.{arith}
use Rattle.numbers.proofs.Held.{mag_sum}
use Rattle.numbers.specs.Signed.{minus, excess}
use Rattle.bridge.proofs.splitting.left.Goals as goal

pub overflow_add-result : goal.overflow_add-result
overflow_add-result c =
    let is : to_z w32 (of_z w32 c.args.d) ≡ c.args.d = to_z-of_z c.ranges.d in
    rw is (record { sfits = omega (arith, mag_sum c.args.d (pos 127), c.requires) })

pub returns-then-d-ltminus127 : goal.returns-then-d-ltminus127
unfolding excess
returns-then-d-ltminus127 c =
    let is : to_z w32 (of_z w32 c.args.d) ≡ c.args.d = to_z-of_z c.ranges.d in
    let fits : SFits w32 (to_z w32 (of_z w32 c.args.d) +ℤ pos 127) = rw is (record { sfits = omega (arith, mag_sum c.args.d (pos 127), c.requires) }) in
    rw (rw is at c.if-d-ltminus127.true, to_z-of_z fits, is)

pub overflow_sub-result : goal.overflow_sub-result
overflow_sub-result c =
    let is : to_z w32 (of_z w32 c.args.d) ≡ c.args.d = to_z-of_z c.ranges.d in
    rw is (record { sfits = omega (arith, mag_sum c.args.d (minus 127), c.requires) })

pub returns-then-d-gt127 : goal.returns-then-d-gt127
unfolding excess
returns-then-d-gt127 c =
    let is : to_z w32 (of_z w32 c.args.d) ≡ c.args.d = to_z-of_z c.ranges.d in
    let fits : SFits w32 (to_z w32 (of_z w32 c.args.d) -ℤ pos 127) = rw is (record { sfits = omega (arith, mag_sum c.args.d (minus 127), c.requires) }) in
    rw (rw is at c.if-d-ltminus127.false, rw is at c.if-d-gt127.true, to_z-of_z fits, is)

pub returns : goal.returns
unfolding excess
returns c =
    let is : to_z w32 (of_z w32 c.args.d) ≡ c.args.d = to_z-of_z c.ranges.d in
    rw (rw is at c.if-d-ltminus127.false, rw is at c.if-d-gt127.false)
