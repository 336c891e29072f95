-- By the sign.
use mathlib.Core.Path.{◌≡◌}
use mathlib.Core.Bool.{false}
use native.Mathlib.Omega.{arith}
use lib.IntN.{pos}
use lib.Signed.{lt_z}
use mir.Syntax.{w16}
use mir.Val.{to_z, of_z}
use mir.Facts.{to_z-of_z}
use Rattle.numbers.proofs.Tested.{holds}
use Rattle.numbers.proofs.Twos.{above_non_neg}
use Rattle.saves.proofs.Numbers.{low_below, low_above, few_above}
use Rattle.saves.proofs.line.low_three.Goals as goal

pub returns-then-number-lt0 : goal.returns-then-number-lt0
returns-then-number-lt0 c =
    let same : to_z w16 (of_z w16 c.args.number) ≡ c.args.number = to_z-of_z c.ranges.number in
    low_below c.args.number (rw same at c.if-number-lt0.true)

pub overflow_cast-result : goal.overflow_cast-result
overflow_cast-result c =
    let same : to_z w16 (of_z w16 c.args.number) ≡ c.args.number = to_z-of_z c.ranges.number in
    let above : lt_z c.args.number (pos 0) ≡ false = rw same at c.if-number-lt0.false in
    let n = c.args.number in
    rw same (holds (above_non_neg n above), record { fits = omega (arith, few_above 32768 n above c.ranges.number.sfits) })

pub returns-else-number-lt0 : goal.returns-else-number-lt0
returns-else-number-lt0 c =
    let same : to_z w16 (of_z w16 c.args.number) ≡ c.args.number = to_z-of_z c.ranges.number in
    let above : lt_z c.args.number (pos 0) ≡ false = rw same at c.if-number-lt0.false in
    rw same (low_above c.args.number above)
