-- `magnitude`: either sign's arm gives the distance from zero.
use lib.IntN.{pos, nat_abs, neg_ℤ, ◌-ℤ◌}
use mathlib.Core.Path.{◌≡◌, ap, ◌∙◌}
use mir.Facts.{to_z-of_z}
use mir.Syntax.{w16}
use mir.Val.{to_z, of_z}
use native.Mathlib.Omega.{arith}
use Rattle.numbers.proofs.Machine.{minus_fits, minus_kept}
use Rattle.numbers.proofs.Tested.{holds}
use Rattle.numbers.proofs.Twos.{neg_magnitude, below_neg, above_non_neg, magnitude_near}
use Rattle.wire.proofs.signed.magnitude.Goals as goal

pub overflow_sub-result : goal.overflow_sub-result
overflow_sub-result c = rw (to_z-of_z c.ranges.v) (minus_fits w16 c.args.v (omega arith))

pub overflow_cast-result : goal.overflow_cast-result
overflow_cast-result c =
    let negated : to_z w16 (of_z w16 (pos 0 -ℤ to_z w16 (of_z w16 c.args.v))) ≡ neg_ℤ c.args.v = rw (to_z-of_z c.ranges.v) (minus_kept w16 c.args.v (omega arith)) in
    rw negated (holds (below_neg c.args.v (rw (to_z-of_z c.ranges.v) at c.if-v-lt0.true)), record { fits = rw neg_magnitude (omega (arith, magnitude_near c.args.v)) })

pub overflow_cast-result-else-v-lt0 : goal.overflow_cast-result-else-v-lt0
overflow_cast-result-else-v-lt0 c = rw (to_z-of_z c.ranges.v) (holds (above_non_neg c.args.v (rw (to_z-of_z c.ranges.v) at c.if-v-lt0.false)), record { fits = omega (arith, magnitude_near c.args.v) })

pub returns-then-v-lt0 : goal.returns-then-v-lt0
returns-then-v-lt0 c =
    let negated : to_z w16 (of_z w16 (pos 0 -ℤ to_z w16 (of_z w16 c.args.v))) ≡ neg_ℤ c.args.v = rw (to_z-of_z c.ranges.v) (minus_kept w16 c.args.v (omega arith)) in
    ap nat_abs negated ∙ neg_magnitude c.args.v
