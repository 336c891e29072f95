-- `wrapped`: two's complement by a magnitude and a sign.
use lib.IntN.{nat_abs}
use mathlib.Core.Path.{◌≡◌, ◌∙◌, sym}
use mir.Facts.{to_z-of_z}
use native.Mathlib.Omega.{arith}
use Rattle.numbers.proofs.Twos.{twos_minus, twos_plus, magnitude_near}
use Rattle.wire.proofs.signed.wrapped.Goals as goal

pub magnitude-requires : goal.magnitude-requires
magnitude-requires c = rw (to_z-of_z c.ranges.v) (omega arith)

pub overflow_sub-result : goal.overflow_sub-result
overflow_sub-result c =
    let size : c.magnitude.result ≡ nat_abs c.args.v = rw (to_z-of_z c.ranges.v) at c.magnitude.ensures in
    rw size (omega (arith, magnitude_near c.args.v))

pub magnitude-requires-else-v-lt0 : goal.magnitude-requires-else-v-lt0
magnitude-requires-else-v-lt0 c = rw (to_z-of_z c.ranges.v) (omega arith)

pub returns-then-v-lt0 : goal.returns-then-v-lt0
returns-then-v-lt0 c =
    let size : c.magnitude.result ≡ nat_abs c.args.v = rw (to_z-of_z c.ranges.v) at c.magnitude.ensures in
    rw size (sym (twos_minus _ _ (rw (to_z-of_z c.ranges.v) at c.if-v-lt0.true)))

pub returns-else-v-lt0 : goal.returns-else-v-lt0
returns-else-v-lt0 c = rw (to_z-of_z c.ranges.v) at c.magnitude-else-v-lt0.ensures ∙ sym (twos_plus _ _ (rw (to_z-of_z c.ranges.v) at c.if-v-lt0.false))
