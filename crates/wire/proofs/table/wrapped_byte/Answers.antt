-- `wrapped_byte`: two's complement at 128 is a byte.
use mathlib.Core.Path.{◌≡◌}
use mir.Facts.{to_z-of_z}
use Rattle.numbers.proofs.Twos.{twos_below}
use Rattle.numbers.specs.Signed.{twos}
use Rattle.wire.proofs.table.wrapped_byte.Goals as goal

pub overflow_cast-result : goal.overflow_cast-result
overflow_cast-result c =
    let wire : c.wrapped.result ≡ twos 128 c.args.v = rw (to_z-of_z c.ranges.v) at c.wrapped.ensures in
    record { fits = rw wire (twos_below 128 c.args.v c.requires) }
