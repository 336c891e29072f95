-- `least_v`: the two high bits above the six.
use mathlib.Core.Path.{◌≡◌}
use Prim.Native.Nat.{◌+◌, ◌*◌, ◌/◌, ◌%◌}
use native.Mathlib.Omega.{arith}
use Rattle.wire.proofs.Fields.{byte_x, byte_y}
use mathlib.Core.List.{◌++◌}
use Rattle.numbers.specs.Bits.{number, bits}
use Rattle.yard.specs.Stands.{least_v}
use Rattle.yard.proofs.stands.least_v.Goals as goal

pub returns : goal.returns
unfolding least_v
returns c = let a = c.args in let x : a.first % 4 * 64 + a.byte % 64 ≡ number (bits 2 0 a.first ++ bits 6 0 a.byte) = omega (arith, byte_x a.first a.byte) in let y : a.first / 4 % 4 * 64 + a.byte % 64 ≡ number (bits 2 2 a.first ++ bits 6 0 a.byte) = omega (arith, byte_y a.first a.byte) in rw (x, y)
