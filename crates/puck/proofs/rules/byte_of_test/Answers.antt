-- `byte_of_test`: the rows of the figure, as sums.
use Prim.Native.Nat.{◌-◌}
use mathlib.Core.Path.{◌≡◌}
use native.Mathlib.Omega.{arith}
use borrow.Author.Tests.{ne_eqb}
use Rattle.vsxxx.proofs.Bytes.{bytes_are}
use Rattle.puck.proofs.rules.byte_of_test.Goals as goal

pub returns-in-0 : goal.returns-in-0
returns-in-0 c = rw (c.in-0.is, bytes_are)

pub returns-in-1 : goal.returns-in-1
returns-in-1 c = rw (c.in-1.is, bytes_are)

pub returns-then-buttons-eq0 : goal.returns-then-buttons-eq0
returns-then-buttons-eq0 c = rw (c.in-2.is, c.if-buttons-eq0.true, bytes_are)

pub returns-else-buttons-eq0 : goal.returns-else-buttons-eq0
returns-else-buttons-eq0 c = rw (c.in-2.is, bytes_are, ne_eqb _ 0 c.if-buttons-eq0.false)

pub returns-in-3 : goal.returns-in-3
returns-in-3 c = rw (c.in-3.is, bytes_are)

pub returns-in_default : goal.returns-in_default
returns-in_default c = let n = c.in_default.in_default-own.rest in let z : 4 - c.args.left ≡ 0 = omega (arith, n.0.0.0.1, n.0.0.1, n.0.1, n.1) in rw (z, bytes_are)
