-- Its letter, or none.
use native.Mathlib.Omega.{arith}
use lib.ListN.{length}
use borrow.Author.Tests.{le-ltb}
use Rattle.readback.proofs.Values.{no_kind, a_kind}
use Rattle.readback.proofs.items.salvage.Goals as goal

pub returns-then-line-gt0 : goal.returns-then-line-gt0
returns-then-line-gt0 c = a_kind c.args.line.now (λ z. omega (arith, c.if-line-gt0.true))

pub returns-else-line-gt0 : goal.returns-else-line-gt0
returns-else-line-gt0 c = let none = c.if-line-gt0.false in rw (le-ltb 0 (length c.args.line.now) (omega (arith, none))) (no_kind c.args.line.now (omega (arith, none)))
