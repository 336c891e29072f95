-- `over`, or the number of a line.
use borrow.Author.Rules.{rules}
use mathlib.Core.Path.{◌≡◌}
use native.Mathlib.Omega.{arith}
use lib.ListN.{drop}
use mir.Syntax.{w64}
use mir.Val.{to_z, of_z}
use Rattle.readback.specs.declared.Kind.TheVariants as kind
use Rattle.readback.proofs.Values.{alone_bound, bad_over, bad_none, bad_some}
use Rattle.readback.proofs.items.bad.Goals as goal

pub returns-in-Some : goal.returns-in-Some
returns-in-Some c = bad_over c.args.width (drop 1 c.args.line.now) c.in-Some.ensures.0

pub returns-in_err-n-in-None : goal.returns-in_err-n-in-None
returns-in_err-n-in-None c = rw c.from_residual.ensures (bad_none c.args.width (drop 1 c.args.line.now) c.in-None.ensures c.in_err-n-in-None.ensures)

pub overflow_cast-result : goal.overflow_cast-result
overflow_cast-result c = let n = c.in_ok-n-in-None.n in
    let is : to_z w64 (of_z w64 n) ≡ n = search rules in
    let b = alone_bound c.args.width kind.Line (drop 1 c.args.line.now) c.in_ok-n-in-None.ensures in
    rw (is, b.0) (tt, record { fits = omega (arith, b.1) })

pub returns-in_ok-n-in-None : goal.returns-in_ok-n-in-None
returns-in_ok-n-in-None c = let n = c.in_ok-n-in-None.n in
    let is : to_z w64 (of_z w64 n) ≡ n = search rules in
    rw is (bad_some c.args.width (drop 1 c.args.line.now) c.in-None.ensures c.in_ok-n-in-None.ensures)
