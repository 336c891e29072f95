-- A count, and no more.
use borrow.Author.Rules.{rules}
use mathlib.Core.Path.{◌≡◌}
use native.Mathlib.Omega.{arith}
use lib.ListN.{drop}
use mir.Syntax.{w64}
use mir.Val.{to_z, of_z}
use Rattle.readback.specs.declared.Kind.TheVariants as kind
use Rattle.readback.proofs.Values.{alone_bound, kept_none, kept_some}
use Rattle.readback.proofs.items.kept.Goals as goal

pub returns-in_err-k : goal.returns-in_err-k
returns-in_err-k c = rw c.from_residual.ensures (kept_none c.args.width (drop 1 c.args.line.now) c.in_err-k.ensures)

pub overflow_cast-result : goal.overflow_cast-result
overflow_cast-result c = let k = c.in_ok-k.k in
    let is : to_z w64 (of_z w64 k) ≡ k = search rules in
    let b = alone_bound c.args.width kind.Count (drop 1 c.args.line.now) c.in_ok-k.ensures in
    rw (is, b.0) (tt, record { fits = omega (arith, b.1) })

pub returns : goal.returns
returns c = let k = c.in_ok-k.k in
    let is : to_z w64 (of_z w64 k) ≡ k = search rules in
    rw is (kept_some c.args.width (drop 1 c.args.line.now) c.in_ok-k.ensures)
