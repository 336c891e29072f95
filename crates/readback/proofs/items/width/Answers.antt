-- A letter and a count, and no more.
use borrow.Author.Rules.{rules}
use mathlib.Core.Path.{◌≡◌}
use native.Mathlib.Omega.{arith}
use lib.ListN.{drop}
use mir.Syntax.{w64}
use mir.Val.{to_z, of_z}
use Rattle.readback.specs.declared.Kind.TheVariants as kind
use Rattle.readback.proofs.Values.{alone_bound, no_width, width_is}
use Rattle.readback.proofs.items.width.Goals as goal

pub returns-then-line-eq0 : goal.returns-then-line-eq0
returns-then-line-eq0 c = no_width c.args.line.now c.if-line-eq0.true

pub returns-in_err-w : goal.returns-in_err-w
returns-in_err-w c = rw (c.from_residual.ensures, width_is c.args.line.now c.if-line-eq0.false, c.if-letter.true, c.in_err-w.ensures)

pub overflow_cast-result : goal.overflow_cast-result
overflow_cast-result c = let w = c.in_ok-w.w in
    let is : to_z w64 (of_z w64 w) ≡ w = search rules in
    let b = alone_bound 1 kind.Count (drop 1 c.args.line.now) c.in_ok-w.ensures in
    rw (is, b.0) (tt, record { fits = omega (arith, b.1) })

pub returns-in_ok-w : goal.returns-in_ok-w
returns-in_ok-w c = let w = c.in_ok-w.w in
    let is : to_z w64 (of_z w64 w) ≡ w = search rules in
    rw (is, width_is c.args.line.now c.if-line-eq0.false, c.if-letter.true, c.in_ok-w.ensures.0, c.in_ok-w.ensures.1)

pub returns-else-letter : goal.returns-else-letter
returns-else-letter c = rw (width_is c.args.line.now c.if-line-eq0.false, c.if-letter.false)
