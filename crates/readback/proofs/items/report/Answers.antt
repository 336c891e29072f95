-- A line number, buttons and two numbers, and no more.
use borrow.Author.Rules.{rules}
use mathlib.Core.Path.{◌≡◌}
use native.Mathlib.Omega.{arith}
use mir.Syntax.{w64}
use mir.Val.{to_z, of_z}
use borrow.Author.Tests.{le-leb, lt-leb}
use Rattle.readback.specs.declared.Kind.TheVariants as kind
use Rattle.readback.proofs.Values.{takes_bound, report_one, report_two, report_three, report_four, report_is}
use Rattle.readback.proofs.items.report.Goals as goal

pub returns-in_err-n : goal.returns-in_err-n
returns-in_err-n c = rw c.from_residual.ensures (report_one c.args.width c.args.line.now c.in_err-n.ensures)

pub returns-in_err-b : goal.returns-in_err-b
returns-in_err-b c = rw c.from_residual-in_err-b.ensures (report_two c.args.width c.args.line.now c.in_ok-n.n c.in_ok-n.ensures c.in_err-b.ensures)

pub returns-in_err-x : goal.returns-in_err-x
returns-in_err-x c = rw c.from_residual-in_err-x.ensures (report_three c.args.width c.args.line.now c.in_ok-n.n c.in_ok-n.ensures c.in_ok-b.b c.in_ok-b.ensures c.in_err-x.ensures)

pub returns-in_err-y : goal.returns-in_err-y
returns-in_err-y c = rw c.from_residual-in_err-y.ensures (report_four c.args.width c.args.line.now c.in_ok-n.n c.in_ok-n.ensures c.in_ok-b.b c.in_ok-b.ensures c.in_ok-x.x c.in_ok-x.ensures c.in_err-y.ensures)

pub overflow_cast-result : goal.overflow_cast-result
overflow_cast-result c = let n = c.in_ok-n.n in
    let is : to_z w64 (of_z w64 n.value) ≡ n.value = search rules in
    let b = takes_bound c.args.width kind.Line c.args.line.now 1 c.in_ok-n.ensures in
    rw (is, b.0) (tt, record { fits = omega (arith, b.1) })

pub overflow_cast-b : goal.overflow_cast-b
overflow_cast-b c = let p = c.in_ok-b.b in
    let is : to_z w64 (of_z w64 p.value) ≡ p.value = search rules in
    let b = takes_bound c.args.width kind.Pressed c.args.line.now c.in_ok-n.n.end c.in_ok-b.ensures in
    rw (is, b.0) (tt, record { fits = omega (arith, b.1) })

pub returns-then-line-y : goal.returns-then-line-y
returns-then-line-y c =
    let n = c.in_ok-n.n in
    let b = c.in_ok-b.b in
    let x = c.in_ok-x.x in
    let y = c.in_ok-y.y in
    let n_is : to_z w64 (of_z w64 n.value) ≡ n.value = search rules in
    let b_is : to_z w64 (of_z w64 b.value) ≡ b.value = search rules in
    let x_is : to_z w64 (of_z w64 x.value) ≡ x.value = search rules in
    let y_is : to_z w64 (of_z w64 y.value) ≡ y.value = search rules in
    rw (c.buttons_at.ensures, n_is, b_is, x_is, y_is, report_is c.args.width c.args.line.now n c.in_ok-n.ensures b c.in_ok-b.ensures x c.in_ok-x.ensures y c.in_ok-y.ensures, le-leb _ _ c.if-line-y.true)

pub returns-else-line-y : goal.returns-else-line-y
returns-else-line-y c =
    rw (
      report_is c.args.width c.args.line.now c.in_ok-n.n c.in_ok-n.ensures c.in_ok-b.b c.in_ok-b.ensures c.in_ok-x.x c.in_ok-x.ensures c.in_ok-y.y c.in_ok-y.ensures,
      lt-leb _ _ c.if-line-y.false,
    )
