-- A line number and a count, and no more.
use borrow.Author.Rules.{rules}
use mathlib.Core.Path.{◌≡◌}
use native.Mathlib.Omega.{arith}
use mir.Syntax.{w64}
use mir.Val.{to_z, of_z}
use Rattle.readback.specs.declared.Kind.TheVariants as kind
use Rattle.readback.proofs.Values.{takes_bound, dropped_one, dropped_two, dropped_is}
use Rattle.readback.proofs.items.dropped.Goals as goal

pub returns-in_err-n : goal.returns-in_err-n
returns-in_err-n c = rw c.from_residual.ensures (dropped_one c.args.width c.args.line.now c.in_err-n.ensures)

pub returns-in_err-k : goal.returns-in_err-k
returns-in_err-k c = rw c.from_residual-in_err-k.ensures (dropped_two c.args.width c.args.line.now c.in_ok-n.n c.in_ok-n.ensures c.in_err-k.ensures)

pub overflow_cast-result : goal.overflow_cast-result
overflow_cast-result c = let n = c.in_ok-n.n in
    let is : to_z w64 (of_z w64 n.value) ≡ n.value = search rules in
    let b = takes_bound c.args.width kind.Line c.args.line.now 1 c.in_ok-n.ensures in
    rw (is, b.0) (tt, record { fits = omega (arith, b.1) })

pub overflow_cast-result-then-line-k : goal.overflow_cast-result-then-line-k
overflow_cast-result-then-line-k c = let k = c.in_ok-k.k in
    let is : to_z w64 (of_z w64 k.value) ≡ k.value = search rules in
    let b = takes_bound c.args.width kind.Count c.args.line.now c.in_ok-n.n.end c.in_ok-k.ensures in
    rw (is, b.0) (tt, record { fits = omega (arith, b.1) })

pub returns-then-line-k : goal.returns-then-line-k
returns-then-line-k c = let n = c.in_ok-n.n in
    let k = c.in_ok-k.k in
    let n_is : to_z w64 (of_z w64 n.value) ≡ n.value = search rules in
    let k_is : to_z w64 (of_z w64 k.value) ≡ k.value = search rules in
    let t = rw k_is at c.if-line-k.true in
    rw (n_is, k_is, dropped_is c.args.width c.args.line.now n c.in_ok-n.ensures k c.in_ok-k.ensures, t)

pub returns-else-line-k : goal.returns-else-line-k
returns-else-line-k c = let n = c.in_ok-n.n in
    let k = c.in_ok-k.k in
    let k_is : to_z w64 (of_z w64 k.value) ≡ k.value = search rules in
    let t = rw k_is at c.if-line-k.false in
    rw (dropped_is c.args.width c.args.line.now n c.in_ok-n.ensures k c.in_ok-k.ensures, t)
