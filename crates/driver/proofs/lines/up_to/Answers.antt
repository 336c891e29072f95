-- A number that is 0 or more and at most a bound, or none.
use borrow.Author.Rules.{rules}
use native.Mathlib.Omega.{arith}
use mathlib.Core.Path.{◌≡◌, sym, ◌∙◌}
use mir.Syntax.{w64}
use mir.Val.{to_z, of_z}
use mir.Facts.{to_z_pos}
use Rattle.driver.specs.declared.Order.TheVariants as order
use Rattle.driver.proofs.Reading.{not_up_to, is_up_to}
use Rattle.driver.proofs.lines.up_to.Goals as goal

pub returns-in-None : goal.returns-in-None
returns-in-None c = λ says. rw (sym c.in-None.ensures)

pub overflow_cast-result : goal.overflow_cast-result
overflow_cast-result c = let x = c.in-Some.x in
    let same : to_z w64 (of_z w64 x) ≡ x = search rules in
    let bound = to_z_pos w64 {n = c.args.bound} (omega (arith, c.ranges.bound.fits)) in
    let b = is_up_to c.args.bound (λ n. order.Slots n) x (rw (same, c.from.ensures, bound) at c.if-x-from.false) in rw (same, b.0) (tt, record { fits = omega (arith, b.1) })

pub returns-then-x-from : goal.returns-then-x-from
returns-then-x-from c = let x = c.in-Some.x in
    let same : to_z w64 (of_z w64 x) ≡ x = search rules in
    let bound = to_z_pos w64 {n = c.args.bound} (omega (arith, c.ranges.bound.fits)) in
    λ says. rw (sym c.in-Some.ensures) (sym (not_up_to c.args.bound says x (rw (same, c.from.ensures, bound) at c.if-x-from.true)))

pub returns-else-x-from : goal.returns-else-x-from
returns-else-x-from c = let x = c.in-Some.x in
    let same : to_z w64 (of_z w64 x) ≡ x = search rules in
    let bound = to_z_pos w64 {n = c.args.bound} (omega (arith, c.ranges.bound.fits)) in
    let b = is_up_to c.args.bound (λ n. order.Slots n) x (rw (same, c.from.ensures, bound) at c.if-x-from.false) in
    rw same (b.1, λ says. rw (sym c.in-Some.ensures) (sym (is_up_to c.args.bound says x (rw (same, c.from.ensures, bound) at c.if-x-from.false)).2))
