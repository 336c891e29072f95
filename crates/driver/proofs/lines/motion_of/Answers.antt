-- Two numbers of 16 bits, or one that is none.
use borrow.Author.Rules.{rules}
use mathlib.Core.Path.{◌≡◌}
use lib.IntN.{ℤ}
use lib.Signed.{lt_z}
use native.Mathlib.Omega.{arith}
use mathlib.Core.Bool.{false}
use mir.Syntax.{w16, w64}
use mir.Val.{SFits, to_z, of_z}
use mir.Facts.{to_z-of_z}
use Rattle.numbers.specs.Signed.{least, most}
use Rattle.numbers.proofs.Held.{between_fits}
use Rattle.numbers.proofs.Choices.{neither}
use Rattle.driver.specs.Lines.{outside}
use Rattle.driver.proofs.lines.motion_of.Goals as goal

-- neither is outside
inside : (x : ℤ) → outside x ≡ false → SFits w16 x
inside x h = let e = neither (lt_z x least) (lt_z most x) h in between_fits {lo = least} {hi = most} (record { sfits = omega arith }) (record { sfits = omega arith }) e.0 e.1

pub overflow_cast-result : goal.overflow_cast-result
overflow_cast-result c =
    let fits : SFits w16 (to_z w64 (of_z w64 c.in-Some.dx)) × SFits w16 (to_z w64 (of_z w64 c.in-Some-y.dy)) = let e = neither _ _ c.if-dx-dy.false in (inside _ e.0, inside _ e.1) in
    fits.0

pub overflow_cast-result-else-dx-dy : goal.overflow_cast-result-else-dx-dy
overflow_cast-result-else-dx-dy c =
    let fits : SFits w16 (to_z w64 (of_z w64 c.in-Some.dx)) × SFits w16 (to_z w64 (of_z w64 c.in-Some-y.dy)) = let e = neither _ _ c.if-dx-dy.false in (inside _ e.0, inside _ e.1) in
    fits.1

pub returns-then-dx-dy : goal.returns-then-dx-dy
returns-then-dx-dy c = let x = c.in-Some.dx in
    let y = c.in-Some-y.dy in
    let same_x : to_z w64 (of_z w64 x) ≡ x = search rules in
    let same_y : to_z w64 (of_z w64 y) ≡ y = search rules in
    rw (c.in-Some.is, c.in-Some-y.is, rw (same_x, same_y) at c.if-dx-dy.true)

pub returns-else-dx-dy : goal.returns-else-dx-dy
returns-else-dx-dy c =
    let fits : SFits w16 (to_z w64 (of_z w64 c.in-Some.dx)) × SFits w16 (to_z w64 (of_z w64 c.in-Some-y.dy)) = let e = neither _ _ c.if-dx-dy.false in (inside _ e.0, inside _ e.1) in
    let x = c.in-Some.dx in
    let y = c.in-Some-y.dy in
    let same_x : to_z w64 (of_z w64 x) ≡ x = search rules in
    let same_y : to_z w64 (of_z w64 y) ≡ y = search rules in
    rw (to_z-of_z fits.0, to_z-of_z fits.1, same_x, same_y, c.in-Some.is, c.in-Some-y.is, rw (same_x, same_y) at c.if-dx-dy.false)
