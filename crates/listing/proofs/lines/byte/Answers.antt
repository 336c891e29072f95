-- A number that is a byte, or none.
use borrow.Author.Rules.{rules}
use mathlib.Core.Path.{◌≡◌}
use native.Mathlib.Omega.{arith}
use mir.Syntax.{w64}
use mir.Val.{to_z, of_z}
use Rattle.listing.proofs.Parse.{no_byte, a_byte}
use Rattle.listing.proofs.lines.byte.Goals as goal

pub overflow_cast-result : goal.overflow_cast-result
overflow_cast-result c = let x = c.in-Some.x in
    let same : to_z w64 (of_z w64 x) ≡ x = search rules in
    let b = a_byte x (rw same at c.if-x.false) in rw (same, b.0) (tt, record { fits = omega (arith, b.1) })

pub returns-then-x : goal.returns-then-x
returns-then-x c = let x = c.in-Some.x in
    let same : to_z w64 (of_z w64 x) ≡ x = search rules in
    rw c.in-Some.is (no_byte x (rw same at c.if-x.true))

pub returns-else-x : goal.returns-else-x
returns-else-x c = let x = c.in-Some.x in
    let same : to_z w64 (of_z w64 x) ≡ x = search rules in
    rw (same, c.in-Some.is) (a_byte x (rw same at c.if-x.false)).2
