-- A field, and no more.
use borrow.Author.Rules.{rules}
use mathlib.Core.Path.{◌≡◌}
use mir.Syntax.{w64}
use mir.Val.{to_z, of_z}
use borrow.Author.Tests.{le-leb, lt-leb}
use Rattle.readback.proofs.Values.{alone_none, alone_some, alone_more}
use Rattle.readback.proofs.items.alone.Goals as goal

pub returns-in_err-f : goal.returns-in_err-f
returns-in_err-f c = let a = c.args in rw c.from_residual.ensures (alone_none a.width a.kind a.line.now c.in_err-f.ensures)

pub returns-then-line-f : goal.returns-then-line-f
returns-then-line-f c = let a = c.args in
    let f = c.in_ok-f.f in
    let is : to_z w64 (of_z w64 f.value) ≡ f.value = search rules in
    rw is (alone_some a.width a.kind a.line.now f c.in_ok-f.ensures (le-leb _ _ c.if-line-f.true))

pub returns-else-line-f : goal.returns-else-line-f
returns-else-line-f c = let a = c.args in alone_more a.width a.kind a.line.now c.in_ok-f.f c.in_ok-f.ensures (lt-leb _ _ c.if-line-f.false)
