-- `put`: five stores at the front.
use borrow.Author.Rules.{rules}
use Prim.Native.Nat.{◌<◌}
use mathlib.Core.Path.{◌≡◌}
use native.Mathlib.Omega.{arith}
use lib.ListN.{length-set}
use mir.Syntax.{w16}
use mir.Val.{to_z, of_z}
use mir.ValLaws.{to_z_pos}
use Rattle.reader.proofs.Loop.{put_is}
use Rattle.reader.proofs.line.put.Goals as goal

pub bounds-out-1 : goal.bounds-out-1
bounds-out-1 c = simp length-set (omega arith)

pub bounds-out-2 : goal.bounds-out-2
bounds-out-2 c = simp length-set (omega arith)

pub bounds-out-3 : goal.bounds-out-3
bounds-out-3 c = simp length-set (omega arith)

pub returns : goal.returns
returns c = let p = c.args.report in
    let b : p.buttons < 256 = omega arith in
    let x1 : to_z w16 (of_z w16 p.x1) ≡ p.x1 = search rules in
    let y1 : to_z w16 (of_z w16 p.y1) ≡ p.y1 = search rules in
    let x2 : to_z w16 (of_z w16 p.x2) ≡ p.x2 = search rules in
    let y2 : to_z w16 (of_z w16 p.y2) ≡ p.y2 = search rules in
    put_is c.args.out.now p _ _ _ _ _ c.requires (to_z_pos w16 p.buttons (omega arith)) x1 y1 x2 y2
