-- `put`: six stores at the front.
use borrow.Author.Rules.{rules}
use native.Mathlib.Omega.{arith}
use lib.ListN.{length-set}
use mathlib.Core.Path.{◌≡◌}
use mir.Syntax.{w16}
use mir.Val.{to_z, of_z}
use Rattle.puckreader.proofs.Loop.{put_is}
use Rattle.puckreader.proofs.line.put.Goals as goal

pub bounds-out-1 : goal.bounds-out-1
bounds-out-1 c = simp length-set (omega (arith, c.requires))

pub bounds-out-2 : goal.bounds-out-2
bounds-out-2 c = simp length-set (omega (arith, c.requires))

pub bounds-out-3 : goal.bounds-out-3
bounds-out-3 c = simp length-set (omega (arith, c.requires))

pub bounds-out-4 : goal.bounds-out-4
bounds-out-4 c = simp length-set (omega (arith, c.requires))

pub returns : goal.returns
returns c =
    let kind : to_z w16 (of_z w16 c.args.kind) ≡ c.args.kind = search rules in
    let a : to_z w16 (of_z w16 c.args.a) ≡ c.args.a = search rules in
    let b : to_z w16 (of_z w16 c.args.b) ≡ c.args.b = search rules in
    let d : to_z w16 (of_z w16 c.args.c) ≡ c.args.c = search rules in
    let e : to_z w16 (of_z w16 c.args.d) ≡ c.args.d = search rules in
    let f : to_z w16 (of_z w16 c.args.e) ≡ c.args.e = search rules in
    put_is c.args.out.now _ _ _ _ _ _ c.requires kind a b d e f
