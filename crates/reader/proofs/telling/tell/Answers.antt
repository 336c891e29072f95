-- `tell`: each case of the answer.
use Prim.Native.Nat.{◌-◌}
use mathlib.Core.Path.{◌≡◌}
use mathlib.Core.List.{◌++◌}
use native.Mathlib.Omega.{arith}
use lib.ListN.{length, drop, set, length-set, length-drop}
use lib.Seq.{set_split}
use lib.IntN.{pos, negsuc}
use mir.Syntax.{w16}
use mir.Val.{to_z}
use mir.ValLaws.{to_z_pos}
use borrow.Rule.Slice.PartMut.{put_mid}
use Rattle.fold.proofs.Parts.{rest_is}
use Rattle.reader.specs.Telling.{told_in}
use Rattle.reader.specs.declared.Answer.TheVariants.{Nothing, Report, Dropped}
use Rattle.reader.proofs.Tells.{has_room_lem, has_none, report_told}
use Rattle.reader.proofs.telling.tell.Goals as goal

pub returns-then-out-lt1 : goal.returns-then-out-lt1
returns-then-out-lt1 c = rw c.in-Nothing.is (has_none Nothing c.args.out.now c.if-out-lt1.true)

pub returns-then-out-lt1-2 : goal.returns-then-out-lt1-2
returns-then-out-lt1-2 c = rw c.in-Dropped.is (has_none (Dropped _) c.args.out.now c.if-out-lt1-2.true)

pub returns-then-out-lt6 : goal.returns-then-out-lt6
returns-then-out-lt6 c = rw c.in-Report.is (has_none (Report _) c.args.out.now c.if-out-lt6.true)

pub slice_bounds-put-count : goal.slice_bounds-put-count
slice_bounds-put-count c = simp length-set (omega arith)

pub put-requires : goal.put-requires
put-requires c = rw rest_is (simp (length-drop, length-set) (omega arith))

pub returns-else-out-lt1 : goal.returns-else-out-lt1
returns-else-out-lt1 c = let out = c.args.out.now in
    rw (c.in-Nothing.is, set_split out 0 (pos 0) (omega arith)) (has_room_lem Nothing out c.if-out-lt1.false)

pub returns-else-out-lt1-2 : goal.returns-else-out-lt1-2
returns-else-out-lt1-2 c = let out = c.args.out.now in
    let k = c.in-Dropped.k in
    let is : to_z w16 k ≡ pos k = to_z_pos w16 k (omega arith) in
    rw (c.in-Dropped.is, is, set_split out 0 (pos k) (omega arith)) (has_room_lem (Dropped k) out c.if-out-lt1-2.false)

pub returns-else-out-lt6 : goal.returns-else-out-lt6
returns-else-out-lt6 c =
    let reported : let out = c.args.out.now in
    let l = set out 0 (negsuc 0) in
    put_mid 1 (length l - 1) l c.put.new.out ≡ told_in (Report c.in-Report.report) ++ drop 6 out = report_told c.in-Report.report c.args.out.now c.if-out-lt6.false c.put.ensures in
    rw (c.in-Report.is, reported) (has_room_lem (Report c.in-Report.report) c.args.out.now c.if-out-lt6.false)
