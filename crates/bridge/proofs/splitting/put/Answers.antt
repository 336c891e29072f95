use Prim.Native.Nat.{◌+◌, ◌-◌, ◌*◌}
use mathlib.Core.Path.{◌≡◌, sym, ◌∙◌, ap}
use mathlib.Core.List.{◌++◌}
use native.Mathlib.Omega.{arith}
use lib.ListN.{length, take, drop, take-append-drop}
use borrow.Rule.Slice.PartMut.{put_mid}
use Rattle.fold.proofs.Parts.{rest_is, back}
use Rattle.wire.specs.Table.{bytes_of}
use Rattle.wire.specs.declared.Format.TheVariants.{Microsoft}
use Rattle.bridge.specs.Splitting.{report_v, split}
use Rattle.bridge.proofs.Near.{near_rest}
use Rattle.bridge.proofs.Writing.{again}
use Rattle.bridge.proofs.splitting.put.Goals as goal

pub loop-n-preserved : goal.loop-n-preserved
loop-n-preserved c =
    let l = c.loop-n in
    let a = c.args in
    let at = 3 * l.n in
    let wrote : put_mid at (length l.out - at) l.out c.write.new.out
    ≡ take at l.out ++ (bytes_of Microsoft (report_v a.buttons l.left) ++ drop 3 (drop at l.out)) =
    back l.out c.write.new.out at ∙ ap (λ t. take at l.out ++ t) (rw (rest_is l.out at) at c.write.ensures) in
    let t = again (a.count - l.n) a.buttons at l.left l.out _ _ (λ e. omega arith) l.invariant.room wrote l.invariant.whole in
    let behind : at + 3 ≡ 3 * (l.n + 1) = omega arith in
    let less : a.count - l.n - 1 ≡ a.count - (l.n + 1) = omega arith in
    let u = rw (behind, less) at t in
    rw c.rest-left.ensures (record { near = near_rest l.left l.invariant.near; room = u.0; long = u.1 ∙ l.invariant.long; whole = u.2 })

pub returns : goal.returns
unfolding split
returns c =
    let l = c.loop-n in
    let z : c.args.count - l.n ≡ 0 = omega arith in
    let e : 3 * l.n + 3 * 0 ≡ 3 * l.n = omega arith in
    sym (take-append-drop (3 * l.n) l.out) ∙ (rw (z, e) at l.invariant.whole)
