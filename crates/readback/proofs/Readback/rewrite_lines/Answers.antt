use Prim.Native.Nat.{◌+◌, ◌-◌}
use mathlib.Core.Path.{◌≡◌, ◌∙◌, ap}
use native.Mathlib.Omega.{arith}
use lib.ListN.{length, drop, length-drop, take-append-drop}
use borrow.Rule.Slice.PartMut.{put_mid}
use Rattle.fold.proofs.Parts.{rest_is, back}
use Rattle.readback.specs.Rewriting.{rewrites, rewriting}
use Rattle.readback.specs.Parts.{Stands, Rewrites}
use Rattle.readback.proofs.Loop.{starts, far, more}
use Rattle.readback.proofs.Rewrites.{rewriting_follows, ends_rewriting_all, ends_rewriting_before}
use Rattle.readback.proofs.Readback.rewrite_lines.Goals as goal

pub loop-at-init : goal.loop-at-init
loop-at-init c = starts rewrites rewriting_follows c.args.self c.args.input.now c.args.out.now c.requires

pub slice_bounds-rewrite_first-count-in-loop-at : goal.slice_bounds-rewrite_first-count-in-loop-at
slice_bounds-rewrite_first-count-in-loop-at c = omega (arith, far rewrites rewriting_follows c.loop-at.invariant)

pub rewrite_first-t-requires : goal.rewrite_first-t-requires
rewrite_first-t-requires c = let l = c.loop-at in (l.invariant.sound, rw (rest_is c.args.input.now l.at, length-drop l.at c.args.input.now) (omega arith))

pub returns-then-t-eq0 : goal.returns-then-t-eq0
returns-then-t-eq0 c =
    let begins : let l = c.loop-at in Rewrites l.r (drop l.at c.args.input.now) (drop l.used l.out) c.rewrite_first-t.result c.rewrite_first-t.new.out = let l = c.loop-at in rw (rest_is c.args.input.now l.at, rest_is l.out l.used) at c.rewrite_first-t.ensures in
    let unchanged : let l = c.loop-at in c.rewrite_first-t.result.taken ≡ 0 → put_mid l.used (length l.out - l.used) l.out c.rewrite_first-t.new.out ≡ l.out = λ z. let l = c.loop-at in back l.out c.rewrite_first-t.new.out l.used ∙ rw (begins.same z) (take-append-drop l.used l.out) in
    rw c.rewritten.ensures (ap (rewriting _) (unchanged c.if-t-eq0.true) ∙ ends_rewriting_before c.loop-at.invariant c.rewrite_first-t.result begins c.if-t-eq0.true)

pub overflow_add-at : goal.overflow_add-at
overflow_add-at c =
    let begins : let l = c.loop-at in Rewrites l.r (drop l.at c.args.input.now) (drop l.used l.out) c.rewrite_first-t.result c.rewrite_first-t.new.out = let l = c.loop-at in rw (rest_is c.args.input.now l.at, rest_is l.out l.used) at c.rewrite_first-t.ensures in
    let turn : let l = c.loop-at in
    let a = c.args in
    let t = c.rewrite_first-t.result in
    Stands rewrites a.self a.input.now a.out.now t.next (l.at + t.taken) (l.used + t.written) (put_mid l.used (length l.out - l.used) l.out c.rewrite_first-t.new.out) = let l = c.loop-at in rw (back l.out c.rewrite_first-t.new.out l.used) (more rewrites rewriting_follows l.invariant begins) in
    record { fits = omega (arith, far rewrites rewriting_follows turn, c.well_formed.1.0.1, c.well_formed.1.1.0.1) }

pub overflow_add-used : goal.overflow_add-used
overflow_add-used c =
    let begins : let l = c.loop-at in Rewrites l.r (drop l.at c.args.input.now) (drop l.used l.out) c.rewrite_first-t.result c.rewrite_first-t.new.out = let l = c.loop-at in rw (rest_is c.args.input.now l.at, rest_is l.out l.used) at c.rewrite_first-t.ensures in
    let turn : let l = c.loop-at in
    let a = c.args in
    let t = c.rewrite_first-t.result in
    Stands rewrites a.self a.input.now a.out.now t.next (l.at + t.taken) (l.used + t.written) (put_mid l.used (length l.out - l.used) l.out c.rewrite_first-t.new.out) = let l = c.loop-at in rw (back l.out c.rewrite_first-t.new.out l.used) (more rewrites rewriting_follows l.invariant begins) in
    record { fits = omega (arith, far rewrites rewriting_follows turn, c.well_formed.1.0.1, c.well_formed.1.1.0.1) }

pub loop-at-smaller : goal.loop-at-smaller
loop-at-smaller c =
    let begins : let l = c.loop-at in Rewrites l.r (drop l.at c.args.input.now) (drop l.used l.out) c.rewrite_first-t.result c.rewrite_first-t.new.out = let l = c.loop-at in rw (rest_is c.args.input.now l.at, rest_is l.out l.used) at c.rewrite_first-t.ensures in
    let turn : let l = c.loop-at in
    let a = c.args in
    let t = c.rewrite_first-t.result in
    Stands rewrites a.self a.input.now a.out.now t.next (l.at + t.taken) (l.used + t.written) (put_mid l.used (length l.out - l.used) l.out c.rewrite_first-t.new.out) = let l = c.loop-at in rw (back l.out c.rewrite_first-t.new.out l.used) (more rewrites rewriting_follows l.invariant begins) in
    omega (arith, far rewrites rewriting_follows turn, c.if-t-eq0.false)

pub loop-at-preserved : goal.loop-at-preserved
loop-at-preserved c =
    let begins : let l = c.loop-at in Rewrites l.r (drop l.at c.args.input.now) (drop l.used l.out) c.rewrite_first-t.result c.rewrite_first-t.new.out = let l = c.loop-at in rw (rest_is c.args.input.now l.at, rest_is l.out l.used) at c.rewrite_first-t.ensures in
    let turn : let l = c.loop-at in
    let a = c.args in
    let t = c.rewrite_first-t.result in
    Stands rewrites a.self a.input.now a.out.now t.next (l.at + t.taken) (l.used + t.written) (put_mid l.used (length l.out - l.used) l.out c.rewrite_first-t.new.out) = let l = c.loop-at in rw (back l.out c.rewrite_first-t.new.out l.used) (more rewrites rewriting_follows l.invariant begins) in
    turn

pub returns : goal.returns
returns c = rw c.rewritten-2.ensures (ends_rewriting_all c.loop-at.invariant c.loop-at-test.false)
