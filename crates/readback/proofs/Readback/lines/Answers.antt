use Prim.Native.Nat.{◌+◌, ◌-◌, ◌*◌}
use mathlib.Core.Path.{◌≡◌, ◌∙◌, ap}
use native.Mathlib.Omega.{arith}
use lib.ListN.{length, drop, length-drop, take-append-drop}
use borrow.Rule.Slice.PartMut.{put_mid}
use Rattle.fold.proofs.Parts.{rest_is, back}
use Rattle.readback.specs.Pieces.{whole}
use Rattle.readback.specs.Parts.{Begins}
use Rattle.readback.proofs.Loop.{StandsRead, starts_read, far_read, ends_read_all, ends_read_before, more_read}
use Rattle.readback.proofs.Readback.lines.Goals as goal

pub loop-at-init : goal.loop-at-init
loop-at-init c = starts_read c.args.self c.args.input.now c.args.out.now c.requires

pub offset_bounds-out-used : goal.offset_bounds-out-used
offset_bounds-out-used c = record { fits = omega (arith, far_read c.loop-at.invariant, c.well_formed.1.0.1, c.well_formed.1.1.0.1) }

pub slice_bounds-first-count-in-loop-at : goal.slice_bounds-first-count-in-loop-at
slice_bounds-first-count-in-loop-at c = omega (arith, far_read c.loop-at.invariant)

pub first-t-requires : goal.first-t-requires
first-t-requires c = let l = c.loop-at in (l.invariant.stands.sound, rw (rest_is c.args.input.now l.at, length-drop l.at c.args.input.now) (omega arith))

pub back-requires : goal.back-requires
back-requires c = tt

pub returns-then-t-eq0 : goal.returns-then-t-eq0
returns-then-t-eq0 c =
    let begins : let l = c.loop-at in Begins l.r (drop l.at c.args.input.now) (drop l.used l.out) c.first-t.result c.first-t.new.out = let l = c.loop-at in rw (rest_is c.args.input.now l.at, rest_is l.out l.used) at c.first-t.ensures in
    let unchanged : let l = c.loop-at in c.first-t.result.taken ≡ 0 → put_mid l.used (length l.out - l.used) l.out c.first-t.new.out ≡ l.out = λ z. let l = c.loop-at in back l.out c.first-t.new.out l.used ∙ rw (begins.same z) (take-append-drop l.used l.out) in
    rw c.back.ensures (ap (whole _) (unchanged c.if-t-eq0.true) ∙ ends_read_before c.loop-at.invariant c.first-t.result begins c.if-t-eq0.true)

pub overflow_add-at : goal.overflow_add-at
overflow_add-at c =
    let begins : let l = c.loop-at in Begins l.r (drop l.at c.args.input.now) (drop l.used l.out) c.first-t.result c.first-t.new.out = let l = c.loop-at in rw (rest_is c.args.input.now l.at, rest_is l.out l.used) at c.first-t.ensures in
    let turn : let l = c.loop-at in
    let a = c.args in
    let t = c.first-t.result in
    StandsRead a.self a.input.now a.out.now t.next (l.at + t.taken) (l.used + 5 * t.items) (l.items + t.items) (put_mid l.used (length l.out - l.used) l.out c.first-t.new.out) = let l = c.loop-at in rw (back l.out c.first-t.new.out l.used) (more_read l.invariant c.first-t.result begins) in
    record { fits = omega (arith, far_read turn, c.well_formed.1.0.1, c.well_formed.1.1.0.1) }

pub overflow_mul-used : goal.overflow_mul-used
overflow_mul-used c =
    let begins : let l = c.loop-at in Begins l.r (drop l.at c.args.input.now) (drop l.used l.out) c.first-t.result c.first-t.new.out = let l = c.loop-at in rw (rest_is c.args.input.now l.at, rest_is l.out l.used) at c.first-t.ensures in
    let turn : let l = c.loop-at in
    let a = c.args in
    let t = c.first-t.result in
    StandsRead a.self a.input.now a.out.now t.next (l.at + t.taken) (l.used + 5 * t.items) (l.items + t.items) (put_mid l.used (length l.out - l.used) l.out c.first-t.new.out) = let l = c.loop-at in rw (back l.out c.first-t.new.out l.used) (more_read l.invariant c.first-t.result begins) in
    record { fits = omega (arith, far_read turn, c.well_formed.1.0.1, c.well_formed.1.1.0.1) }

pub overflow_add-used : goal.overflow_add-used
overflow_add-used c =
    let begins : let l = c.loop-at in Begins l.r (drop l.at c.args.input.now) (drop l.used l.out) c.first-t.result c.first-t.new.out = let l = c.loop-at in rw (rest_is c.args.input.now l.at, rest_is l.out l.used) at c.first-t.ensures in
    let turn : let l = c.loop-at in
    let a = c.args in
    let t = c.first-t.result in
    StandsRead a.self a.input.now a.out.now t.next (l.at + t.taken) (l.used + 5 * t.items) (l.items + t.items) (put_mid l.used (length l.out - l.used) l.out c.first-t.new.out) = let l = c.loop-at in rw (back l.out c.first-t.new.out l.used) (more_read l.invariant c.first-t.result begins) in
    record { fits = omega (arith, far_read turn, c.well_formed.1.0.1, c.well_formed.1.1.0.1) }

pub overflow_add-items : goal.overflow_add-items
overflow_add-items c =
    let begins : let l = c.loop-at in Begins l.r (drop l.at c.args.input.now) (drop l.used l.out) c.first-t.result c.first-t.new.out = let l = c.loop-at in rw (rest_is c.args.input.now l.at, rest_is l.out l.used) at c.first-t.ensures in
    let turn : let l = c.loop-at in
    let a = c.args in
    let t = c.first-t.result in
    StandsRead a.self a.input.now a.out.now t.next (l.at + t.taken) (l.used + 5 * t.items) (l.items + t.items) (put_mid l.used (length l.out - l.used) l.out c.first-t.new.out) = let l = c.loop-at in rw (back l.out c.first-t.new.out l.used) (more_read l.invariant c.first-t.result begins) in
    record { fits = omega (arith, far_read turn, c.well_formed.1.0.1, c.well_formed.1.1.0.1) }

pub loop-at-smaller : goal.loop-at-smaller
loop-at-smaller c =
    let begins : let l = c.loop-at in Begins l.r (drop l.at c.args.input.now) (drop l.used l.out) c.first-t.result c.first-t.new.out = let l = c.loop-at in rw (rest_is c.args.input.now l.at, rest_is l.out l.used) at c.first-t.ensures in
    let turn : let l = c.loop-at in
    let a = c.args in
    let t = c.first-t.result in
    StandsRead a.self a.input.now a.out.now t.next (l.at + t.taken) (l.used + 5 * t.items) (l.items + t.items) (put_mid l.used (length l.out - l.used) l.out c.first-t.new.out) = let l = c.loop-at in rw (back l.out c.first-t.new.out l.used) (more_read l.invariant c.first-t.result begins) in
    omega (arith, far_read turn, c.if-t-eq0.false)

pub loop-at-preserved : goal.loop-at-preserved
loop-at-preserved c =
    let begins : let l = c.loop-at in Begins l.r (drop l.at c.args.input.now) (drop l.used l.out) c.first-t.result c.first-t.new.out = let l = c.loop-at in rw (rest_is c.args.input.now l.at, rest_is l.out l.used) at c.first-t.ensures in
    let turn : let l = c.loop-at in
    let a = c.args in
    let t = c.first-t.result in
    StandsRead a.self a.input.now a.out.now t.next (l.at + t.taken) (l.used + 5 * t.items) (l.items + t.items) (put_mid l.used (length l.out - l.used) l.out c.first-t.new.out) = let l = c.loop-at in rw (back l.out c.first-t.new.out l.used) (more_read l.invariant c.first-t.result begins) in
    turn

pub back-requires-2 : goal.back-requires-2
back-requires-2 c = tt

pub returns : goal.returns
returns c = rw c.back-2.ensures (ends_read_all c.loop-at.invariant c.loop-at-test.false)
