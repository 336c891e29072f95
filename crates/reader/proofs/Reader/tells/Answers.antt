use Prim.Native.Nat.{◌+◌, ◌-◌}
use mathlib.Core.Path.{◌≡◌, refl, sym, ◌∙◌, ap}
use mathlib.Core.Bool.{true}
use native.Mathlib.Omega.{arith}
use lib.ListN.{length, get_or}
use borrow.Rule.Slice.PartMut.{put_mid}
use Rattle.fold.proofs.Parts.{part_within, part_room, part_long}
use Rattle.reader.specs.State.{Read}
use Rattle.reader.specs.Good.{good}
use Rattle.reader.specs.Telling.{tells, told}
use Rattle.reader.proofs.Word.{word_format}
use Rattle.reader.proofs.Keeps.{word_good}
use Rattle.reader.proofs.Numbered.{refuses}
use Rattle.reader.proofs.Tells.{Telling, starts, ends_all, refused, unchanged, full, more}
use Rattle.reader.proofs.Reader.tells.Goals as goal

pub loop-at-init : goal.loop-at-init
loop-at-init c = let a = c.args in
    (starts a.self a.words.now a.out.now, c.requires.1, refl)

pub word-requires : goal.word-requires
word-requires c = let i = c.loop-at.invariant in (c.requires.0 ∙ sym i.2, i.1)

pub returns-in-Err : goal.returns-in-Err
returns-in-Err c =
    rw c.so_far.ensures
    (refused c.loop-at.invariant.0 c.loop-at-test.true (rw c.in-Err.is at c.word.ensures) (refuses c.in-Err.refusal))

pub offset_bounds-out-used : goal.offset_bounds-out-used
offset_bounds-out-used c = let p = c.loop-at.invariant.0.part in omega (arith, part_room tells p, c.well_formed.1.1.1.0.1)

pub slice_bounds-tell-count : goal.slice_bounds-tell-count
slice_bounds-tell-count c = let p = c.loop-at.invariant.0.part in omega (arith, part_room tells p, part_long tells p)

pub returns-then-n-eq0 : goal.returns-then-n-eq0
returns-then-n-eq0 c =
    let left_alone : let l = c.loop-at in put_mid l.used (length l.out - l.used) l.out c.tell-n.new.out ≡ l.out = let t = c.tell-n.ensures in
    unchanged c.loop-at.invariant.0 c.loop-at-test.true (rw c.in-Ok.is at c.word.ensures) refl t.0 t.1 c.if-n-eq0.true in
    let t = c.tell-n.ensures in
    rw c.so_far-then-n-eq0.ensures (ap (told _) left_alone ∙ full c.loop-at.invariant.0 c.loop-at-test.true (rw c.in-Ok.is at c.word.ensures) refl t.0 t.1 c.if-n-eq0.true)

pub overflow_add-used : goal.overflow_add-used
overflow_add-used c =
    let turn : let l = c.loop-at in
    let a = c.args in
    Telling a.self a.words.now a.out.now c.in-Ok.step.next (l.at + 1) (l.used + c.tell-n.result)
    (put_mid l.used (length l.out - l.used) l.out c.tell-n.new.out) = let t = c.tell-n.ensures in
    more c.loop-at.invariant.0 c.loop-at-test.true (rw c.in-Ok.is at c.word.ensures) refl t.0 t.1 c.if-n-eq0.false in
    let p = turn.part in omega (arith, part_room tells p, c.well_formed.1.1.1.0.1)

pub loop-at-preserved : goal.loop-at-preserved
loop-at-preserved c =
    let turn : let l = c.loop-at in
    let a = c.args in
    Telling a.self a.words.now a.out.now c.in-Ok.step.next (l.at + 1) (l.used + c.tell-n.result)
    (put_mid l.used (length l.out - l.used) l.out c.tell-n.new.out) = let t = c.tell-n.ensures in
    more c.loop-at.invariant.0 c.loop-at-test.true (rw c.in-Ok.is at c.word.ensures) refl t.0 t.1 c.if-n-eq0.false in
    let stays : let r = c.loop-at.r in
    let u = c.in-Ok.step.next in
    (good u ≡ true) × (u.format ≡ r.format) = let l = c.loop-at in
    let w = get_or c.args.words.now l.at 0 in
    rw (ap (λ (s : Read). s.next) (rw c.in-Ok.is at c.word.ensures)) (word_good l.r l.invariant.1 w, word_format l.r w) in
    let i = c.loop-at.invariant in
    let k = stays in
    (turn, k.0, k.1 ∙ i.2)

pub returns : goal.returns
returns c =
    let all : c.loop-at.at ≡ length c.args.words.now = omega (arith, part_within tells c.loop-at.invariant.0.part, c.loop-at-test.false) in
    rw (c.so_far-2.ensures, ← all) (ends_all c.loop-at.invariant.0 c.loop-at-test.false)
