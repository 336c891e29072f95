use Prim.Native.Nat.{◌+◌, ◌-◌, ◌*◌, ◌<◌, ◌≤◌}
use mathlib.Core.Path.{refl, ◌∙◌}
use native.Mathlib.Omega.{arith}
use lib.ListN.{length}
use Rattle.listing.specs.Scanning.{most_lines}
use Rattle.listing.specs.Feeding.{passed_to, Stands}
use Rattle.listing.proofs.Feeds.{starts, far}
use Rattle.listing.proofs.Several.{as_many, batch_more, unread_more}
use Rattle.listing.proofs.batches.words.Goals as goal

pub loop-n-init : goal.loop-n-init
loop-n-init c = let a = c.args in
    let s = starts (passed_to a.line a.reader) a.input.now a.out.now in
    (s, far s, c.requires, refl, refl)

pub gathered-b-requires : goal.gathered-b-requires
gathered-b-requires c = let i = c.loop-n.invariant in (i.1.0, omega (arith, c.at_once.ensures.0, i.3))

pub printed-requires : goal.printed-requires
printed-requires c =
    let few : let l = c.loop-n in let count = c.gathered-b.result.count in
    (0 < count) × (count ≤ 32) × (l.n + count ≤ most_lines) × (40 * count ≤ length l.out - l.used) = let most = c.gathered-b.ensures.1 in
    let once = c.at_once.ensures in
    (omega (arith, c.if-b-eq0.false), omega (arith, most, once.0), omega (arith, most, once.1, c.loop-n-test.true, c.most_lines-most.ensures), omega (arith, most, once.2)) in
    let f = few in
    let g = c.gathered-b in
    let i = c.loop-n.invariant in
    rw (as_many g.ensures.0) (f.0, omega (arith, f.1, i.4), f.2, omega (arith, f.3, i.1.1))

pub overflow_sub-out-in-loop-n : goal.overflow_sub-out-in-loop-n
overflow_sub-out-in-loop-n c =
    let few : let l = c.loop-n in let count = c.gathered-b.result.count in
    (0 < count) × (count ≤ 32) × (l.n + count ≤ most_lines) × (40 * count ≤ length l.out - l.used) = let most = c.gathered-b.ensures.1 in
    let once = c.at_once.ensures in
    (omega (arith, c.if-b-eq0.false), omega (arith, most, once.0), omega (arith, most, once.1, c.loop-n-test.true, c.most_lines-most.ensures), omega (arith, most, once.2)) in
    let more : let l = c.loop-n in let a = c.args in let g = c.gathered-b.result in
    Stands (passed_to a.line a.reader) a.input.now a.out.now (passed_to (l.n + g.count) c.in-Some.t.next) g.end c.in-Some.t.used c.printed.new.out = let l = c.loop-n in
    let f = few in
    let g = c.gathered-b in
    batch_more g.ensures.0 l.invariant.0 l.invariant.2 f.2 f.3 c.in-Some.ensures in
    (far more).1

pub loop-n-preserved : goal.loop-n-preserved
loop-n-preserved c =
    let few : let l = c.loop-n in let count = c.gathered-b.result.count in
    (0 < count) × (count ≤ 32) × (l.n + count ≤ most_lines) × (40 * count ≤ length l.out - l.used) = let most = c.gathered-b.ensures.1 in
    let once = c.at_once.ensures in
    (omega (arith, c.if-b-eq0.false), omega (arith, most, once.0), omega (arith, most, once.1, c.loop-n-test.true, c.most_lines-most.ensures), omega (arith, most, once.2)) in
    let more : let l = c.loop-n in let a = c.args in let g = c.gathered-b.result in
    Stands (passed_to a.line a.reader) a.input.now a.out.now (passed_to (l.n + g.count) c.in-Some.t.next) g.end c.in-Some.t.used c.printed.new.out = let l = c.loop-n in
    let f = few in
    let g = c.gathered-b in
    batch_more g.ensures.0 l.invariant.0 l.invariant.2 f.2 f.3 c.in-Some.ensures in
    let few_more : c.loop-n.n + c.gathered-b.result.count + c.unread-q.result.count ≤ most_lines = omega (arith, few.2, c.unread-q.ensures.1, c.most_lines-most.ensures) in
    let i = c.loop-n.invariant in
    let some : 0 < c.loop-n.n + c.gathered-b.result.count = omega (arith, few.0) in
    let s = unread_more c.unread-q.result.count more c.unread-q.ensures.0 refl some few_more in
    (s, far s, omega (arith, some), c.gathered-b.auto.words ∙ i.3, c.printed.auto.told ∙ i.4)
