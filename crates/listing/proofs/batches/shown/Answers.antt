use Prim.Native.Nat.{ℕ, suc, ◌+◌, ◌-◌}
use mathlib.Core.Path.{◌≡◌, refl, subst}
use native.Mathlib.Omega.{arith}
use lib.ListN.{length}
use Rattle.text.specs.Growth.{slice, filled_by}
use Rattle.listing.specs.Scanning.{width}
use Rattle.listing.specs.Printing.{all_bytes}
use Rattle.listing.specs.Batches.{items_over}
use Rattle.listing.proofs.Telling.{Left, left_first, left_more, left_last, next_few}
use Rattle.listing.proofs.batches.shown.Goals as goal

pub loop-n-init : goal.loop-n-init
loop-n-init c = let a = c.args in
    let z : length a.words.now ≡ a.line + length a.words.now - a.line = omega arith in (
      (λ r t e. subst (λ (f : ℕ). Left f a.told.now a.line 0 (a.line + length a.words.now - a.line) (slice a.out.now a.at) (filled_by (slice a.out.now a.at) (all_bytes width (items_over r a.line a.words.now)))) e (rw z at (left_first a.line (slice a.out.now a.at) t))),
      c.stamp_of-stamp.ensures,
      omega arith,
      omega arith,
    )

pub next-stamp-requires : goal.next-stamp-requires
next-stamp-requires c = let l = c.loop-n in
    let z : l.n + 1 - 1 ≡ l.n = omega arith in
    (omega arith, rw z l.invariant.1)

pub answer_to-used-requires : goal.answer_to-used-requires
answer_to-used-requires c = let i = c.loop-n.invariant in
    let p = c.requires in
    (omega (arith, i.3, p.3, c.loop-n-test.true), omega (arith, i.2, p.1, c.loop-n-test.true))

pub next_at-from-requires : goal.next_at-from-requires
next_at-from-requires c = omega (arith, c.loop-n.invariant.2, c.requires.1, c.loop-n-test.true)

pub loop-n-preserved : goal.loop-n-preserved
loop-n-preserved c =
    let l = c.loop-n in
    let a = c.args in
    let t = c.loop-n-test.true in
    let p = c.answer_to-used in
    let s = c.next-stamp.ensures in
    let one : a.line + length a.words.now - l.n ≡ suc (a.line + length a.words.now - (l.n + 1)) = omega arith in (
      (λ r told e. rw c.next_at-from.ensures (left_more (rw one at (l.invariant.0 r told e)) _ (p.ensures.0 (l.n + 1) s (omega (arith, t, c.requires.2))))),
      s,
      rw c.next_at-from.ensures (omega (arith, next_few a.told.now l.from, l.invariant.2)),
      omega (arith, p.ensures.1, l.invariant.3),
    )

pub returns : goal.returns
returns c = let l = c.loop-n in
    left_last (l.invariant.0 c.args.reader c.requires.0 refl) (omega (arith, c.loop-n-test.false))
