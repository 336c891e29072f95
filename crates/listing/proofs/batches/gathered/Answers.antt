use mathlib.Core.Path.{◌≡◌}
use native.Mathlib.Omega.{arith}
use Rattle.listing.proofs.Several.{none_gathered, one_gathered}
use Rattle.listing.proofs.batches.gathered.Goals as goal

pub loop-count-init : goal.loop-count-init
loop-count-init c = (none_gathered _ _ _, c.requires.0)

pub word_in-requires : goal.word_in-requires
word_in-requires c = c.loop-count.invariant.1

pub overflow_add-end : goal.overflow_add-end
overflow_add-end c =
    let h = c.in-Some.ensures in
    let t = h.1 h.2 in
    omega (arith, h.0, t.0, t.1, c.well_formed.0.1)

pub loop-count-preserved : goal.loop-count-preserved
loop-count-preserved c =
    let h = c.in-Some.ensures in
    let t = h.1 h.2 in
    (one_gathered c.loop-count.invariant.0 c.in-Some.told h (omega (arith, c.loop-count-test.true, c.requires.1)), omega (arith, h.0, t.0, t.1))

pub returns-in_default : goal.returns-in_default
returns-in_default c = let i = c.loop-count.invariant in (i.0, omega (arith, c.loop-count-test.true), i.1)

pub returns-in_default-2 : goal.returns-in_default-2
returns-in_default-2 c = let i = c.loop-count.invariant in (i.0, omega (arith, c.loop-count-test.true), i.1)

pub returns : goal.returns
returns c =
    let all : c.loop-count.count ≡ c.args.most = omega arith in
    let i = c.loop-count.invariant in
    (rw all at i.0, omega arith, i.1)
