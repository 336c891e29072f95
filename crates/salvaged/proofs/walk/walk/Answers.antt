use borrow.Author.Rules.{rules}
use mathlib.Core.Path.{◌≡◌, refl, ap, ◌∙◌}
use native.Mathlib.Omega.{arith}
use lib.ListN.{length}
use Rattle.salvaged.specs.declared.Step.{Step}
use Rattle.salvaged.proofs.Walking.{begins, goes_on, all_printed}
use Rattle.salvaged.proofs.walk.walk.Goals as goal

pub loop-s-init : goal.loop-s-init
loop-s-init c = rw c.reached-s.ensures (begins, refl)

pub step-s-requires : goal.step-s-requires
step-s-requires c =
    let w = c.loop-s.invariant.0 in
    (c.requires, record { in_words = c.loop-s-test.true; small = w.small })

pub loop-s-smaller : goal.loop-s-smaller
loop-s-smaller c = let t = c.step-s.ensures in omega (arith, t.further, t.within)

pub loop-s-preserved : goal.loop-s-preserved
loop-s-preserved c =
    let l = c.loop-s in
    let same : length c.step-s.new.out ≡ length l.out = search rules in
    (goes_on l.invariant.0 c.step-s.ensures, same ∙ l.invariant.1)

pub left_out-requires : goal.left_out-requires
left_out-requires c =
    let w = c.loop-s.invariant.0 in
    (w.small, omega (arith, w.within, c.requires.few))

pub returns : goal.returns
returns c =
    let l = c.loop-s in
    let told = ap (λ (s : Step). s.told) c.reached-s.ensures in
    rw told at (all_printed l.invariant.0 c.loop-s-test.false c.left_out.ensures)
