use mathlib.Core.Path.{◌∙◌, ap}
use native.Mathlib.Omega.{arith}
use lib.ListN.{length-drop}
use Rattle.fold.proofs.Parts.{rest_is}
use Rattle.listing.specs.Promises.{listed_in, whole}
use Rattle.listing.specs.declared.Listed as declared
use Rattle.listing.proofs.Feeds.{starts, far, ends_all, more, unchanged, ends_before}
use Rattle.listing.proofs.Lister.bytes.Goals as goal

pub loop-at-init : goal.loop-at-init
loop-at-init c = let a = c.args in
    let s = starts a.self a.input.now a.out.now in (s, far s)

pub part-f-requires : goal.part-f-requires
part-f-requires c = rw (rest_is c.args.input.now c.loop-at.at, length-drop) (omega arith)

pub returns-then-f-eq0 : goal.returns-then-f-eq0
returns-then-f-eq0 c = let l = c.loop-at in
    let b = c.part-f.ensures in
    ap (whole _) (unchanged l.invariant.0 b c.if-f-eq0.true) ∙ ap (λ (r : declared.Listed). whole (listed_in r) l.out) c.answer.ensures ∙ ends_before l.invariant.0 b c.if-f-eq0.true

pub overflow_add-at : goal.overflow_add-at
overflow_add-at c = omega (arith, far (more c.loop-at.invariant.0 c.part-f.ensures), c.well_formed.1.0.1)

pub overflow_add-used : goal.overflow_add-used
overflow_add-used c = omega (arith, far (more c.loop-at.invariant.0 c.part-f.ensures), c.well_formed.1.1.0.1)

pub loop-at-smaller : goal.loop-at-smaller
loop-at-smaller c = omega (arith, far (more c.loop-at.invariant.0 c.part-f.ensures))

pub loop-at-preserved : goal.loop-at-preserved
loop-at-preserved c = let s = more c.loop-at.invariant.0 c.part-f.ensures in (s, far s)

pub returns : goal.returns
returns c = let l = c.loop-at in ap (λ (r : declared.Listed). whole (listed_in r) l.out) c.answer-2.ensures ∙ ends_all l.invariant.0 c.loop-at-test.false
