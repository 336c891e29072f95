use Prim.Native.Nat.{◌≤◌}
use mathlib.Core.Path.{◌≡◌, sym, ◌∙◌}
use lib.ListN.{length}
use native.Mathlib.Nat.{zero-add}
use native.Mathlib.Omega.{arith}
use borrow.Author.Tests.{not-true, not-false}
use Rattle.replies.specs.Fronts.{front_of}
use Rattle.replies.proofs.Fronts.{byte_same, not_its, its_last, its_next, no_more}
use Rattle.replies.proofs.Awaited.over.Goals as goal

pub loop-at-init : goal.loop-at-init
loop-at-init c = (rw (zero-add (front_of c.args.self c.args.words.now).taken), omega arith)

pub returns-then-not-continues : goal.returns-then-not-continues
returns-then-not-continues c = let l = c.loop-at in
    rw c.at_front.ensures (sym (l.invariant.0 ∙ not_its l.awaited c.args.words.now l.at (omega arith) (sym c.continues.ensures ∙ not-true _ c.if-not-continues.true-raw)))

pub returns-then-finishes : goal.returns-then-finishes
returns-then-finishes c = let l = c.loop-at in
    let e = sym c.continues.ensures ∙ not-false _ c.if-not-continues.false-raw in
    rw (c.at_front-then-finishes.ensures, c.told.ensures, c.nothing.ensures, byte_same l.awaited _ e)
    (sym (l.invariant.0 ∙ its_last l.awaited c.args.words.now l.at (omega arith) e (sym c.finishes.ensures ∙ c.if-finishes.true)))

pub loop-at-preserved : goal.loop-at-preserved
loop-at-preserved c = let l = c.loop-at in
    let e = sym c.continues.ensures ∙ not-false _ c.if-not-continues.false-raw in
    (rw (c.more-awaited.ensures, byte_same l.awaited _ e) (l.invariant.0 ∙ its_next l.awaited c.args.words.now l.at (omega arith) e (sym c.finishes.ensures ∙ c.if-finishes.false)), omega arith)

pub returns : goal.returns
returns c = let l = c.loop-at in
    let all : length c.args.words.now ≤ l.at = omega arith in
    let here : length c.args.words.now ≡ l.at = omega (arith, l.invariant.1) in
    rw (c.at_front-2.ensures, here) (sym (l.invariant.0 ∙ no_more l.awaited c.args.words.now l.at all))
