-- Before the first line, and behind it.
use Prim.Native.Nat.{◌≤◌}
use mathlib.Core.Path.{◌≡◌, sym, ◌∙◌}
use mathlib.Core.Bool.{true}
use native.Mathlib.Omega.{arith}
use borrow.Author.Tests.{eq-eqb, ne_eqb, le-leb, lt-leb, not-true, not-false}
use Rattle.listing.specs.Scanning.{most_at}
use Rattle.readback.specs.Steps.{width_known, good, has_ended}
use Rattle.readback.proofs.Goodness.{most_known, besides_most}
use Rattle.readback.proofs.Readback.good.Goals as goal

pub returns-then-self-eq0 : goal.returns-then-self-eq0
unfolding good
returns-then-self-eq0 c = rw (eq-eqb _ _ c.if-self-eq0.true)

pub returns-then-not-width_known : goal.returns-then-not-width_known
unfolding good
returns-then-not-width_known c = rw (ne_eqb _ _ c.if-self-eq0.false, sym c.width_known.ensures ∙ not-true _ c.if-not-width_known.true-raw)

pub most-requires : goal.most-requires
most-requires c = sym c.width_known.ensures ∙ not-false _ c.if-not-width_known.false-raw

pub returns-then-self-most : goal.returns-then-self-most
unfolding good
returns-then-self-most c =
    let self = c.args.self in
    let known : width_known self.width ≡ true = sym c.width_known.ensures ∙ not-false _ c.if-not-width_known.false-raw in
    rw (ne_eqb _ _ c.if-self-eq0.false, known, lt-leb self.last (most_at self.width) (rw c.most.ensures at c.if-self-most.true))

pub overflow_add-result : goal.overflow_add-result
overflow_add-result c =
    let self = c.args.self in
    let known : width_known self.width ≡ true = sym c.width_known.ensures ∙ not-false _ c.if-not-width_known.false-raw in
    let few : c.besides-more.result ≤ 2 = rw c.besides-more.ensures (besides_most (has_ended self)) in
    record { fits = omega (arith, c.if-self-most.false, c.most.ensures, most_known self.width known, few) }

pub returns : goal.returns
unfolding good
returns c =
    let self = c.args.self in
    let known : width_known self.width ≡ true = sym c.width_known.ensures ∙ not-false _ c.if-not-width_known.false-raw in
    rw (ne_eqb _ _ c.if-self-eq0.false, known, le-leb self.last (most_at self.width) (rw c.most.ensures at c.if-self-most.false), c.besides-more.ensures)
