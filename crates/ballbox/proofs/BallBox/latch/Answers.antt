-- `latch`: refused, latching, or dormant.
use borrow.Author.Tests.{not-true, not-false, eq-eqb, ne_eqb}
use mathlib.Core.Path.{refl, sym, ap, ◌∙◌}
use mathlib.Core.Bool.{true, false}
use Rattle.ballbox.specs.Events.{quietly, awake, asleep}
use Rattle.ballbox.specs.Promises.{stepped}
use Rattle.ballbox.specs.declared.BallBox.{BallBox}
use Rattle.ballbox.specs.declared.Event.TheVariants.{Latch}
use Rattle.ballbox.proofs.Parts.{good_shown}
use Rattle.ballbox.proofs.Refusals.{refused_step, ruled}
use Rattle.ballbox.proofs.BallBox.latch.Goals.{then-self-ne1, else-self-ne1}
use Rattle.ballbox.proofs.BallBox.latch.Goals as goal

pub returns-then-not-good : goal.returns-then-not-good
returns-then-not-good c =
    let b = c.args.self in
    c.refused.ensures ∙ ap stepped (sym (refused_step b Latch (sym c.good.ensures ∙ not-true _ c.if-not-good.true-raw)))

pub latching-self-requires : goal.latching-self-requires
latching-self-requires c = good_shown _ (sym c.good.ensures ∙ not-false _ c.if-not-good.false-raw)

pub returns : goal.returns
unfolding awake asleep
returns c =
    let b = c.args.self in
    let g = sym c.good.ensures ∙ not-false _ c.if-not-good.false-raw in
    elim c.if-self-ne1.branch [
      | then-self-ne1 w ↦ (rw w.self-is at c.quietly.ensures) ∙ ap (λ (x : BallBox). stepped (quietly x)) w.latching-self.ensures ∙
          ap stepped (sym (ruled b Latch false g refl (ne_eqb _ _ w.if-self-ne1.true)))
      | else-self-ne1 w ↦ (rw w.self-is at c.quietly.ensures) ∙ ap stepped (sym (ruled b Latch true g refl (eq-eqb _ _ w.if-self-ne1.false)))
    ]
