-- `motion`: refused, moved, or dormant.
use borrow.Author.Tests.{not-true, not-false, eq-eqb, ne_eqb}
use mathlib.Core.Bool.{true, false}
use mathlib.Core.Path.{refl, sym, ap, ◌∙◌}
use mir.Syntax.{w16}
use Rattle.numbers.proofs.Machine.{passed}
use Rattle.ballbox.specs.Events.{quietly, on_motion, awake, asleep}
use Rattle.ballbox.specs.Promises.{stepped}
use Rattle.ballbox.specs.declared.BallBox.{BallBox}
use Rattle.ballbox.specs.declared.Event.TheVariants.{Motion}
use Rattle.ballbox.proofs.Refusals.{refused_step, ruled}
use Rattle.ballbox.proofs.BallBox.motion.Goals.{then-self-ne1, else-self-ne1}
use Rattle.ballbox.proofs.BallBox.motion.Goals as goal

pub returns-then-not-good : goal.returns-then-not-good
returns-then-not-good c =
    let b = c.args.self in
    c.refused.ensures ∙ ap stepped (sym (refused_step b (Motion c.args.dx c.args.dy) (sym c.good.ensures ∙ not-true _ c.if-not-good.true-raw)))

pub returns : goal.returns
unfolding awake asleep
returns c =
    let b = c.args.self in
    let g = sym c.good.ensures ∙ not-false _ c.if-not-good.false-raw in
    elim c.if-self-ne1.branch [
      | then-self-ne1 w ↦ (rw w.self-is at c.quietly.ensures) ∙ ap (λ (x : BallBox). stepped (quietly x)) (passed (λ dx dy. on_motion dx dy b) w16 c.ranges.dx c.ranges.dy w.on_motion-self.ensures) ∙
          ap stepped (sym (ruled b (Motion c.args.dx c.args.dy) false g refl (ne_eqb _ _ w.if-self-ne1.true)))
      | else-self-ne1 w ↦ (rw w.self-is at c.quietly.ensures) ∙ ap stepped (sym (ruled b (Motion c.args.dx c.args.dy) true g refl (eq-eqb _ _ w.if-self-ne1.false)))
    ]
