-- `host`: refused, woken, or the byte is obeyed.
use borrow.Author.Tests.{not-true, not-false, eq-eqb, ne_eqb}
use mathlib.Core.Path.{refl, sym, ap, ◌∙◌}
use mathlib.Core.Bool.{true, false}
use Rattle.ballbox.specs.Events.{quietly, awake, asleep}
use Rattle.ballbox.specs.Promises.{stepped}
use Rattle.ballbox.specs.declared.BallBox.{BallBox}
use Rattle.ballbox.specs.declared.Event.TheVariants.{Host}
use Rattle.ballbox.proofs.Refusals.{refused_step, ruled}
use Rattle.ballbox.proofs.BallBox.host.Goals as goal

pub returns-then-not-good : goal.returns-then-not-good
returns-then-not-good c =
    let b = c.args.self in
    c.refused.ensures ∙ ap stepped (sym (refused_step b (Host c.args.byte) (sym c.good.ensures ∙ not-true _ c.if-not-good.true-raw)))

pub returns-then-self-eq1 : goal.returns-then-self-eq1
unfolding asleep
returns-then-self-eq1 c =
    let g = sym c.good.ensures ∙ not-false _ c.if-not-good.false-raw in
    c.quietly.ensures ∙ ap (λ (x : BallBox). stepped (quietly x)) c.woken-self.ensures ∙
    ap stepped (sym (ruled c.args.self (Host c.args.byte) true g refl (eq-eqb _ _ c.if-self-eq1.true)))

pub returns : goal.returns
unfolding awake
returns c =
    let g = sym c.good.ensures ∙ not-false _ c.if-not-good.false-raw in
    c.on_host.ensures ∙ ap stepped (sym (ruled c.args.self (Host c.args.byte) false g refl (ne_eqb _ _ c.if-self-eq1.false)))
