-- `buttons`: refused by either number, changed, or dormant.
use borrow.Author.Tests.{not-true, not-false, eq-eqb, ne_eqb, lt-ltb, le-ltb}
use mathlib.Core.Path.{sym, ap, ◌∙◌}
use mathlib.Core.Bool.{true, false}
use Rattle.ballbox.specs.Events.{quietly, awake, asleep}
use Rattle.ballbox.specs.Promises.{stepped}
use Rattle.ballbox.specs.declared.BallBox.{BallBox}
use Rattle.ballbox.specs.declared.Event.TheVariants.{Buttons}
use Rattle.ballbox.proofs.Refusals.{refused_step, above_step, ruled}
use Rattle.ballbox.proofs.BallBox.buttons.Goals.{then-self-ne1, else-self-ne1}
use Rattle.ballbox.proofs.BallBox.buttons.Goals as goal

pub returns-then-not-good : goal.returns-then-not-good
returns-then-not-good c =
    let b = c.args.self in
    c.refused.ensures ∙ ap stepped (sym (refused_step b (Buttons c.args.n) (sym c.good.ensures ∙ not-true _ c.if-not-good.true-raw)))

pub returns-then-n-gt-MOST_BUTTONS : goal.returns-then-n-gt-MOST_BUTTONS
returns-then-n-gt-MOST_BUTTONS c =
    let g = sym c.good.ensures ∙ not-false _ c.if-not-good.false-raw in
    c.refused-then-n-gt-MOST_BUTTONS.ensures ∙ ap stepped (sym (above_step c.args.self (Buttons c.args.n) g (lt-ltb _ _ c.if-n-gt-MOST_BUTTONS.true)))

pub returns : goal.returns
unfolding awake asleep
returns c =
    let b = c.args.self in
    let g = sym c.good.ensures ∙ not-false _ c.if-not-good.false-raw in
    elim c.if-self-ne1.branch [
      | then-self-ne1 w ↦ (rw w.self-is at c.quietly.ensures) ∙ ap (λ (x : BallBox). stepped (quietly x)) w.on_buttons-self.ensures ∙
          ap stepped (sym (ruled b (Buttons c.args.n) false g (le-ltb _ _ c.if-n-gt-MOST_BUTTONS.false) (ne_eqb _ _ w.if-self-ne1.true)))
      | else-self-ne1 w ↦ (rw w.self-is at c.quietly.ensures) ∙ ap stepped (sym (ruled b (Buttons c.args.n) true g (le-ltb _ _ c.if-n-gt-MOST_BUTTONS.false) (eq-eqb _ _ w.if-self-ne1.false)))
    ]
