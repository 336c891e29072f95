-- `send`: refused, or the next byte or a silence.
use borrow.Author.Tests.{not-true, not-false}
use mathlib.Core.Path.{sym, ap, ◌∙◌}
use Rattle.ballbox.specs.Promises.{stepped}
use Rattle.ballbox.specs.declared.Event.TheVariants.{Send}
use Rattle.ballbox.proofs.Parts.{good_length}
use Rattle.ballbox.proofs.Refusals.{refused_step, send_step}
use Rattle.ballbox.proofs.BallBox.send.Goals as goal

pub returns-then-not-good : goal.returns-then-not-good
returns-then-not-good c =
    let b = c.args.self in
    c.refused.ensures ∙ ap stepped (sym (refused_step b Send (sym c.good.ensures ∙ not-true _ c.if-not-good.true-raw)))

pub sending-requires : goal.sending-requires
sending-requires c = good_length _ (sym c.good.ensures ∙ not-false _ c.if-not-good.false-raw)

pub returns : goal.returns
returns c =
    let b = c.args.self in
    c.sending.ensures ∙ ap stepped (sym (send_step b (sym c.good.ensures ∙ not-false _ c.if-not-good.false-raw)))
