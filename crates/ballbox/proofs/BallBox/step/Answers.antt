-- `step`: event by event.
use borrow.Author.Rules.{rules}
use mir.Syntax.{w16}
use mir.Val.{SFits}
use Rattle.numbers.proofs.Machine.{passed}
use Rattle.ballbox.specs.Promises.{stepped, step_of}
use Rattle.ballbox.specs.declared.Event.TheVariants.{Motion}
use Rattle.ballbox.proofs.BallBox.step.Goals as goal

pub returns-in-Motion : goal.returns-in-Motion
returns-in-Motion c =
    let x : SFits w16 c.in-Motion.dx = search rules in
    let y : SFits w16 c.in-Motion.dy = search rules in
    let b = c.args.self in
    rw c.in-Motion.is (passed (λ dx dy. stepped (step_of b (Motion dx dy))) w16 x y c.motion.ensures)

pub returns-in-Buttons : goal.returns-in-Buttons
returns-in-Buttons c = rw c.in-Buttons.is c.buttons.ensures

pub returns-in-Host : goal.returns-in-Host
returns-in-Host c = rw c.in-Host.is c.host.ensures

pub returns-in-Latch : goal.returns-in-Latch
returns-in-Latch c = rw c.in-Latch.is c.latch.ensures

pub returns-in-Send : goal.returns-in-Send
returns-in-Send c = rw c.in-Send.is c.send.ensures

pub returns-in-Period : goal.returns-in-Period
returns-in-Period c = rw c.in-Period.is c.period.ensures
