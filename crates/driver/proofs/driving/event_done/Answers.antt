-- Obeyed, or refused.
use mathlib.Core.Path.{◌≡◌}
use native.Mathlib.Omega.{arith}
use borrow.Author.Tests.{eq-eqb, ne_eqb}
use Rattle.ballbox.proofs.Single.{says}
use Rattle.ballbox.specs.Promises.{outcome, step_of}
use Rattle.driver.proofs.driving.event_done.Goals as goal

pub returns-then-step-gt0 : goal.returns-then-step-gt0
returns-then-step-gt0 c =
    let a = c.args in
    let is : outcome c.step-step.result ≡ step_of a.ball a.event = says _ _ _ c.step-step.ensures in
    rw (← is, ne_eqb c.step-step.result.refusal 0 (λ e. omega arith))

pub returns : goal.returns
returns c =
    let a = c.args in
    let is : outcome c.step-step.result ≡ step_of a.ball a.event = says _ _ _ c.step-step.ensures in
    rw (← is, eq-eqb c.step-step.result.refusal 0 (omega arith), c.given.ensures)
