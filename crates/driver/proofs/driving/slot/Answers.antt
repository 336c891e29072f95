-- A Latch, and then a Send.
use mathlib.Core.Path.{◌∙◌, ap}
use Rattle.ballbox.specs.Promises.{step_of}
use Rattle.ballbox.specs.declared.Event.TheVariants.{Send}
use Rattle.ballbox.specs.declared.Stepped.{Stepped}
use Rattle.ballbox.proofs.Single.{says}
use Rattle.driver.proofs.driving.slot.Goals as goal

pub returns : goal.returns
returns c = says _ Send _ c.step.ensures ∙ ap (λ (s : Stepped). step_of s.next Send) c.step-latched.ensures
