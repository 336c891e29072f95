-- `by_box`: the box's answer, with the device around it.
use mathlib.Core.Path.{◌∙◌, ap}
use Rattle.ballbox.specs.Promises.{stepped, step_of}
use Rattle.ballbox.specs.declared.Event.{Event}
use Rattle.ballbox.specs.declared.Stepped.{Stepped}
use Rattle.puck.specs.Device.{with_ball}
use Rattle.puck.specs.declared.Puck.{Puck}
use Rattle.puck.specs.declared.PuckStepped.{PuckStepped}
use Rattle.puck.specs.Rules.{by_box}
use Rattle.puck.proofs.Puck.by_box.Goals as goal

-- the device around an answer of the box's
abbrev around : Puck → Stepped → PuckStepped
around p s = record { refusal = s.refusal; sent = s.sent; word = s.word; rest = s.rest; next = with_ball s.next p }

pub returns : goal.returns
unfolding by_box
returns c = let s = c.args.self in
    ap (around s) (c.step-s.ensures ∙ ap (λ (e : Event). stepped (step_of s.ball e)) c.as_box.ensures)
