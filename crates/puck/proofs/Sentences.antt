-- The rules as sentences: what T does, what host bytes do in a self-test, and what those do that are no command.
use Prim.Native.Nat.{ℕ}
use mathlib.Core.Path.{◌≡◌, refl, ap, ◌∙◌}
use mathlib.Core.Bool.{true, false}
use mathlib.Core.List.{[]}
use lib.Dec.{eqb}
use Rattle.wire.specs.Line.{known, named_by}
use Rattle.ballbox.specs.Commands.{command_of, obeyed}
use Rattle.ballbox.specs.Events.{broken_off, dropped, on_host, awake}
use Rattle.ballbox.specs.declared.Event.TheVariants.{Host}
use Rattle.ballbox.proofs.Refusals as boxes
use Rattle.puck.specs.Device.{testing, with_ball, powered}
use Rattle.puck.specs.Rules.{gives, letter_t, is_boxes, no_command, around, by_box, by_t, in_test, out_of_test, rules}
use Rattle.puck.specs.Good.{good}
use Rattle.puck.specs.Promises.{outcome, StepPromise}
use Rattle.puck.specs.declared.Puck.{Puck}
use Rattle.puck.specs.declared.PuckStepped.{PuckStepped}
use Rattle.puck.proofs.Parts.{parts}
use Rattle.puck.proofs.Refusals.{ruled}

module _ (p : Puck) (byte : ℕ) (r : PuckStepped) (s : StepPromise p (Host byte) r) (g : good p ≡ true) where
  -- "Until its last byte has gone host bytes do nothing."
  pub host_in_test : testing p ≡ true → outcome r ≡ gives [] p
  unfolding rules in_test
  host_in_test t = ruled p (Host byte) r s g ∙ rw t

  -- T "clear[s] all but the buttons and start[s] a self-test"
  pub by_t_lem : testing p ≡ false → eqb byte letter_t ≡ true → outcome r ≡ gives (broken_off p.ball) (powered p.ball.settings.buttons p.revision p.maker)
  unfolding rules out_of_test by_t
  by_t_lem t e = ruled p (Host byte) r s g ∙ rw (t, e)

  -- "The mouse ignores invalid commands", though they too break off
  box_ignores : by_box p (Host no_command) ≡ gives (broken_off p.ball) (with_ball (dropped p.ball) p)
  unfolding by_box awake on_host command_of obeyed known named_by
  box_ignores = let k = parts p g in ap (around p) (boxes.ruled p.ball (Host no_command) false k.ball refl k.follows.awake)

  pub other_bytes : testing p ≡ false → eqb byte letter_t ≡ false → is_boxes byte ≡ false → outcome r ≡ gives (broken_off p.ball) (with_ball (dropped p.ball) p)
  unfolding rules out_of_test by_box
  other_bytes t e n = rw (t, e, n) at (ruled p (Host byte) r s g) ∙ box_ignores
