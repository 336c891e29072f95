-- The dormant box.
use Prim.Native.Nat.{ℕ}
use mathlib.Core.Path.{◌≡◌, refl}
use mathlib.Core.Bool.{true, false}
use mathlib.Core.List.{[], ◌∷◌}
use lib.Dec.{ltb}
use lib.IntN.{ℤ}
use Rattle.frames.specs.Words.{silence}
use Rattle.ballbox.specs.Box.{going_from, with_going, with_dormant, dormant}
use Rattle.ballbox.specs.Commands.{ack}
use Rattle.ballbox.specs.Events.{gives, quietly, woken, asleep}
use Rattle.ballbox.specs.Good.{good}
use Rattle.ballbox.specs.Promises.{outcome, StepPromise}
use Rattle.ballbox.specs.declared.BallBox.{BallBox}
use Rattle.ballbox.specs.declared.Event.TheVariants.{Motion, Buttons, Host, Latch, Send, Period}
use Rattle.ballbox.specs.declared.Stepped.{Stepped}
use Rattle.ballbox.proofs.Refusals.{asleep_step}

module _ (b : BallBox) (r : Stepped) (g : good b ≡ true) (d : dormant b ≡ true) where
  -- "Dormant: Motion, Buttons and Period do nothing" and Send "gives 257"; "Dormant, Latch does nothing."
  pub asleep_motion : (dx dy : ℤ) → StepPromise b (Motion dx dy) r → outcome r ≡ quietly b
  unfolding asleep
  asleep_motion dx dy s = asleep_step b (Motion dx dy) r s g refl d

  pub asleep_buttons : (n : ℕ) → ltb 7 n ≡ false → StepPromise b (Buttons n) r → outcome r ≡ quietly b
  unfolding asleep
  asleep_buttons n l s = asleep_step b (Buttons n) r s g l d

  pub asleep_period : StepPromise b Period r → outcome r ≡ quietly b
  unfolding asleep
  asleep_period s = asleep_step b Period r s g refl d

  pub asleep_latch : StepPromise b Latch r → outcome r ≡ quietly b
  unfolding asleep
  asleep_latch s = asleep_step b Latch r s g refl d

  pub asleep_send : StepPromise b Send r → outcome r ≡ gives (silence ∷ []) b
  unfolding asleep
  asleep_send s = asleep_step b Send r s g refl d

  -- "the box wakes, the byte is not interpreted, ACK (06H) is to be sent", whatever the byte
  pub host_wakes : (n : ℕ) → StepPromise b (Host n) r → outcome r ≡ quietly (with_going (going_from ack) (with_dormant false b))
  unfolding asleep woken
  host_wakes n s = asleep_step b (Host n) r s g refl d
