-- The refusals in their order, and else the rules.
use Prim.Native.Nat.{ℕ, ◌<◌}
use mathlib.Core.Path.{◌≡◌, refl, sym, ap, ◌∙◌}
use mathlib.Core.Bool.{Bool, true, false, not, cond}
use mathlib.Core.List.Memᴰ.{head as here}
use mathlib.Core.List.Memᴰ.{tail as there}
use native.Mathlib.Omega.{arith}
use lib.Dec.{eqb}
use borrow.Author.Tests.{lt-ltb, le-ltb, eqb-true}
use Rattle.numbers.proofs.Choices.{cases}
use Rattle.numbers.proofs.Tested.{left}
use Rattle.wire.specs.Numbers.{success, bad_state, bad_buttons, accepted, refusal}
use Rattle.ballbox.specs.Box.{Step, refused, due, dormant}
use Rattle.ballbox.specs.Events.{bytes_left, next_byte, sending, on_host, awake, asleep}
use Rattle.ballbox.specs.Good.{good}
use Rattle.ballbox.specs.Promises.{outcome, above_seven, step_of, StepRefusal, StepPromise}
use Rattle.ballbox.specs.declared.BallBox.{BallBox}
use Rattle.ballbox.specs.declared.Event.{Event}
use Rattle.ballbox.specs.declared.Event.TheVariants.{Motion, Buttons, Host, Latch, Send, Period}
use Rattle.ballbox.specs.declared.Stepped.{Stepped}
use Rattle.ballbox.proofs.Single.{says}
use Rattle.ballbox.proofs.Parts.{parts}
use Rattle.ballbox.proofs.Cases.{sending_silence}

-- 6: the old box and no word
pub bad_state_lem : (b : BallBox) (e : Event) (r : Stepped) → StepPromise b e r → good b ≡ false → outcome r ≡ refused bad_state b
unfolding step_of
bad_state_lem b e r s g = rw g at (says b e r s)

-- 3: after 6, dormant or not
pub bad_buttons_lem : (b : BallBox) (n : ℕ) (r : Stepped) → StepPromise b (Buttons n) r → good b ≡ true → 7 < n → outcome r ≡ refused bad_buttons b
unfolding step_of
bad_buttons_lem b n r s g l = rw (g, lt-ltb 7 n l) at (says b (Buttons n) r s)

-- a refused event leaves the box
pub refused_next : (b : BallBox) (e : Event) → good b ≡ true → above_seven e ≡ true → (step_of b e).next ≡ b
unfolding step_of
refused_next b e k p = rw (k, p)

-- else the rules
pub ruled : (b : BallBox) (e : Event) (d : Bool) → good b ≡ true → above_seven e ≡ false → dormant b ≡ d → step_of b e ≡ cond d (asleep b e) (awake b e)
unfolding step_of
ruled b e t g l d = rw (g, l) (ap (λ (t : Bool). cond t (asleep b e) (awake b e)) d)

-- of a box that is not good; and of one with buttons above 7
pub refused_step : (b : BallBox) (e : Event) → good b ≡ false → step_of b e ≡ refused bad_state b
unfolding step_of
refused_step b e g = rw g

pub above_step : (b : BallBox) (e : Event) → good b ≡ true → above_seven e ≡ true → step_of b e ≡ refused bad_buttons b
unfolding step_of
above_step b e g l = rw (g, l)

-- Send of a good box, dormant or not: a dormant one has nothing going
pub send_step : (b : BallBox) → good b ≡ true → step_of b Send ≡ sending b
unfolding asleep awake
send_step b g = go (dormant b) refl
  where
    idle : dormant b ≡ true → bytes_left b ≡ false
    idle d =
        let n = b.going.length in
        le-ltb b.going.sent n (omega (arith, eqb-true n 0 (left (eqb n 0) (not (due b)) (rw d at (parts b g).sleep))))

    go : (t : Bool) → dormant b ≡ t → step_of b Send ≡ sending b
    go true d = ruled b Send true g refl d ∙ sym (sending_silence b (idle d))
    go false d = ruled b Send false g refl d

pub awake_step : (b : BallBox) (e : Event) (r : Stepped) → StepPromise b e r → good b ≡ true → above_seven e ≡ false → dormant b ≡ false → outcome r ≡ awake b e
awake_step b e r s g l d = says b e r s ∙ ruled b e false g l d

pub asleep_step : (b : BallBox) (e : Event) (r : Stepped) → StepPromise b e r → good b ≡ true → above_seven e ≡ false → dormant b ≡ true → outcome r ≡ asleep b e
asleep_step b e r s g l d = says b e r s ∙ ruled b e true g l d

-- no other number is given back, and a refusal leaves the old box and gives no word
sends : (b : BallBox) → (sending b).refusal ≡ success
unfolding sending next_byte
sends b = cases (λ (x : Step). x.refusal ≡ success) (bytes_left b) (λ e. refl) (λ e. refl)

awake_rightly : (b : BallBox) (e : Event) → StepRefusal b (awake b e)
unfolding awake on_host
awake_rightly b (Motion dx dy) = accepted refl
awake_rightly b (Buttons n) = accepted refl
awake_rightly b (Host n) = accepted refl
awake_rightly b Latch = accepted refl
awake_rightly b Send = accepted (sends b)
awake_rightly b Period = accepted refl

asleep_rightly : (b : BallBox) (e : Event) → StepRefusal b (asleep b e)
unfolding asleep
asleep_rightly b (Motion dx dy) = accepted refl
asleep_rightly b (Buttons n) = accepted refl
asleep_rightly b (Host n) = accepted refl
asleep_rightly b Latch = accepted refl
asleep_rightly b Send = accepted refl
asleep_rightly b Period = accepted refl

pub step_rightly : (b : BallBox) (e : Event) → StepRefusal b (step_of b e)
unfolding step_of
step_rightly b e =
    cases (StepRefusal b) (not (good b)) (λ g. refusal (here refl))
    (λ g. cases (StepRefusal b) (above_seven e) (λ l. refusal (there (here refl)))
    (λ l. cases (StepRefusal b) (dormant b) (λ d. asleep_rightly b e) (λ d. awake_rightly b e)))

pub refusals : (b : BallBox) (e : Event) (r : Stepped) → StepPromise b e r → StepRefusal b (outcome r)
refusals b e r s = rw (says b e r s) (step_rightly b e)
