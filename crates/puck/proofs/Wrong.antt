-- Wrong answers, two or more for each promise, that it does not permit.
use mathlib.Core.Path.{◌≡◌, refl, sym, ap, subst, ◌∙◌}
use mathlib.Core.Bool.{true, false}
use native.Mathlib.Omega.{arith}
use lib.Dec.{T}
use lib.ListN.{length}
use Rattle.wire.specs.Line.{named_by, known}
use Rattle.ballbox.specs.Good as boxes
use Rattle.ballbox.specs.declared.Event.TheVariants.{Host}
use Rattle.puck.specs.Device.{test, with_test, powered_box, powered, made, Step}
use Rattle.puck.specs.Rules.{mode_r}
use Rattle.puck.specs.Good.{follows, rests, good_test, good}
use Rattle.puck.specs.Promises.{outcome, MadePromise, GoodPromise, StepPromise}
use Rattle.puck.specs.declared.Puck.{Puck}
use Rattle.puck.specs.declared.PuckStepped.{PuckStepped}
use Rattle.puck.proofs.Goodness.{made_is_good}
use Rattle.puck.proofs.Sentences.{host_in_test}

-- buttons 9 kept at the making; and a device that has no self-test to send
pub nine_kept : (p : Puck) → MadePromise 9 0 0 p → p.ball.settings.buttons ≡ 9 → ⊥
unfolding powered powered_box
nine_kept p e h = omega (arith, h, ap (λ (q : Puck). q.ball.settings.buttons) e)

pub made_silent : (p : Puck) → MadePromise 0 0 0 p → p.test.left ≡ 0 → ⊥
unfolding powered
made_silent p e h = omega (arith, h, ap (λ (q : Puck). q.test.left) e)

-- a byte of the host's that is obeyed in a self-test; and one that breaks it off
pub obeyed_in_test : (r : PuckStepped) → StepPromise (made 0 0 0) (Host mode_r) r → r.next.ball.settings.mode ≡ mode_r → ⊥
unfolding powered powered_box
obeyed_in_test r s h =
    omega (arith, h, ap (λ (x : Step). x.next.ball.settings.mode) (host_in_test (made 0 0 0) mode_r r s (made_is_good 0 0 0 (made 0 0 0) refl) refl))

pub broken_in_test : (r : PuckStepped) → StepPromise (made 0 0 0) (Host mode_r) r → length (outcome r).words ≡ 1 → ⊥
unfolding powered
broken_in_test r s h =
    omega (arith, h, ap (λ (x : Step). length x.words) (host_in_test (made 0 0 0) mode_r r s (made_is_good 0 0 0 (made 0 0 0) refl) refl))

-- a device when made that is told to be bad; and one with five bytes of a self-test left, told to be good
pub made_bad : GoodPromise (made 0 0 0) false → ⊥
made_bad e = subst T (sym (e ∙ made_is_good 0 0 0 (made 0 0 0) refl)) tt

pub five_left : GoodPromise (with_test (test 5 0) (made 0 0 0)) true → ⊥
unfolding powered powered_box good good_test rests follows boxes.good boxes.good_settings boxes.good_track boxes.good_going boxes.good_memory known named_by
five_left e = subst T e tt
