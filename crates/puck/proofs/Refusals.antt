-- The refusals in their order, and else the rules.
use Prim.Native.Nat.{ℕ, ◌<◌}
use mathlib.Core.Path.{◌≡◌, refl, ap, ◌∙◌}
use mathlib.Core.Bool.{true, false}
use mathlib.Core.List.Memᴰ.{head as here}
use mathlib.Core.List.Memᴰ.{tail as there}
use mathlib.Core.List.{[], ◌∷◌, Memᴰ}
use lib.Dec.{eqb}
use borrow.Author.Tests.{lt-ltb}
use Rattle.numbers.proofs.Choices.{cases}
use Rattle.wire.specs.Numbers.{bad_state, bad_buttons, accepted, refusal}
use Rattle.ballbox.specs.Box as box
use Rattle.ballbox.specs.Good as boxes
use Rattle.ballbox.specs.Promises as ballbox
use Rattle.ballbox.specs.declared.Event.{Event}
use Rattle.ballbox.specs.declared.Event.TheVariants.{Motion, Buttons, Host, Latch, Send, Period}
use Rattle.ballbox.proofs.Refusals.{step_rightly}
use Rattle.puck.specs.Device.{testing, Step, refused}
use Rattle.puck.specs.Rules.{letter_t, as_box, around, by_box, by_t, test_byte, in_test, out_of_test, rules}
use Rattle.puck.specs.Good.{good}
use Rattle.puck.specs.Promises.{outcome, step_of, StepRefusal, StepPromise}
use Rattle.puck.specs.declared.Puck.{Puck}
use Rattle.puck.specs.declared.PuckStepped.{PuckStepped}
use Rattle.puck.proofs.Parts.{parts}
use Rattle.puck.proofs.Single.{says}

-- 6: the old device and no word
pub bad_state_lem : (p : Puck) (e : Event) (r : PuckStepped) → StepPromise p e r → good p ≡ false → outcome r ≡ refused bad_state p
unfolding step_of
bad_state_lem p e r s g = rw g at (says p e r s)

-- else the rules
pub ruled : (p : Puck) (e : Event) (r : PuckStepped) → StepPromise p e r → good p ≡ true → outcome r ≡ rules p e
unfolding step_of
ruled p e r s g = rw g at (says p e r s)

-- 3: after 6, whether or not a self-test is going
box_refuses : (p : Puck) (n : ℕ) → boxes.good p.ball ≡ true → 7 < n → by_box p (Buttons n) ≡ refused bad_buttons p
unfolding by_box ballbox.step_of
box_refuses p n g l = rw (g, lt-ltb 7 n l)

pub bad_buttons_lem : (p : Puck) (n : ℕ) (r : PuckStepped) → StepPromise p (Buttons n) r → good p ≡ true → 7 < n → outcome r ≡ refused bad_buttons p
unfolding rules in_test out_of_test
bad_buttons_lem p n r s g l =
    let h = box_refuses p n (parts p g).ball l in
    ruled p (Buttons n) r s g ∙ cases (λ (x : Step). x ≡ refused bad_buttons p) (testing p) (λ _. h) (λ _. h)

-- no other number is given back, and a refusal leaves the old device and gives no word
box_rightly : (p : Puck) (e : Event) → StepRefusal p (by_box p e)
unfolding by_box
box_rightly p e = go (step_rightly p.ball (as_box e))
  where
    listed : Memᴰ (ballbox.step_of p.ball (as_box e)) (box.refused bad_state p.ball ∷ box.refused bad_buttons p.ball ∷ []) → StepRefusal p (by_box p e)
    listed (here q) = refusal (here (ap (around p) q))
    listed (there (here q)) = refusal (there (here (ap (around p) q)))
    listed (there (there x)) = elim x [ ]

    go : ballbox.StepRefusal p.ball (ballbox.step_of p.ball (as_box e)) → StepRefusal p (by_box p e)
    go (accepted z) = accepted z
    go (refusal m) = listed m

in_rightly : (p : Puck) (e : Event) → StepRefusal p (in_test p e)
unfolding in_test test_byte
in_rightly p (Motion dx dy) = box_rightly p (Motion dx dy)
in_rightly p (Buttons n) = box_rightly p (Buttons n)
in_rightly p (Host byte) = accepted refl
in_rightly p Latch = box_rightly p Latch
in_rightly p Send = accepted refl
in_rightly p Period = box_rightly p Period

out_rightly : (p : Puck) (e : Event) → StepRefusal p (out_of_test p e)
unfolding out_of_test by_t
out_rightly p (Motion dx dy) = box_rightly p (Motion dx dy)
out_rightly p (Buttons n) = box_rightly p (Buttons n)
out_rightly p (Host byte) = cases (StepRefusal p) (eqb byte letter_t) (λ _. accepted refl) (λ _. box_rightly p (Host byte))
out_rightly p Latch = box_rightly p Latch
out_rightly p Send = box_rightly p Send
out_rightly p Period = box_rightly p Period

rules_rightly : (p : Puck) (e : Event) → StepRefusal p (rules p e)
unfolding rules
rules_rightly p e = cases (StepRefusal p) (testing p) (λ _. in_rightly p e) (λ _. out_rightly p e)

pub refusals : (p : Puck) (e : Event) (r : PuckStepped) → StepPromise p e r → StepRefusal p (outcome r)
unfolding step_of
refusals p e r s = rw (says p e r s) (cases (StepRefusal p) (good p) (λ _. rules_rightly p e) (λ _. refusal (here refl)))
