-- The public functions give one answer: two that the promise permits are equal.
use mathlib.Core.Path.{◌≡◌, sym, ◌∙◌}
use mathlib.Core.Bool.{Bool}
use Rattle.ballbox.specs.Promises.{FreshPromise, GoodPromise, StepPromise}
use Rattle.ballbox.specs.declared.BallBox.{BallBox}
use Rattle.ballbox.specs.declared.Event.{Event}
use Rattle.ballbox.specs.declared.Stepped.{Stepped}

pub one_fresh : (b c : BallBox) → FreshPromise b → FreshPromise c → b ≡ c
one_fresh b c p q = p ∙ sym q

pub one_good : (b : BallBox) (s t : Bool) → GoodPromise b s → GoodPromise b t → s ≡ t
one_good b s t p q = p ∙ sym q

pub one_step : (b : BallBox) (e : Event) (r s : Stepped) → StepPromise b e r → StepPromise b e s → r ≡ s
one_step b e r s p q = p ∙ sym q
