-- The public functions give one answer: two that the promise permits are equal.
use Prim.Native.Nat.{ℕ}
use mathlib.Core.Path.{◌≡◌, sym, ◌∙◌}
use mathlib.Core.Bool.{Bool}
use Rattle.ballbox.specs.declared.Event.{Event}
use Rattle.puck.specs.Promises.{MadePromise, GoodPromise, StepPromise}
use Rattle.puck.specs.declared.Puck.{Puck}
use Rattle.puck.specs.declared.PuckStepped.{PuckStepped}

pub one_made : (buttons revision maker : ℕ) (p q : Puck) → MadePromise buttons revision maker p → MadePromise buttons revision maker q → p ≡ q
one_made buttons revision maker p q h k = h ∙ sym k

pub one_good : (p : Puck) (s t : Bool) → GoodPromise p s → GoodPromise p t → s ≡ t
one_good p s t h k = h ∙ sym k

pub one_step : (p : Puck) (e : Event) (r s : PuckStepped) → StepPromise p e r → StepPromise p e s → r ≡ s
one_step p e r s h k = h ∙ sym k
