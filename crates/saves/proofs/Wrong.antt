-- Wrong answers, two for each promise, that it does not permit.
use mathlib.Core.Path.{ap}
use mathlib.Core.List.{[], ◌∷◌}
use native.Mathlib.Omega.{arith}
use lib.IntN.{pos, negsuc}
use Rattle.wire.specs.Reading.{report}
use Rattle.saves.specs.State.{watching, unaware}
use Rattle.saves.specs.Rules.{told}
use Rattle.saves.specs.Promises.{FreshPromise, KnowingPromise, HeardPromise, OverPromise}
use Rattle.saves.specs.declared.Watch.{Watch}
use Rattle.saves.specs.declared.Told.{Told}
use Rattle.saves.specs.declared.Watched.{Watched}
use Rattle.saves.proofs.Computing.{computing}

-- a fresh watch that takes every button for up; and one that takes every button for down
pub fresh_all_up : FreshPromise (watching 0) → ⊥
fresh_all_up e = omega (arith, ap (λ (w : Watch). w.known) e)

pub fresh_all_down : FreshPromise (watching 7) → ⊥
fresh_all_down e = omega (arith, ap (λ (w : Watch). w.known) e)

-- told of M, one that knows nothing; and one that takes M for up
pub knowing_nothing : KnowingPromise 2 unaware → ⊥
knowing_nothing e = omega (arith, ap (λ (w : Watch). w.known) e)

pub knowing_up : KnowingPromise 2 (watching 0) → ⊥
knowing_up e = omega (arith, ap (λ (w : Watch). w.last) e)

-- M held when the recorder is switched on, told as pressed; and M that stays down, told as pressed again
pub heard_held : HeardPromise unaware (report 2 (pos 0) (pos 0)) (told 2 2 0) → ⊥
unfolding computing
heard_held e = omega (arith, ap (λ (t : Told). t.down) e)

pub heard_again : HeardPromise (watching 2) (report 3 (pos 0) (pos 0)) (told 3 3 0) → ⊥
unfolding computing
heard_again e = omega (arith, ap (λ (t : Told). t.down) e)

-- a press that is not told; a release told as a press; and a watch that forgets the report
pub heard_nothing : HeardPromise (watching 0) (report 2 (pos 0) (pos 0)) (told 2 0 0) → ⊥
unfolding computing
heard_nothing e = omega (arith, ap (λ (t : Told). t.down) e)

pub heard_release : HeardPromise (watching 2) (report 0 (pos 0) (pos 0)) (told 0 2 0) → ⊥
unfolding computing
heard_release e = omega (arith, ap (λ (t : Told). t.down) e)

pub heard_forgotten : HeardPromise (watching 0) (report 2 (pos 0) (pos 0)) (told 0 2 0) → ⊥
unfolding computing
heard_forgotten e = omega (arith, ap (λ (t : Told). t.next.last) e)

-- over a tap of M: a press for each report that shows it; and the movement of 2 behind it taken for M
pub over_each : OverPromise (watching 0) (pos 2 ∷ pos 0 ∷ pos 0 ∷ pos 0 ∷ pos 0 ∷ pos 2 ∷ pos 0 ∷ pos 0 ∷ pos 0 ∷ pos 0 ∷ [])
    (record { next = watching 2; left = 0; middle = 2; right = 0 }) → ⊥
unfolding computing
over_each e = omega (arith, ap (λ (a : Watched). a.middle) e)

pub over_movement : OverPromise (watching 0) (pos 0 ∷ pos 2 ∷ pos 0 ∷ pos 2 ∷ pos 0 ∷ []) (record { next = watching 2; left = 0; middle = 1; right = 0 }) → ⊥
unfolding computing
over_movement e = omega (arith, ap (λ (a : Watched). a.middle) e)

-- a number below 0 taken for buttons; and the numbers of a report that is not whole
pub over_below : OverPromise (watching 0) (negsuc 1 ∷ pos 0 ∷ pos 0 ∷ pos 0 ∷ pos 0 ∷ []) (record { next = watching 6; left = 1; middle = 1; right = 0 }) → ⊥
unfolding computing
over_below e = omega (arith, ap (λ (a : Watched). a.left) e)

pub over_part : OverPromise (watching 0) (pos 2 ∷ pos 0 ∷ pos 0 ∷ pos 0 ∷ []) (record { next = watching 2; left = 0; middle = 1; right = 0 }) → ⊥
unfolding computing
over_part e = omega (arith, ap (λ (a : Watched). a.middle) e)
