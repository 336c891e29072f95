-- The sums of a run, and that the words do not heed them.
use mathlib.Core.Path.{◌≡◌, refl, sym, ◌∙◌, ap, ap₂}
use mathlib.Core.Bool.{true, ◌&&◌}
use mathlib.Core.List.{List, [], ◌∷◌, ◌++◌}
use lib.IntN.{ℤ, ◌+ℤ◌, +ℤ_assoc, +ℤ_idr}
use lib.Signed.{lt_z}
use Rattle.numbers.specs.Signed.{least_long, most_long, held_long}
use Rattle.numbers.proofs.Tested.{left, right}
use Rattle.ballbox.specs.Box.{Step}
use Rattle.ballbox.specs.Thrown.{added}
use Rattle.ballbox.specs.Excesses.{added_up, are_long, but_sums, seen}
use Rattle.ballbox.specs.declared.Sums.{Sums}
use Rattle.ballbox.specs.declared.BallBox.{BallBox}
use Rattle.ballbox.specs.declared.Event.{Event}
use Rattle.ballbox.specs.declared.Stepped.{Stepped}
use Rattle.ballbox.proofs.Throwing as throwing
use Rattle.history.specs.Runs.{RunPromise, words_given}
use Rattle.history.specs.History.{next_box}
use Rattle.history.specs.Presses.{box_after, last_box}
use Rattle.history.specs.Sums.{Kind, over_limit, over_counter, Axis, x_axis, y_axis, excess_of, thrown_in, held_over, never_ends, sum_of}

-- each of the four sums takes its own excess
pub added_each : (k : Kind) (a : Axis) (s t : Sums) → excess_of k a (added_up s t) ≡ held_long (excess_of k a s) (excess_of k a t)
unfolding added
added_each over_limit x_axis s t = refl
added_each over_limit y_axis s t = refl
added_each over_counter x_axis s t = refl
added_each over_counter y_axis s t = refl

pub run_sums : (k : Kind) (a : Axis) (b : BallBox) (events : List Event) → are_long b.sums ≡ true
    → excess_of k a (box_after b events).sums ≡ held_over (excess_of k a b.sums) (thrown_in k a b events)
unfolding box_after thrown_in held_over
run_sums k a b [] h = refl
run_sums k a b (e ∷ events) h =
    run_sums k a (next_box b e) events (throwing.stepped_long b h e)
    ∙ ap (λ (s : ℤ). held_over s (thrown_in k a (next_box b e) events)) (ap (excess_of k a) (throwing.stepped_sums b h e) ∙ added_each k a b.sums _)

-- while none has reached an end they are plain
pub plain_sums : (s : ℤ) (xs : List ℤ) → never_ends s xs ≡ true → held_over s xs ≡ s +ℤ sum_of xs
unfolding held_over never_ends sum_of
plain_sums s [] n = sym (+ℤ_idr s)
plain_sums s (x ∷ xs) n =
    let t = held_long s x in
    let inside = lt_z least_long t && lt_z t most_long in
    plain_sums t xs (right inside (never_ends t xs) n)
    ∙ (ap (λ (z : ℤ). z +ℤ sum_of xs) (throwing.sum_plain s x (left inside (never_ends t xs) n)) ∙ +ℤ_assoc s x (sum_of xs))

-- boxes that differ in the sums alone give the same words and differ in the sums alone
pub words_stay : (b c : BallBox) (events : List Event) (answers others : List Stepped) → but_sums b ≡ but_sums c → RunPromise b events answers → RunPromise c events others
    → (words_given answers ≡ words_given others) × (but_sums (last_box b answers) ≡ but_sums (last_box c others))
unfolding RunPromise last_box seen
words_stay b c [] [] [] same p q = (refl, same)
words_stay b c [] [] (o ∷ others) same p q = absurd q
words_stay b c [] (a ∷ answers) others same p q = absurd p
words_stay b c (e ∷ events) [] others same p q = absurd p
words_stay b c (e ∷ events) (a ∷ answers) [] same p q = absurd q
words_stay b c (e ∷ events) (a ∷ answers) (o ∷ others) same p q =
    let now = throwing.words_stay b c e a o same p.0 q.0 in
    let rest = words_stay a.next o.next events answers others (ap (λ (x : Step). x.next) now) p.1 q.1 in
    (ap₂ ◌++◌ (ap (λ (x : Step). x.words) now) rest.0, rest.1)
