-- What the limit threw away: "Whatever limits a movement shall also give back the excess, with its sign, and whatever holds the counter at 16 bits
-- likewise. The box adds up the two kinds apart, per axis, in 64-bit sums held at the ends of their range, readable after any step. The line words
-- stay as they are."
use Rattle.std.specs.Prelude.{◌≡◌, refl, true, List, [], ◌∷◌, ℕ, ℤ, pos, ◌+ℤ◌}
use Rattle.std.proofs.Common.{◌∙◌}
use Rattle.numbers.specs.Signed.{minus}
use Rattle.wire.specs.Line.{letter_of}
use Rattle.wire.specs.declared.Format.{Format}
use Rattle.wire.specs.declared.Format.TheVariants.{FiveByte, ThreeByte, Relative}
use Rattle.ballbox.specs.Thrown.{excesses, sums}
use Rattle.ballbox.specs.Box.{fresh_box}
use Rattle.ballbox.specs.Motion.{counted, counted_over}
use Rattle.ballbox.specs.Latching.{movement, taken, taken_over}
use Rattle.ballbox.specs.Excesses.{are_long, but_sums}
use Rattle.ballbox.specs.Promises.{FreshPromise}
use Rattle.ballbox.specs.declared.Pair.{Pair}
use Rattle.ballbox.specs.declared.Track.{Track}
use Rattle.ballbox.specs.declared.Sums.{Sums}
use Rattle.ballbox.specs.declared.BallBox.{BallBox}
use Rattle.ballbox.specs.declared.Event.{Event}
use Rattle.ballbox.specs.declared.Event.TheVariants.{Motion, Host, Latch, Send}
use Rattle.ballbox.specs.declared.Stepped.{Stepped}
use Rattle.ballbox.proofs.Throwing as throwing
use Rattle.history.specs.Runs.{RunPromise, words_given}
use Rattle.history.specs.Presses.{box_after, last_box}
use Rattle.history.specs.Sums.{Kind, Axis, excess_of, thrown_in, held_over, never_ends, sum_of}
use Rattle.history.proofs.Presses.{last_box_lem}
use Rattle.history.proofs.Sums as run
use Rattle.demands.specs.Computing.{computing}
use Rattle.demands.specs.Worked.{slots}

-- what is reported and the excess are the movement; what is counted and the excess are the sum
pub limit_whole : (letter : ℕ) (t : Track)
    → ((taken letter t).x +ℤ (taken_over letter t).x ≡ (movement letter t).x) × ((taken letter t).y +ℤ (taken_over letter t).y ≡ (movement letter t).y)
limit_whole = throwing.taken_whole

pub counter_whole : (c : Pair) (dx dy : ℤ)
    → ((counted c dx dy).x +ℤ (counted_over c dx dy).x ≡ c.x +ℤ dx) × ((counted c dx dy).y +ℤ (counted_over c dx dy).y ≡ c.y +ℤ dy)
counter_whole = throwing.counted_whole

-- "The line words stay as they are": over every run, whatever answers are permitted, two boxes that differ in the sums alone give the same words and
-- differ in the sums alone
pub words_stay : (b c : BallBox) (events : List Event) (answers others : List Stepped)
    → but_sums b ≡ but_sums c
    → RunPromise b events answers
    → RunPromise c events others
    → (words_given answers ≡ words_given others) × (but_sums (last_box b answers) ≡ but_sums (last_box c others))
words_stay = run.words_stay

-- each sum is what it was and then the excesses of the run, in their order, held at each addition
pub sums_held : (k : Kind) (a : Axis) (b : BallBox) (events : List Event) (answers : List Stepped)
    → are_long b.sums ≡ true
    → RunPromise b events answers
    → excess_of k a (last_box b answers).sums ≡ held_over (excess_of k a b.sums) (thrown_in k a b events)
sums_held k a b events answers h p = rw (last_box_lem b events answers p) (run.run_sums k a b events h)

-- and while it has not reached an end, the plain sum
pub sums_plain : (k : Kind) (a : Axis) (b : BallBox) (events : List Event) (answers : List Stepped)
    → are_long b.sums ≡ true
    → RunPromise b events answers
    → never_ends (excess_of k a b.sums) (thrown_in k a b events) ≡ true
    → excess_of k a (last_box b answers).sums ≡ excess_of k a b.sums +ℤ sum_of (thrown_in k a b events)
sums_plain k a b events answers h p n = sums_held k a b events answers h p ∙ run.plain_sums (excess_of k a b.sums) (thrown_in k a b events) n

-- the sums of a fresh box, and so of every box that it becomes, are 64-bit numbers: all are 0
pub fresh_long : (b : BallBox) → FreshPromise b → are_long b.sums ≡ true
fresh_long b f = rw (throwing.fresh_sums b f)

-- worked: a fast move in T, 200 to the right and 3000 down, of which a report says 127 and -127
abbrev after : Format → List Event → Sums
after f events = (box_after fresh_box (Host (letter_of f) ∷ events)).sums

pub fast_in_t : after ThreeByte (Motion (pos 200) (minus 3000) ∷ slots 3 []) ≡ sums (excesses (pos 73) (minus 2873)) (excesses (pos 0) (pos 0))
unfolding computing
fast_in_t = refl

-- in B, of which it says 2047 and -2048; the counters are held at both ends before
pub fast_in_b : after Relative (Motion (pos 32767) (minus 32768) ∷ Motion (pos 10) (minus 20) ∷ slots 5 [])
    ≡ sums (excesses (pos 30720) (minus 30720)) (excesses (pos 10) (minus 20))
unfolding computing
fast_in_b = refl

-- in U, the first pair and the second
pub fast_in_u : after FiveByte (Motion (pos 130) (pos 0) ∷ Latch ∷ Motion (minus 200) (pos 0) ∷ Send ∷ Send ∷ Send ∷ Send ∷ Send ∷ [])
    ≡ sums (excesses (minus 70) (pos 0)) (excesses (pos 0) (pos 0))
unfolding computing
fast_in_u = refl
