-- The whole account of a move, "for B, S, T, U, V and W, per axis, over every sequence of events from a fresh box": every count that the ball made is in a
-- report, in the box, or in a loss that has a name.
use Rattle.std.specs.Prelude.{◌≡◌, refl, true, false, List, [], ◌∷◌, ℤ, pos, ◌+ℤ◌}
use Rattle.std.proofs.Common.{◌∙◌, ap}
use Rattle.std.proofs.Math.IntN.{+ℤ_idl}
use Rattle.numbers.specs.Signed.{minus}
use Rattle.frames.specs.Passages.{nothing}
use Rattle.wire.specs.Line.{letter_of}
use Rattle.wire.specs.declared.Format.TheVariants.{Microsoft, Absolute, ThreeByte}
use Rattle.ballbox.specs.Box.{fresh_box, mode_o}
use Rattle.ballbox.specs.Promises.{FreshPromise}
use Rattle.ballbox.specs.declared.BallBox.{BallBox}
use Rattle.ballbox.specs.declared.Event.{Event}
use Rattle.ballbox.specs.declared.Event.TheVariants.{Motion, Host, Latch}
use Rattle.ballbox.specs.declared.Stepped.{Stepped}
use Rattle.ballbox.proofs.Throwing.{fresh_sums}
use Rattle.history.specs.Runs.{RunPromise}
use Rattle.history.specs.History.{passages_of, going_after}
use Rattle.history.specs.Presses.{box_after, last_box}
use Rattle.history.specs.Sums.{Kind, over_limit, over_counter, Axis, x_axis, y_axis, excess_of, thrown_in, never_ends, sum_of}
use Rattle.history.specs.Account.{over, fed_by, in_finished, in_going, in_counter, in_broken, cleared_by, never_a}
use Rattle.history.proofs.Presses.{last_box_lem}
use Rattle.history.proofs.Account as account_of
use Rattle.demands.specs.Computing.{computing}
use Rattle.demands.specs.Worked.{slots}
use Rattle.demands.specs.Excess.{sums_plain, fresh_long}

-- a fresh box has nothing going and nothing counted, and is set to U
fresh_standing : account_of.Standing fresh_box nothing
unfolding computing
fresh_standing = record { good = refl; carries = refl; relative = refl; unpaired = tt }

fresh_counter : (a : Axis) → in_counter a fresh_box ≡ pos 0
unfolding fresh_box
fresh_counter x_axis = refl
fresh_counter y_axis = refl

-- "The motion fed while awake equals: values in finished reports, plus what is latched in the report now going, plus the counter, plus excess over the report
-- limit, plus excess over the 16-bit counter, plus what was latched in broken-off reports, plus counters cleared by format commands."
pub account : (a : Axis) (b : BallBox) (events : List Event) (answers : List Stepped)
    → FreshPromise b
    → RunPromise b events answers
    → never_a b events ≡ true
    → over (fed_by a) b events
    ≡ in_finished a (passages_of b nothing events)
    +ℤ (in_going a (going_after b nothing events)
    +ℤ (in_counter a (last_box b answers)
    +ℤ (sum_of (thrown_in over_limit a b events)
    +ℤ (sum_of (thrown_in over_counter a b events)
    +ℤ (in_broken a (passages_of b nothing events)
    +ℤ over (cleared_by a) b events)))))
account a b events answers fresh p n =
    rw (last_box_lem b events answers p)
    (account_of.account a b events (rw fresh fresh_standing) (ap (in_counter a) fresh ∙ fresh_counter a) n)

-- "While neither held sum of §6 has reached an end, those sums equal the two excesses."
pub sums_are_excesses : (k : Kind) (a : Axis) (b : BallBox) (events : List Event) (answers : List Stepped)
    → FreshPromise b
    → RunPromise b events answers
    → never_ends (pos 0) (thrown_in k a b events) ≡ true
    → excess_of k a (last_box b answers).sums ≡ sum_of (thrown_in k a b events)
sums_are_excesses k a b events answers fresh p n =
    let zero : excess_of k a b.sums ≡ pos 0 = ap (excess_of k a) (fresh_sums b fresh) ∙ account_of.none_along k a in
    sums_plain k a b events answers (fresh_long b fresh) p (rw zero n) ∙ rw zero (+ℤ_idl (sum_of (thrown_in k a b events)))

-- Worked: a run from a fresh box in which none of the seven is 0. A move of 300 in U, of which its report says 127; the counter at its end, and 5 more; T
-- clears it; 10 latched and broken off; 20 latched, and 3 counted.
abbrev all_seven : List Event
all_seven =
    Motion (pos 300) (pos 0)
    ∷ slots 5 (Motion (pos 32767) (pos 0) ∷ Motion (pos 5) (pos 0) ∷ Host (letter_of ThreeByte)
    ∷ Motion (pos 10) (pos 0) ∷ Latch ∷ Host mode_o
    ∷ Motion (pos 20) (pos 0) ∷ Latch ∷ Motion (pos 3) (pos 0) ∷ [])

-- what each part comes to
pub record Comes (a : Axis) (events : List Event) (fed finished going counter limit sixteen broken cleared : ℤ) : Type 0 where
  pub is_fed : over (fed_by a) fresh_box events ≡ fed
  pub in_finished_lem : in_finished a (passages_of fresh_box nothing events) ≡ finished
  pub in_going_lem : in_going a (going_after fresh_box nothing events) ≡ going
  pub in_counter_lem : in_counter a (box_after fresh_box events) ≡ counter
  pub over_the_limit : sum_of (thrown_in over_limit a fresh_box events) ≡ limit
  pub over_sixteen : sum_of (thrown_in over_counter a fresh_box events) ≡ sixteen
  pub in_broken_lem : in_broken a (passages_of fresh_box nothing events) ≡ broken
  pub by_formats : over (cleared_by a) fresh_box events ≡ cleared

pub seven_parts : (Comes x_axis all_seven (pos 33105) (pos 127) (pos 20) (pos 3) (pos 173) (pos 5) (pos 10) (pos 32767)) × (never_a fresh_box all_seven ≡ true)
unfolding computing
seven_parts = (
  record {
    is_fed = refl;
    in_finished_lem = refl;
    in_going_lem = refl;
    in_counter_lem = refl;
    over_the_limit = refl;
    over_sixteen = refl;
    in_broken_lem = refl;
    by_formats = refl;
  },
  refl,
)

-- and one that selects A, whose reports say positions: 8 were fed, and the reports say 5 and then 8
abbrev with_a : List Event
with_a = Host (letter_of Absolute) ∷ Motion (pos 5) (pos 0) ∷ slots 5 (Motion (pos 3) (pos 0) ∷ slots 5 [])

pub not_in_a : (Comes x_axis with_a (pos 8) (pos 13) (pos 0) (pos 0) (pos 0) (pos 0) (pos 0) (pos 0)) × (never_a fresh_box with_a ≡ false)
unfolding computing
not_in_a = (
  record {
    is_fed = refl;
    in_finished_lem = refl;
    in_going_lem = refl;
    in_counter_lem = refl;
    over_the_limit = refl;
    over_sixteen = refl;
    in_broken_lem = refl;
    by_formats = refl;
  },
  refl,
)

-- The same downwards, in V, whose wire turns y over: 300 to the south, of which its report says 127; the counter at its
-- end, and 5 more; T clears it; 10 latched and broken off; 20 latched, and 3 counted.
abbrev seven_down : List Event
seven_down =
    Host (letter_of Microsoft)
    ∷ Motion (pos 0) (minus 300)
    ∷ slots 3 (Motion (pos 0) (minus 32768) ∷ Motion (pos 0) (minus 5) ∷ Host (letter_of ThreeByte)
    ∷ Motion (pos 0) (minus 10) ∷ Latch ∷ Host mode_o
    ∷ Motion (pos 0) (minus 20) ∷ Latch ∷ Motion (pos 0) (minus 3) ∷ [])

pub seven_parts_down : (Comes y_axis seven_down (minus 33106) (minus 127) (minus 20) (minus 3) (minus 173) (minus 5) (minus 10) (minus 32768))
    × (never_a fresh_box seven_down ≡ true)
unfolding computing
seven_parts_down = (
  record {
    is_fed = refl;
    in_finished_lem = refl;
    in_going_lem = refl;
    in_counter_lem = refl;
    over_the_limit = refl;
    over_sixteen = refl;
    in_broken_lem = refl;
    by_formats = refl;
  },
  refl,
)

-- U with its second pair: 5 in the first, and in the second -127 of -200 and 127 of 150; then a report that is going,
-- 9, -9 and 4, -6, and 1, 2 counted.
abbrev second_pairs : List Event
second_pairs =
    Motion (pos 5) (pos 0) ∷ slots 3 (Motion (minus 200) (pos 150)
    ∷ slots 2 (Motion (pos 9) (minus 9) ∷ slots 3 (Motion (pos 4) (minus 6)
    ∷ slots 1 (Motion (pos 1) (pos 2) ∷ []))))

pub second_pairs_lem : (Comes x_axis second_pairs (minus 181) (minus 122) (pos 13) (pos 1) (minus 73) (pos 0) (pos 0) (pos 0))
    × (Comes y_axis second_pairs (pos 137) (pos 127) (minus 15) (pos 2) (pos 23) (pos 0) (pos 0) (pos 0))
unfolding computing
second_pairs_lem = (
  record {
    is_fed = refl;
    in_finished_lem = refl;
    in_going_lem = refl;
    in_counter_lem = refl;
    over_the_limit = refl;
    over_sixteen = refl;
    in_broken_lem = refl;
    by_formats = refl;
  },
  record {
    is_fed = refl;
    in_finished_lem = refl;
    in_going_lem = refl;
    in_counter_lem = refl;
    over_the_limit = refl;
    over_sixteen = refl;
    in_broken_lem = refl;
    by_formats = refl;
  },
)
