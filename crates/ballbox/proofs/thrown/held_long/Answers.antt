-- `held_long`: what 64 bits do not hold is told before it is added.
use lib.IntN.{pos, ◌+ℤ◌, ◌-ℤ◌}
use lib.Signed.{lt_z}
use mathlib.Core.Bool.{true, false}
use mathlib.Core.Path.{◌≡◌, sym, ◌∙◌}
use mir.Facts.{sfits_lit, to_z-of_z}
use mir.Syntax.{w64}
use mir.Val.{SFits}
use Rattle.numbers.proofs.Held.{between_fits, below_less, above_less, not_over, not_under, room_below, room_above}
use Rattle.numbers.specs.Signed.{least_long, most_long, held, held_long}
use Rattle.ballbox.proofs.thrown.held_long.Goals as goal

pub overflow_sub-b : goal.overflow_sub-b
overflow_sub-b c =
    let minus : lt_z c.args.b (pos 0) ≡ true = rw (to_z-of_z c.ranges.b) at c.if-b-lt0.true in
    let low_room : SFits w64 (least_long -ℤ c.args.b) = record { sfits = room_below _ c.args.b c.ranges.b.sfits minus } in
    rw (to_z-of_z c.ranges.b) low_room

pub returns-then-a-b : goal.returns-then-a-b
unfolding held_long held
returns-then-a-b c =
    let minus : lt_z c.args.b (pos 0) ≡ true = rw (to_z-of_z c.ranges.b) at c.if-b-lt0.true in
    let low_room : SFits w64 (least_long -ℤ c.args.b) = record { sfits = room_below _ c.args.b c.ranges.b.sfits minus } in
    let t = rw (to_z-of_z c.ranges.a, to_z-of_z c.ranges.b, to_z-of_z low_room) at c.if-a-b.true in
    simp (sym (below_less c.args.a c.args.b least_long) ∙ t)

pub overflow_add-result : goal.overflow_add-result
overflow_add-result c =
    let minus : lt_z c.args.b (pos 0) ≡ true = rw (to_z-of_z c.ranges.b) at c.if-b-lt0.true in
    let low_room : SFits w64 (least_long -ℤ c.args.b) = record { sfits = room_below _ c.args.b c.ranges.b.sfits minus } in
    let not_low : lt_z (c.args.a +ℤ c.args.b) least_long ≡ false = sym (below_less c.args.a c.args.b least_long) ∙ rw (to_z-of_z c.ranges.a, to_z-of_z c.ranges.b, to_z-of_z low_room) at c.if-a-b.false in
    let not_above : lt_z most_long (c.args.a +ℤ c.args.b) ≡ false = not_over _ c.args.a c.args.b c.ranges.a.sfits minus in
    let low_sum : SFits w64 (c.args.a +ℤ c.args.b) = between_fits (sfits_lit {z = least_long} tt) (sfits_lit {z = most_long} tt) not_low not_above in
    rw (to_z-of_z c.ranges.a, to_z-of_z c.ranges.b) low_sum

pub returns-then-b-lt0 : goal.returns-then-b-lt0
unfolding held_long held
returns-then-b-lt0 c =
    let minus : lt_z c.args.b (pos 0) ≡ true = rw (to_z-of_z c.ranges.b) at c.if-b-lt0.true in
    let low_room : SFits w64 (least_long -ℤ c.args.b) = record { sfits = room_below _ c.args.b c.ranges.b.sfits minus } in
    let not_low : lt_z (c.args.a +ℤ c.args.b) least_long ≡ false = sym (below_less c.args.a c.args.b least_long) ∙ rw (to_z-of_z c.ranges.a, to_z-of_z c.ranges.b, to_z-of_z low_room) at c.if-a-b.false in
    let not_above : lt_z most_long (c.args.a +ℤ c.args.b) ≡ false = not_over _ c.args.a c.args.b c.ranges.a.sfits minus in
    let low_sum : SFits w64 (c.args.a +ℤ c.args.b) = between_fits (sfits_lit {z = least_long} tt) (sfits_lit {z = most_long} tt) not_low not_above in
    simp (to_z-of_z c.ranges.a, to_z-of_z c.ranges.b, to_z-of_z low_sum, not_low, not_above)

pub overflow_sub-b-2 : goal.overflow_sub-b-2
overflow_sub-b-2 c =
    let plus : lt_z c.args.b (pos 0) ≡ false = rw (to_z-of_z c.ranges.b) at c.if-b-lt0.false in
    let high_room : SFits w64 (most_long -ℤ c.args.b) = record { sfits = room_above _ c.args.b c.ranges.b.sfits plus } in
    rw (to_z-of_z c.ranges.b) high_room

pub returns-then-b-a : goal.returns-then-b-a
unfolding held_long held
returns-then-b-a c =
    let plus : lt_z c.args.b (pos 0) ≡ false = rw (to_z-of_z c.ranges.b) at c.if-b-lt0.false in
    let high_room : SFits w64 (most_long -ℤ c.args.b) = record { sfits = room_above _ c.args.b c.ranges.b.sfits plus } in
    let not_below : lt_z (c.args.a +ℤ c.args.b) least_long ≡ false = not_under _ c.args.a c.args.b c.ranges.a.sfits plus in
    let t = rw (to_z-of_z c.ranges.a, to_z-of_z c.ranges.b, to_z-of_z high_room) at c.if-b-a.true in
    simp (not_below, sym (above_less c.args.a c.args.b most_long) ∙ t)

pub overflow_add-result-2 : goal.overflow_add-result-2
overflow_add-result-2 c =
    let plus : lt_z c.args.b (pos 0) ≡ false = rw (to_z-of_z c.ranges.b) at c.if-b-lt0.false in
    let high_room : SFits w64 (most_long -ℤ c.args.b) = record { sfits = room_above _ c.args.b c.ranges.b.sfits plus } in
    let not_below : lt_z (c.args.a +ℤ c.args.b) least_long ≡ false = not_under _ c.args.a c.args.b c.ranges.a.sfits plus in
    let not_high : lt_z most_long (c.args.a +ℤ c.args.b) ≡ false = sym (above_less c.args.a c.args.b most_long) ∙ rw (to_z-of_z c.ranges.a, to_z-of_z c.ranges.b, to_z-of_z high_room) at c.if-b-a.false in
    let high_sum : SFits w64 (c.args.a +ℤ c.args.b) = between_fits (sfits_lit {z = least_long} tt) (sfits_lit {z = most_long} tt) not_below not_high in
    rw (to_z-of_z c.ranges.a, to_z-of_z c.ranges.b) high_sum

pub returns : goal.returns
unfolding held_long held
returns c =
    let plus : lt_z c.args.b (pos 0) ≡ false = rw (to_z-of_z c.ranges.b) at c.if-b-lt0.false in
    let high_room : SFits w64 (most_long -ℤ c.args.b) = record { sfits = room_above _ c.args.b c.ranges.b.sfits plus } in
    let not_below : lt_z (c.args.a +ℤ c.args.b) least_long ≡ false = not_under _ c.args.a c.args.b c.ranges.a.sfits plus in
    let not_high : lt_z most_long (c.args.a +ℤ c.args.b) ≡ false = sym (above_less c.args.a c.args.b most_long) ∙ rw (to_z-of_z c.ranges.a, to_z-of_z c.ranges.b, to_z-of_z high_room) at c.if-b-a.false in
    let high_sum : SFits w64 (c.args.a +ℤ c.args.b) = between_fits (sfits_lit {z = least_long} tt) (sfits_lit {z = most_long} tt) not_below not_high in
    simp (to_z-of_z c.ranges.a, to_z-of_z c.ranges.b, to_z-of_z high_sum, not_below, not_high)
