-- The whole account of a move, of a device, per axis, over every sequence of events from its making: every count that
-- the ball made is in a report, in the device, or in a loss that has a name.
use Rattle.std.specs.Prelude.{ℕ, ◌≡◌, refl, true, List, [], ◌∷◌, ℤ, pos, ◌+ℤ◌}
use Rattle.std.proofs.Common.{◌∙◌}
use Rattle.std.proofs.Math.IntN.{+ℤ_idl}
use Rattle.numbers.specs.Signed.{minus}
use Rattle.ballbox.specs.Commands.{letter_p}
use Rattle.ballbox.specs.declared.Event.{Event}
use Rattle.ballbox.specs.declared.Event.TheVariants.{Motion, Host, Latch, Send}
use Rattle.history.specs.Sums.{Kind, over_limit, over_counter, Axis, x_axis, y_axis, excess_of, held_over, never_ends, sum_of}
use Rattle.history.proofs.Sums.{plain_sums}
use Rattle.puck.specs.Device.{made}
use Rattle.puck.specs.Rules.{letter_t, no_command}
use Rattle.puck.specs.declared.Puck.{Puck}
use Rattle.puck.specs.declared.PuckStepped.{PuckStepped}
use Rattle.puckhistory.specs.Runs.{last_puck, puck_after}
use Rattle.puckhistory.specs.History.{passages_of, going_after, at_power_up}
use Rattle.puckhistory.specs.Account.{over, fed_by, in_finished, in_going, in_counter, excess_by, in_broken, cleared_by, thrown_since}
use Rattle.puckhistory.proofs.Account as account_of
use Rattle.puckhistory.proofs.Account.{last_puck_lem}
use Rattle.puckdemands.specs.Computing.{computing}
use Rattle.puckdemands.specs.Demand3.{Run, sent, still_going}

module _ {buttons revision maker : ℕ} {p : Puck} {events : List Event} {answers : List PuckStepped} (run : Run buttons revision maker p events answers) where
  -- "The motion fed while awake equals: values in finished reports, plus what is latched in the report now going, plus
  -- the counter, plus excess over the report limit, plus excess over the 16-bit counter, plus what was latched in
  -- broken-off reports, plus counters cleared by" T
  pub account : (a : Axis)
      → over (fed_by a) p events
      ≡ in_finished a (sent run)
      +ℤ (in_going a (still_going run)
      +ℤ (in_counter a (last_puck p answers)
      +ℤ (over (excess_by over_limit a) p events
      +ℤ (over (excess_by over_counter a) p events
      +ℤ (in_broken a (sent run)
      +ℤ over (cleared_by a) p events)))))
  account a = rw (last_puck_lem p events answers run.permitted) (account_of.account a buttons revision maker p events run.made)

  -- each sum of the device is the excesses since the last T or the making, in their order, held at each addition
  pub sums_held : (k : Kind) (a : Axis) → excess_of k a (last_puck p answers).ball.sums ≡ held_over (pos 0) (thrown_since k a [] p events)
  sums_held k a = rw (last_puck_lem p events answers run.permitted) (account_of.sums_held k a buttons revision maker p events run.made)

  -- "While neither held sum of §6 has reached an end, those sums equal" the excesses since the last T or the making
  pub sums_are_excesses : (k : Kind) (a : Axis)
      → never_ends (pos 0) (thrown_since k a [] p events) ≡ true
      → excess_of k a (last_puck p answers).ball.sums ≡ sum_of (thrown_since k a [] p events)
  sums_are_excesses k a n = sums_held k a ∙ (plain_sums (pos 0) (thrown_since k a [] p events) n ∙ +ℤ_idl (sum_of (thrown_since k a [] p events)))

-- Worked: a run from the making in which none of the seven is 0, to the right and down alike. In prompt mode a move of
-- 300, of which its report says 127; the counter at its end, and 5 more; T clears it; 10 counted in the self-test,
-- latched behind it and broken off by a byte that is no command; of 200, 127 latched; and 3 counted.
abbrev tested : List Event → List Event
tested later = Send ∷ Send ∷ Send ∷ Send ∷ later

abbrev all_seven : List Event
all_seven =
    tested
    (Motion (pos 300) (minus 300) ∷ Host letter_p ∷ Latch ∷ Send ∷ Send ∷ Send
    ∷ Motion (pos 32767) (minus 32768) ∷ Motion (pos 5) (minus 5) ∷ Host letter_t ∷ Motion (pos 10) (minus 10)
    ∷ tested
    (Host letter_p ∷ Latch ∷ Send ∷ Host no_command
    ∷ Motion (pos 200) (minus 200) ∷ Host letter_p ∷ Latch ∷ Motion (pos 3) (minus 3) ∷ []))

abbrev start : Puck
start = made 0 1 3

-- what each part comes to, and what the sums hold
pub record Comes (a : Axis) (events : List Event) (fed finished going counter limit sixteen broken cleared : ℤ) (sum_limit sum_sixteen : ℤ) : Type 0 where
  pub is_fed : over (fed_by a) start events ≡ fed
  pub in_finished_lem : in_finished a (passages_of start (at_power_up 0 1 3) events) ≡ finished
  pub in_going_lem : in_going a (going_after start (at_power_up 0 1 3) events) ≡ going
  pub in_counter_lem : in_counter a (puck_after start events) ≡ counter
  pub over_the_limit : over (excess_by over_limit a) start events ≡ limit
  pub over_sixteen : over (excess_by over_counter a) start events ≡ sixteen
  pub in_broken_lem : in_broken a (passages_of start (at_power_up 0 1 3) events) ≡ broken
  pub by_t_lem : over (cleared_by a) start events ≡ cleared
  pub limit_since : sum_of (thrown_since over_limit a [] start events) ≡ sum_limit
  pub sixteen_since : sum_of (thrown_since over_counter a [] start events) ≡ sum_sixteen
  pub limit_sum : excess_of over_limit a (puck_after start events).ball.sums ≡ sum_limit
  pub sixteen_sum : excess_of over_counter a (puck_after start events).ball.sums ≡ sum_sixteen

-- of 246 over the limit the sum holds the 73 since T, and of 5 over the counter none
pub seven_parts : Comes x_axis all_seven (pos 33285) (pos 127) (pos 127) (pos 3) (pos 246) (pos 5) (pos 10) (pos 32767) (pos 73) (pos 0)
unfolding computing
seven_parts = record {
  is_fed = refl;
  in_finished_lem = refl;
  in_going_lem = refl;
  in_counter_lem = refl;
  over_the_limit = refl;
  over_sixteen = refl;
  in_broken_lem = refl;
  by_t_lem = refl;
  limit_since = refl;
  sixteen_since = refl;
  limit_sum = refl;
  sixteen_sum = refl;
}

pub seven_parts_down : Comes y_axis all_seven (minus 33286) (minus 127) (minus 127) (minus 3) (minus 246) (minus 5) (minus 10) (minus 32768) (minus 73) (pos 0)
unfolding computing
seven_parts_down = record {
  is_fed = refl;
  in_finished_lem = refl;
  in_going_lem = refl;
  in_counter_lem = refl;
  over_the_limit = refl;
  over_sixteen = refl;
  in_broken_lem = refl;
  by_t_lem = refl;
  limit_since = refl;
  sixteen_since = refl;
  limit_sum = refl;
  sixteen_sum = refl;
}
