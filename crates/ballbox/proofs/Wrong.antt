-- Wrong answers, two or more for each promise, that it does not permit.
use mathlib.Core.Path.{◌≡◌, sym, ap, subst, ◌∙◌}
use mathlib.Core.Bool.{true, false}
use native.Mathlib.Omega.{arith}
use lib.Dec.{T}
use lib.IntN.{pos, nat_abs}
use Rattle.numbers.specs.Signed.{most, held, excess, sum_excess, held_long}
use Rattle.frames.specs.Words.{silence}
use Rattle.wire.specs.Line.{named_by, size_by, known}
use Rattle.wire.specs.Numbers.{success, bad_state}
use Rattle.ballbox.specs.Box.{mode_d, pair, zeros, fresh_box, with_track, with_memory, with_mode, with_buttons, with_due, due}
use Rattle.ballbox.specs.Presses.{none, remembering, showing_first}
use Rattle.ballbox.specs.Thrown.{no_sums, added}
use Rattle.ballbox.specs.Motion.{counted_over, apart, has_moved}
use Rattle.ballbox.specs.Latching.{latched}
use Rattle.ballbox.specs.Commands.{letter_p, command_of, obeyed}
use Rattle.ballbox.specs.Events.{on_buttons, latching, sending, dropped, on_host, awake}
use Rattle.ballbox.specs.Good.{good, good_settings, good_track, good_going, good_memory}
use Rattle.ballbox.specs.Promises.{step_of, FreshPromise, GoodPromise, StepPromise}
use Rattle.ballbox.specs.declared.BallBox.{BallBox}
use Rattle.ballbox.specs.declared.Event.TheVariants.{Motion, Buttons, Host, Latch, Send}
use Rattle.ballbox.specs.declared.Memory.{Memory}
use Rattle.ballbox.specs.declared.Sums.{Sums}
use Rattle.ballbox.specs.declared.Stepped.{Stepped}

-- a fresh box in mode D; and one with a report due
pub fresh_in_prompt : FreshPromise (with_mode mode_d fresh_box) → ⊥
unfolding fresh_box
fresh_in_prompt e = omega (arith, ap (λ (b : BallBox). b.settings.mode) e)

pub fresh_due : FreshPromise (with_due true fresh_box) → ⊥
unfolding fresh_box
fresh_due e = subst T (ap due e) tt

-- Send of a fresh box that gives no word; and Latch that gives one
abbrev silently : BallBox → Stepped
silently b = record { refusal = success; sent = 0; word = 0; rest = 0; next = b }

pub send_no_word : StepPromise fresh_box Send (silently fresh_box) → ⊥
unfolding step_of fresh_box good good_settings good_track good_going good_memory awake sending named_by size_by known
send_no_word e = omega (arith, ap (λ (s : Stepped). s.sent) e)

pub latch_silent : StepPromise fresh_box Latch (record { refusal = success; sent = 1; word = silence; rest = 0; next = fresh_box }) → ⊥
unfolding step_of fresh_box good good_settings good_track good_going good_memory awake latching has_moved apart named_by size_by known
latch_silent e = omega (arith, ap (λ (s : Stepped). s.sent) e)

-- P that leaves the mode's letter P
pub prompt_says_p : StepPromise fresh_box (Host letter_p) (silently (with_mode letter_p (with_due true fresh_box))) → ⊥
unfolding step_of fresh_box good good_settings good_track good_going good_memory awake on_host dropped command_of obeyed named_by size_by known
prompt_says_p e = omega (arith, ap (λ (s : Stepped). s.next.settings.mode) e)

-- buttons 9 refused with 6
pub nine_refused_6 : StepPromise fresh_box (Buttons 9) (record { refusal = bad_state; sent = 0; word = 0; rest = 0; next = fresh_box }) → ⊥
unfolding step_of fresh_box good good_settings good_track good_going good_memory named_by size_by known
nine_refused_6 e = omega (arith, ap (λ (s : Stepped). s.refusal) e)

-- a press in a stream mode that makes a report due instead of being remembered; and one that is not remembered
abbrev pressed : BallBox
pressed = with_buttons 4 (with_memory (remembering 4 none) fresh_box)

pub press_due : StepPromise fresh_box (Buttons 4) (silently (with_buttons 4 (with_due true fresh_box))) → ⊥
unfolding step_of fresh_box good good_settings good_track good_going good_memory awake on_buttons remembering named_by size_by known
press_due e = omega (arith, ap (λ (s : Stepped). s.next.memory.count) e)

pub press_forgotten : StepPromise fresh_box (Buttons 4) (silently (with_buttons 4 fresh_box)) → ⊥
unfolding step_of fresh_box good good_settings good_track good_going good_memory awake on_buttons remembering named_by size_by known
press_forgotten e = omega (arith, ap (λ (s : Stepped). s.next.memory.count) e)

-- a fresh box called bad; one whose buttons are 8, and one that remembers a state in prompt mode, called good
pub good_refuses_fresh : GoodPromise fresh_box false → ⊥
unfolding fresh_box good good_settings good_track good_going good_memory named_by size_by known
good_refuses_fresh e = subst T (sym e) tt

pub good_eight : GoodPromise (with_buttons 8 fresh_box) true → ⊥
unfolding fresh_box good good_settings good_track good_going good_memory named_by size_by known
good_eight e = subst T e tt

pub good_in_prompt : GoodPromise (with_mode mode_d pressed) true → ⊥
unfolding fresh_box good good_settings good_track good_going good_memory remembering named_by size_by known
good_in_prompt e = subst T e tt

-- nor is a mark of 2 one of a good box
pub good_due_two : GoodPromise (record { settings = fresh_box.settings; track = fresh_box.track; going = fresh_box.going; memory = fresh_box.memory; sums = fresh_box.sums; due = 2; dormant = 0 }) true → ⊥
unfolding fresh_box good good_settings good_track good_going good_memory named_by size_by known
good_due_two e = subst T e tt

-- D that keeps the memory
pub prompt_remembers : StepPromise pressed (Host mode_d) (silently (with_mode mode_d pressed)) → ⊥
unfolding step_of fresh_box good good_settings good_track good_going good_memory awake on_host dropped command_of obeyed remembering named_by size_by known
prompt_remembers e = omega (arith, ap (λ (s : Stepped). s.next.memory.count) e)

-- a counter at its end that throws away what it is given, and adds up none of it
abbrev full : BallBox
full = with_track (record { counter = pair most (pos 0); position = zeros; last = zeros }) fresh_box

pub excess_forgotten : (b : BallBox) → b.sums ≡ no_sums → StepPromise full (Motion (pos 5) (pos 0)) (silently b) → ⊥
unfolding step_of fresh_box good good_settings good_track good_going good_memory awake counted_over sum_excess excess added held_long held named_by size_by known
excess_forgotten b f e = omega (arith, sym (ap (λ (s : Sums). nat_abs s.counter.x) f) ∙ ap (λ (s : Stepped). nat_abs s.next.sums.counter.x) e)

-- a report that removes the state when it is latched; and Send that latches one
pub removed_early : (b : BallBox) → b.memory ≡ none → StepPromise pressed Latch (silently b) → ⊥
unfolding step_of fresh_box good good_settings good_track good_going good_memory awake latching latched remembering showing_first named_by size_by known
removed_early b f e = omega (arith, sym (ap (λ (m : Memory). m.count) f) ∙ ap (λ (s : Stepped). s.next.memory.count) e)

pub send_latches : (b : BallBox) → StepPromise pressed Send (record { refusal = success; sent = 1; word = 0x83; rest = 0; next = b }) → ⊥
unfolding step_of fresh_box good good_settings good_track good_going good_memory awake sending remembering named_by size_by known
send_latches b e = omega (arith, ap (λ (s : Stepped). s.word) e)
