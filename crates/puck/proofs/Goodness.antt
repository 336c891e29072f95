-- A device is good when made, and a step of a good device gives a good one.
use Prim.Native.Nat.{ℕ, ◌≤◌, ◌%◌}
use mathlib.Core.Path.{◌≡◌, refl, ap, ◌∙◌}
use mathlib.Core.Bool.{Bool, true, false, not, cond, ◌&&◌, ◌||◌}
use mathlib.Core.Logic.{◌⊎◌, inl, inr}
use native.Mathlib.Omega.{arith}
use lib.Dec.{eqb, leb}
use borrow.Author.Tests.{eqb-true, leb-false, le-leb, le-ltb, lt-ltb}
use Rattle.numbers.proofs.Choices.{cases, or_else}
use Rattle.wire.specs.Line.{size_by, known, named_by}
use Rattle.ballbox.specs.Box.{mode_d, going_from, Step, dormant}
use Rattle.ballbox.specs.Latching.{latched}
use Rattle.ballbox.specs.Commands.{letter_p, command_of, obeyed}
use Rattle.ballbox.specs.Events.{bytes_left, wanted, latching, with_byte_ready, after, more_behind, next_byte, sending, dropped, on_buttons, on_host, on_period, awake}
use Rattle.ballbox.specs.Good as boxes
use Rattle.ballbox.specs.Promises.{above_seven}
use Rattle.ballbox.specs.Promises as box
use Rattle.ballbox.specs.declared.BallBox.{BallBox}
use Rattle.ballbox.specs.declared.Going.{Going as Outgoing}
use Rattle.ballbox.specs.declared.Event.{Event}
use Rattle.ballbox.specs.declared.Event.TheVariants.{Motion, Buttons, Host, Latch, Send, Period}
use Rattle.ballbox.proofs.Accepting.{bytes_by_length}
use Rattle.ballbox.proofs.Cases.{latching_idle, ready_plain}
use Rattle.ballbox.proofs.Goodness.{stepped_good}
use Rattle.ballbox.proofs.Parts.{good_buttons}
use Rattle.ballbox.proofs.Refusals.{ruled, refused_next}
use Rattle.puck.specs.Device.{test, with_test, with_ball, powered_box, powered}
use Rattle.puck.specs.Rules.{mode_r, letter_t, is_boxes, no_command, as_box, less_one, by_box, by_t, test_byte, in_test, out_of_test, rules}
use Rattle.puck.specs.Good.{good}
use Rattle.puck.specs.Promises.{step_of, MadePromise, StepPromise}
use Rattle.puck.specs.declared.Puck.{Puck}
use Rattle.puck.specs.declared.PuckStepped.{PuckStepped}
use Rattle.puck.specs.Device as device
use Rattle.puck.proofs.Parts.{Follows, Rests, Going, Tests, none_going, one_going, Good, parts, good_again}

-- a step of the box leaves it in S, in mode R or D, awake, with nothing or a report going
dropped_follows : (b : BallBox) → Follows b → Follows (dropped b)
unfolding dropped
dropped_follows b f =
    cases Follows (bytes_left b) (λ _. (record { format = f.format; mode = f.mode; awake = f.awake; length = inl refl })) (λ _. f)

latching_follows : (b : BallBox) → Follows b → Follows (latching b)
unfolding latching latched going_from size_by named_by
latching_follows b f =
    let size : size_by b.settings.format ≡ 3 = rw f.format in
    cases Follows (not (bytes_left b) && wanted b)
    (λ _. (record { format = f.format; mode = f.mode; awake = f.awake; length = inr (bytes_by_length b.settings.format _ ∙ size) }))
    (λ _. f)

next_follows : (b : BallBox) → Follows b → Follows (next_byte b).next
unfolding next_byte after
next_follows b f =
    record {
      format = f.format;
      mode = f.mode;
      awake = f.awake;
      length = cases (λ (g : Outgoing). (g.length ≡ 0) ⊎ (g.length ≡ 3)) (more_behind b.going) (λ _. f.length) (λ _. inl refl);
    }

sending_follows : (b : BallBox) → Follows b → Follows (sending b).next
unfolding sending
sending_follows b f =
    let plain : with_byte_ready b ≡ b = ready_plain b (rw f.format) in
    cases (λ (s : Step). Follows s.next) (bytes_left b) (λ _. rw plain (next_follows b f)) (λ _. f)

buttons_follows : (b : BallBox) (n : ℕ) → Follows b → Follows (on_buttons n b)
unfolding on_buttons
buttons_follows b n f =
    cases Follows (eqb n b.settings.buttons) (λ _. f) (λ _. (record { format = f.format; mode = f.mode; awake = f.awake; length = f.length }))

-- R, D, P, and a byte that the box ignores
stream_follows : (b : BallBox) → Follows b → Follows (obeyed (command_of mode_r) b)
unfolding command_of obeyed known named_by
stream_follows b f = record { format = f.format; mode = inl refl; awake = f.awake; length = f.length }

prompt_follows : (b : BallBox) → Follows b → Follows (obeyed (command_of mode_d) b)
unfolding command_of obeyed known named_by
prompt_follows b f = record { format = f.format; mode = inr refl; awake = f.awake; length = f.length }

asked_follows : (b : BallBox) → Follows b → Follows (obeyed (command_of letter_p) b)
unfolding command_of obeyed known named_by
asked_follows b f = record { format = f.format; mode = inr refl; awake = f.awake; length = f.length }

ignored_follows : (b : BallBox) → Follows b → Follows (obeyed (command_of no_command) b)
unfolding command_of obeyed known named_by
ignored_follows b f = f

-- what holds of R, D, P and that byte holds of every byte that the box is handed
pub of_four : (P : ℕ → Type 0) → P mode_r → P mode_d → P letter_p → P no_command → (byte : ℕ) → P (cond (is_boxes byte) byte no_command)
of_four P r d p n byte =
    cases P (is_boxes byte)
    (or_else (eqb byte mode_r || eqb byte mode_d) (eqb byte letter_p)
    (or_else (eqb byte mode_r) (eqb byte mode_d) (λ e. rw (eqb-true byte mode_r e) r) (λ e. rw (eqb-true byte mode_d e) d))
    (λ e. rw (eqb-true byte letter_p e) p))
    (λ _. n)

awake_follows : (b : BallBox) (e : Event) → Follows b → Follows (awake b (as_box e)).next
unfolding awake on_period on_host
awake_follows b (Motion dx dy) f = record { format = f.format; mode = f.mode; awake = f.awake; length = f.length }
awake_follows b (Buttons n) f = buttons_follows b n f
awake_follows b (Host byte) f =
    let d = dropped_follows b f in
    of_four (λ (x : ℕ). Follows (obeyed (command_of x) (dropped b))) (stream_follows (dropped b) d) (prompt_follows (dropped b) d) (asked_follows (dropped b) d) (ignored_follows (dropped b) d) byte
awake_follows b Latch f = latching_follows b f
awake_follows b Send f = sending_follows b f
awake_follows b Period f = record { format = f.format; mode = f.mode; awake = f.awake; length = f.length }

-- what holds of a box and of what an event does to it awake holds after the step, refused or not
pub by_rules : (P : BallBox → Type 0) (b : BallBox) (e : Event) → boxes.good b ≡ true → dormant b ≡ false → P b → P (awake b e).next → P (box.step_of b e).next
by_rules P b e g d h k = go (above_seven e) refl
  where
    go : (t : Bool) → above_seven e ≡ t → P (box.step_of b e).next
    go true q = rw (refused_next b e g q) h
    go false q = rw (ruled b e false g q d) k

step_follows : (b : BallBox) (e : Event) → boxes.good b ≡ true → Follows b → Follows (box.step_of b (as_box e)).next
step_follows b e g f = by_rules Follows b (as_box e) g f.awake f (awake_follows b e f)

-- a box that rests does so after every event but one of the host's and Send
rests_idle : (b : BallBox) → Rests b → latching b ≡ b
rests_idle b r =
    latching_idle b (rw r.length (le-ltb b.going.sent 0 (omega arith)))
    (rw (r.undue, r.none, r.mode))

abbrev pub Quiet : Event → Type 0
Quiet (Motion dx dy) = Unit {0}
Quiet (Buttons n) = Unit {0}
Quiet (Host byte) = ⊥
Quiet Latch = Unit {0}
Quiet Send = ⊥
Quiet Period = Unit {0}

awake_rests : (b : BallBox) (e : Event) → Quiet e → Rests b → Rests (awake b (as_box e)).next
unfolding awake on_period on_buttons
awake_rests b (Motion dx dy) q r = record { length = r.length; mode = r.mode; undue = r.undue; none = r.none }
awake_rests b (Buttons n) q r =
    cases Rests (eqb n b.settings.buttons) (λ _. r)
    (λ _. (record { length = r.length; mode = r.mode; undue = r.undue; none = rw r.mode r.none }))
awake_rests b (Host byte) q r = absurd q
awake_rests b Latch q r = rw (rests_idle b r) r
awake_rests b Send q r = absurd q
awake_rests b Period q r = record { length = r.length; mode = r.mode; undue = rw (r.undue, r.mode); none = r.none }

-- the box's step, in and out of a self-test
box_good : (p : Puck) (e : Event) → Good p → Tests (with_ball (box.step_of p.ball (as_box e)).next p) → Good (by_box p e).next
unfolding by_box
box_good p e k t =
    record { ball = stepped_good p.ball (as_box e) k.ball; follows = step_follows p.ball e k.ball k.follows; tests = t; revision = k.revision; maker = k.maker }

out_good : (p : Puck) (e : Event) → Good p → p.test.left ≡ 0 → p.test.buttons ≡ 0 → Good (by_box p e).next
out_good p e k z w = box_good p e k (none_going z w)

in_good : (p : Puck) (e : Event) → Quiet e → Good p → Going p → Good (by_box p e).next
in_good p e q k g =
    let r = by_rules Rests p.ball (as_box e) k.ball k.follows.awake g.rests (awake_rests p.ball e q g.rests) in
    box_good p e k (one_going (record { some = g.some; four = g.four; buttons = g.buttons; rests = r }))

-- power-up
powered_good : (buttons revision maker : ℕ) → buttons ≤ 7 → revision ≤ 15 → maker ≤ 7 → Good (powered buttons revision maker)
unfolding powered powered_box boxes.good boxes.good_settings boxes.good_track boxes.good_going boxes.good_memory known named_by
powered_good n r m hn hr hm =
    record {
      ball = rw (le-leb n 7 hn);
      follows = record { format = refl; mode = inr refl; awake = refl; length = inl refl };
      tests = one_going (record { some = omega arith; four = omega arith; buttons = hn; rests = record { length = refl; mode = refl; undue = refl; none = refl } });
      revision = hr;
      maker = hm;
    }

-- a byte of the self-test is sent
less_tests : (p : Puck) → Going p → Tests (with_test (less_one p.test) p)
less_tests p g = go (leb p.test.left 1) refl
  where
    go : (t : Bool) → leb p.test.left 1 ≡ t → Tests (with_test (less_one p.test) p)
    go true e = rw e (none_going refl refl)
    go false e = rw e (one_going (record { some = omega (arith, leb-false p.test.left 1 e); four = omega (arith, g.four); buttons = g.buttons; rests = g.rests }))

in_test_good : (p : Puck) (e : Event) → Good p → Going p → Good (in_test p e).next
unfolding in_test test_byte
in_test_good p (Motion dx dy) k g = in_good p (Motion dx dy) tt k g
in_test_good p (Buttons n) k g = in_good p (Buttons n) tt k g
in_test_good p (Host byte) k g = k
in_test_good p Latch k g = in_good p Latch tt k g
in_test_good p Send k g = record { ball = k.ball; follows = k.follows; tests = less_tests p g; revision = k.revision; maker = k.maker }
in_test_good p Period k g = in_good p Period tt k g

out_test_good : (p : Puck) (e : Event) → Good p → p.test.left ≡ 0 → p.test.buttons ≡ 0 → Good (out_of_test p e).next
unfolding out_of_test by_t
out_test_good p (Motion dx dy) k z w = out_good p (Motion dx dy) k z w
out_test_good p (Buttons n) k z w = out_good p (Buttons n) k z w
out_test_good p (Host byte) k z w =
    cases (λ (s : device.Step). Good s.next) (eqb byte letter_t)
    (λ _. powered_good p.ball.settings.buttons p.revision p.maker (good_buttons p.ball k.ball) k.revision k.maker)
    (λ _. out_good p (Host byte) k z w)
out_test_good p Latch k z w = out_good p Latch k z w
out_test_good p Send k z w = out_good p Send k z w
out_test_good p Period k z w = out_good p Period k z w

rules_good : (p : Puck) (e : Event) → Good p → Good (rules p e).next
unfolding rules
rules_good p e k = go k.tests
  where
    go : Tests p → Good (rules p e).next
    go (none_going z w) = rw (le-ltb 0 p.test.left (omega arith)) (out_test_good p e k z w)
    go (one_going g) = rw (lt-ltb 0 p.test.left g.some) (in_test_good p e k g)

pub stepped_puck : (p : Puck) (e : Event) → good p ≡ true → good (step_of p e).next ≡ true
unfolding step_of
stepped_puck p e g = rw g (good_again (rules p e).next (rules_good p e (parts p g)))

-- a device is good when made
pub made_is_good : (buttons revision maker : ℕ) (p : Puck) → MadePromise buttons revision maker p → good p ≡ true
made_is_good buttons revision maker p e =
    rw e (good_again (powered (buttons % 8) (revision % 16) (maker % 8)) (powered_good (buttons % 8) (revision % 16) (maker % 8) (omega arith) (omega arith) (omega arith)))

-- and stays so
pub step_stays_good : (p : Puck) (e : Event) (r : PuckStepped) → StepPromise p e r → good p ≡ true → good r.next ≡ true
step_stays_good p e r s g = ap (λ (x : PuckStepped). good x.next) s ∙ stepped_puck p e g
