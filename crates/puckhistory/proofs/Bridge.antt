-- The bridge: from its making, over every list of events, the words of a run of the device are the words of its passages, each of them sound.
use Prim.Native.Nat.{ℕ, ◌+◌, ◌-◌, ◌<◌, ◌≤◌, ◌%◌}
use mathlib.Core.Path.{◌≡◌, refl, sym, ◌∙◌, ap, ap₂}
use mathlib.Core.Bool.{Bool, true, false, cond}
use mathlib.Core.List.{List, [], ◌∷◌, ◌++◌, append-nil}
use native.Mathlib.Omega.{arith}
use lib.ListN.{length}
use lib.Dec.{eqb, ltb}
use borrow.Author.Tests.{eqb-true, eqb-false, le-leb, lt-leb, lt-ltb, le-ltb}
use Rattle.numbers.proofs.Choices.{cases}
use Rattle.frames.specs.Passages.{UnderWay, nothing, first, passage_words, part_words, Sound, SoundPart}
use Rattle.frames.specs.Retold.{under_way_as}
use Rattle.frames.specs.Sender.{Told, told, sent_one, passages_over, going_over}
use Rattle.frames.proofs.Passages.{sound_append}
use Rattle.frames.proofs.Retold.{words_as, part_as, sound_as, part_sound_as}
use Rattle.frames.proofs.Sender.{given_over, sends, breaks, bridge}
use Rattle.wire.specs.Line.{known, named_by}
use Rattle.wire.specs.Messages.{Message}
use Rattle.wire.specs.declared.Format.TheVariants.{Mm}
use Rattle.ballbox.specs.Box.{dormant}
use Rattle.ballbox.specs.Commands.{command_of}
use Rattle.ballbox.specs.Promises as boxes
use Rattle.ballbox.specs.declared.BallBox.{BallBox}
use Rattle.ballbox.specs.declared.Event.{Event}
use Rattle.ballbox.specs.declared.Event.TheVariants.{Motion, Buttons, Host, Latch, Send, Period}
use Rattle.history.specs.History as told_by_lem
use Rattle.history.specs.Carried.{SetTo}
use Rattle.history.proofs.Sending.{bytes_left_lem}
use Rattle.history.proofs.Bridge.{step_sends}
use Rattle.history.proofs.Asking.{Asks, Asking, set_sound, asked_step}
use Rattle.vsxxx.specs.SelfTests.{test_bytes, holds_test}
use Rattle.vsxxx.specs.Reports.{PuckMessage, of_box_lem, of_test, puck_bytes, HeldByPuck}
use Rattle.vsxxx.proofs.Bytes.{bytes_are, room_holds}
use Rattle.puck.specs.Device.{with_test, powered_box, powered, made, test_now, Step}
use Rattle.puck.specs.Rules.{letter_t, as_box, by_box, by_t, less_one, test_byte, in_test, out_of_test, rules}
use Rattle.puck.specs.Good.{good}
use Rattle.puck.specs.Promises.{step_of, MadePromise}
use Rattle.puck.specs.declared.Puck.{Puck}
use Rattle.puck.specs.declared.PuckStepped.{PuckStepped}
use Rattle.puck.proofs.Parts as parts_of
use Rattle.puck.proofs.Parts.{Rests, Going, Good, parts, is_going}
use Rattle.puck.proofs.Goodness.{Quiet, of_four, stepped_puck, made_is_good}
use Rattle.puckhistory.specs.Runs.{RunPromise, words_given, next_puck}
use Rattle.puckhistory.specs.Carried.{Holds, by_box_lem, by_test}
use Rattle.puckhistory.specs.History.{in_box, box_tells, test_tells, tells_in, tells_out, told_by, passages_of, going_after, at_power_up}
use Rattle.puck.proofs.Single.{says}

-- the box is handed only bytes that ask for reports, and one that it ignores
hands : (e : Event) → Asks (as_box e)
unfolding command_of known named_by
hands (Motion dx dy) = tt
hands (Buttons n) = tt
hands (Host byte) = of_four (λ (x : ℕ). Asking (command_of x)) tt tt tt tt byte
hands Latch = tt
hands Send = tt
hands Period = tt

-- a step does to the line what is told of it
pub record Sends (a : Step) (g : UnderWay PuckMessage) (t : Told PuckMessage) : Type 0 where
  pub words : part_words puck_bytes g ++ a.words ≡ passage_words puck_bytes t.passages ++ part_words puck_bytes t.going
  pub sound : Sound puck_bytes HeldByPuck t.passages
  pub holds : Holds a.next t.going

-- the box's step, out of a self-test
pub in_box_lem : (g : UnderWay Message) → in_box (under_way_as of_box_lem g) ≡ g
in_box_lem nothing = refl
in_box_lem (first n m) = refl

box_sends : (p : Puck) (e : Event) (g : UnderWay Message) → p.test.left ≡ 0 → SetTo Mm p.ball g → Sends (by_box p e) (under_way_as of_box_lem g) (box_tells p e (under_way_as of_box_lem g))
unfolding by_box box_tells
box_sends p e g z h =
    let s = asked_step Mm p.ball (as_box e) g (hands e) h in
    let w = step_sends p.ball (as_box e) g h.good h.carries in
    let t = told_by_lem.told_by p.ball (as_box e) g in
    rw (in_box_lem g)
    (record {
      words = rw (part_as of_box_lem puck_bytes g, words_as of_box_lem puck_bytes t.passages, part_as of_box_lem puck_bytes t.going) w.words;
      sound = sound_as of_box_lem puck_bytes HeldByPuck t.passages s.0;
      holds = by_box_lem t.going z s.1;
    })

-- T
powered_set : (buttons revision maker : ℕ) → good (powered buttons revision maker) ≡ true → SetTo Mm (powered_box buttons) nothing
unfolding powered powered_box
powered_set n r m g = let k = parts (powered n r m) g in record { good = k.ball; awake = refl; format = refl; carries = refl; sound = tt }

powered_holds : (buttons revision maker : ℕ) → good (powered buttons revision maker) ≡ true → Holds (powered buttons revision maker) (at_power_up buttons revision maker)
unfolding powered
powered_holds n r m g = by_test 0 refl (omega arith) (powered_set n r m g)

t_sends : (p : Puck) (g : UnderWay Message) → SetTo Mm p.ball g → good (by_t p).next ≡ true → Sends (by_t p) (under_way_as of_box_lem g) (test_tells p (under_way_as of_box_lem g))
unfolding by_t test_tells
t_sends p nothing h k =
    record { words = rw h.carries; sound = tt; holds = powered_holds p.ball.settings.buttons p.revision p.maker k }
t_sends p (first n m) h k =
    record {
      words = rw (bytes_left_lem p.ball n m h.carries) (breaks puck_bytes n (of_box_lem m) ∙ sym (append-nil _));
      sound = (set_sound Mm p.ball (first n m) h, tt);
      holds = powered_holds p.ball.settings.buttons p.revision p.maker k;
    }

-- in a self-test the box tells nothing
pub quiet_told : (b : BallBox) (e : Event) → parts_of.Rests b → dormant b ≡ false → Quiet e → told_by_lem.told_by b (as_box e) nothing ≡ told [] nothing
unfolding told_by_lem.told_by
quiet_told b (Motion dx dy) r d q = rw d
quiet_told b (Buttons n) r d q = rw d (cases (λ (t : Told Message). t ≡ told [] nothing) (ltb 7 n) (λ _. refl) (λ _. refl))
quiet_told b (Host byte) r d q = absurd q
quiet_told b Latch r d q = rw (d, r.undue, r.none, r.mode)
quiet_told b Send r d q = absurd q
quiet_told b Period r d q = rw d

quiet_sends : (p : Puck) (e : Event) (n : ℕ) → Going p → Quiet e → n + p.test.left ≡ 4 → SetTo Mm p.ball nothing
    → Sends (by_box p e) (first n (of_test (test_now p))) (told [] (first n (of_test (test_now p))))
unfolding by_box
quiet_sends p e n g q z h =
    let s = asked_step Mm p.ball (as_box e) nothing (hands e) h in
    let w = step_sends p.ball (as_box e) nothing h.good h.carries in
    let t = quiet_told p.ball e g.rests h.awake q in
    let none : (boxes.step_of p.ball (as_box e)).words ≡ [] = rw t at w.words in
    record { words = rw (none, append-nil); sound = tt; holds = by_test n z g.some (rw t at s.1) }

-- a byte of it is sent
test_length : (p : Puck) → length (test_bytes (test_now p)) ≡ 4
test_length p = rw (bytes_are (test_now p))

test_held : (p : Puck) → Good p → Going p → holds_test (test_now p) ≡ true
test_held p k g =
    room_holds (test_now p)
    (record {
      revision = k.revision;
      maker = k.maker;
      device = omega arith;
      error = cases (λ (n : ℕ). n ≤ 127) (eqb p.test.buttons 0) (λ _. omega arith) (λ _. omega arith);
      buttons = g.buttons;
    })

byte_sends : (p : Puck) (n : ℕ) → Good p → Going p → n + p.test.left ≡ 4 → SetTo Mm p.ball nothing
    → Sends (test_byte p) (first n (of_test (test_now p))) (sent_one puck_bytes (first n (of_test (test_now p))))
unfolding test_byte
byte_sends p n k g z h =
    let m = of_test (test_now p) in
    let l = test_length p in
    let at_n : 4 - p.test.left ≡ n = omega (arith, g.four) in
    record {
      words = rw at_n (sends puck_bytes (first n m) (omega (arith, g.some)));
      sound = go_sound (eqb (n + 1) (length (puck_bytes m))) refl;
      holds = go (eqb (n + 1) (length (puck_bytes m))) refl;
    }
  where
    go_sound : (t : Bool) → eqb (n + 1) (length (puck_bytes (of_test (test_now p)))) ≡ t → Sound puck_bytes HeldByPuck (sent_one puck_bytes (first n (of_test (test_now p)))).passages
    go_sound true e = rw e (test_held p k g, tt)
    go_sound false e = rw e tt

    go : (t : Bool) → eqb (n + 1) (length (puck_bytes (of_test (test_now p)))) ≡ t → Holds (with_test (less_one p.test) p) (sent_one puck_bytes (first n (of_test (test_now p)))).going
    go true e =
        let last = eqb-true (n + 1) (length (test_bytes (test_now p))) e in
        rw (e, le-leb p.test.left 1 (omega (arith, test_length p))) (by_box_lem nothing refl h)
    go false e =
        let more = eqb-false (n + 1) (length (test_bytes (test_now p))) e in
        let some : 1 < p.test.left = omega (arith, test_length p, g.some) in
        rw (e, lt-leb p.test.left 1 some) (by_test (n + 1) (omega arith) (omega arith) h)

-- every step of a good device
in_sends : (p : Puck) (e : Event) (n : ℕ) → Good p → Going p → n + p.test.left ≡ 4 → SetTo Mm p.ball nothing
    → Sends (in_test p e) (first n (of_test (test_now p))) (tells_in p e (first n (of_test (test_now p))))
unfolding in_test
in_sends p (Motion dx dy) n k g z h = quiet_sends p (Motion dx dy) n g tt z h
in_sends p (Buttons b) n k g z h = quiet_sends p (Buttons b) n g tt z h
in_sends p (Host byte) n k g z h = record { words = append-nil (part_words puck_bytes (first n (of_test (test_now p)))); sound = tt; holds = by_test n z g.some h }
in_sends p Latch n k g z h = quiet_sends p Latch n g tt z h
in_sends p Send n k g z h = byte_sends p n k g z h
in_sends p Period n k g z h = quiet_sends p Period n g tt z h

out_sends : (p : Puck) (e : Event) (g : UnderWay Message) → p.test.left ≡ 0 → SetTo Mm p.ball g → good (out_of_test p e).next ≡ true
    → Sends (out_of_test p e) (under_way_as of_box_lem g) (tells_out p e (under_way_as of_box_lem g))
unfolding out_of_test
out_sends p (Motion dx dy) g z h k = box_sends p (Motion dx dy) g z h
out_sends p (Buttons n) g z h k = box_sends p (Buttons n) g z h
out_sends p (Host byte) g z h k = go (eqb byte letter_t) refl k
  where
    go : (t : Bool) → eqb byte letter_t ≡ t → good (cond t (by_t p) (by_box p (Host byte))).next ≡ true
        → Sends (cond (eqb byte letter_t) (by_t p) (by_box p (Host byte))) (under_way_as of_box_lem g) (cond (eqb byte letter_t) (test_tells p (under_way_as of_box_lem g)) (box_tells p (Host byte) (under_way_as of_box_lem g)))
    go true e k = rw e (t_sends p g h k)
    go false e k = rw e (box_sends p (Host byte) g z h)
out_sends p Latch g z h k = box_sends p Latch g z h
out_sends p Send g z h k = box_sends p Send g z h
out_sends p Period g z h k = box_sends p Period g z h

pub step_sent : (p : Puck) (e : Event) (g : UnderWay PuckMessage) → good p ≡ true → Holds p g → Sends (step_of p e) g (told_by p e g)
unfolding step_of rules told_by
step_sent p e g k (by_box_lem b z h) =
    let f = le-ltb 0 p.test.left (omega arith) in
    rw (k, f) (out_sends p e b z h (rw (k, f) at (stepped_puck p e k)))
step_sent p e g k (by_test n z some h) =
    let f = lt-ltb 0 p.test.left some in
    rw (k, f) (in_sends p e n (parts p k) (is_going p (parts p k) f) z h)

-- a device that holds what is going, and stays good
abbrev Stays : Puck → UnderWay PuckMessage → Type 0
Stays p g = (good p ≡ true) × Holds p g

step : (p : Puck) (e : Event) (g : UnderWay PuckMessage) → Stays p g
    → (part_words puck_bytes g ++ (step_of p e).words ≡ passage_words puck_bytes (told_by p e g).passages ++ part_words puck_bytes (told_by p e g).going) × Stays (next_puck p e) (told_by p e g).going
step p e g h = let s = step_sent p e g h.0 h.1 in (s.words, (stepped_puck p e h.0, s.holds))

-- any answers that the promise permits give the words of the rules
permitted : (p : Puck) (events : List Event) (answers : List PuckStepped) → RunPromise p events answers → words_given answers ≡ given_over next_puck (λ p e. (step_of p e).words) p events
unfolding RunPromise given_over
permitted p [] [] h = refl
permitted p [] (a ∷ answers) h = absurd h
permitted p (e ∷ events) [] h = absurd h
permitted p (e ∷ events) (a ∷ answers) h =
    let n : a.next ≡ next_puck p e = ap (λ (x : PuckStepped). x.next) h.0 in
    ap₂ ◌++◌ (ap (λ (x : Step). x.words) (says p e a h.0)) (permitted a.next events answers h.1 ∙ rw n)

pub run_passages : (p : Puck) (g : UnderWay PuckMessage) (events : List Event) (answers : List PuckStepped) → good p ≡ true → Holds p g → RunPromise p events answers
    → part_words puck_bytes g ++ words_given answers ≡ passage_words puck_bytes (passages_of p g events) ++ part_words puck_bytes (going_after p g events)
run_passages p g events answers k h r =
    ap (λ (ws : List ℕ). part_words puck_bytes g ++ ws) (permitted p events answers r) ∙ bridge puck_bytes next_puck (λ p e. (step_of p e).words) told_by Stays step p g events (k, h)

-- what is under way is sound
holds_sound : (p : Puck) (g : UnderWay PuckMessage) → good p ≡ true → Holds p g → SoundPart puck_bytes HeldByPuck g
holds_sound p g k (by_box_lem b z h) = part_sound_as of_box_lem puck_bytes HeldByPuck b (set_sound Mm p.ball b h)
holds_sound p g k (by_test n z some h) =
    (test_held p (parts p k) (is_going p (parts p k) (lt-ltb 0 p.test.left some)), omega (arith, test_length p))

-- and so are the passages
pub run_sound : (p : Puck) (g : UnderWay PuckMessage) (events : List Event) → good p ≡ true → Holds p g
    → Sound puck_bytes HeldByPuck (passages_of p g events) × SoundPart puck_bytes HeldByPuck (going_after p g events)
unfolding passages_over going_over
run_sound p g [] k h = (tt, holds_sound p g k h)
run_sound p g (e ∷ events) k h =
    let s = step_sent p e g k h in
    let r = run_sound (next_puck p e) (told_by p e g).going events (stepped_puck p e k) s.holds in
    (sound_append puck_bytes HeldByPuck (told_by p e g).passages (passages_of (next_puck p e) (told_by p e g).going events) s.sound r.0, r.1)

-- a device as it is made
pub made_holds : (buttons revision maker : ℕ) (p : Puck) → MadePromise buttons revision maker p → Holds p (at_power_up (buttons % 8) (revision % 16) (maker % 8))
made_holds b r m p e = rw e (powered_holds (b % 8) (r % 16) (m % 8) (made_is_good b r m (made b r m) refl))
