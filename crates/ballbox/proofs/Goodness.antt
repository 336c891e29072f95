-- A fresh box is good, and a step of a good box gives a good box.
use Prim.Native.Nat.{ℕ, ◌≤◌}
use mathlib.Core.Path.{◌≡◌, refl, sym, ap, ◌∙◌}
use mathlib.Core.List.{List}
use mathlib.Core.Bool.{Bool, true, false, not, ◌&&◌, ◌||◌, or-true, or-false}
use native.Mathlib.Omega.{arith}
use lib.Dec.{leb, ltb, eqb}
use lib.ListN.{length}
use lib.IntN.{ℤ, pos, ◌+ℤ◌}
use borrow.Author.Tests.{ltb-true, ltb-false, le-leb, eqb-true, not-true}
use Rattle.numbers.proofs.Choices.{both, cases}
use Rattle.numbers.proofs.Held.{held_inside}
use Rattle.numbers.proofs.Tested.{left, right}
use Rattle.wire.specs.Line.{letter_of, known, named_by}
use Rattle.wire.specs.declared.Format.TheVariants.{FiveByte}
use Rattle.ballbox.specs.Marks.{is_mark}
use Rattle.ballbox.specs.Box.{mode_d, going_from, nothing, fresh_box, with_track, with_going, with_memory, with_sums, with_due, with_format, with_mode, with_buttons, Step, due, dormant}
use Rattle.ballbox.specs.Presses.{any_remembered, none, showing}
use Rattle.ballbox.specs.Motion.{placed_at, placed, moved_by}
use Rattle.ballbox.specs.Latching.{cleared, latched_report, latched, with_second, second_latched}
use Rattle.ballbox.specs.Commands.{is_timed, is_stream, command_of, ack, obeyed}
use Rattle.ballbox.specs.Events.{moved, on_buttons, on_period, bytes_left, wanted, latching, second_now, with_byte_ready, next_byte, sending, dropped, on_host, woken, awake, asleep}
use Rattle.ballbox.specs.Good.{on_pad, good_settings, good_track, good_going, good_memory, marks, good}
use Rattle.ballbox.specs.Promises.{above_seven, step_of, FreshPromise, StepPromise}
use Rattle.ballbox.specs.declared.Pair.{Pair}
use Rattle.ballbox.specs.declared.Track.{Track}
use Rattle.ballbox.specs.declared.Going.{Going}
use Rattle.ballbox.specs.declared.Memory.{Memory}
use Rattle.ballbox.specs.declared.Sums.{Sums}
use Rattle.ballbox.specs.declared.BallBox.{BallBox}
use Rattle.ballbox.specs.declared.Command.{Command}
use Rattle.ballbox.specs.declared.Command.TheVariants.{SetFormat, SetStream, SetPrompt, AskReport, AskAck, AskCode, AskLetters, AskButtons, Sleep, Ignored}
use Rattle.ballbox.specs.declared.Event.{Event}
use Rattle.ballbox.specs.declared.Event.TheVariants.{Motion, Buttons, Host, Latch, Send, Period}
use Rattle.ballbox.specs.declared.Stepped.{Stepped}
use Rattle.ballbox.proofs.Marks.{mark_stands}
use Rattle.ballbox.proofs.Letters.{Lettering, lettering}
use Rattle.ballbox.proofs.Outgoing.{GoodGoing, Idle, idle_good, nothing_idle, left_idle, reply_good, Sendable, after_good, going_sendable, second_sendable, latched_below, latched_going}
use Rattle.ballbox.proofs.Accepting.{bytes_by_length}
use Rattle.ballbox.proofs.Beside.{Remembers, none_remembers, remembering_remembers, showing_remembers, hidden_remembers, after_remembers, idle_remembers}
use Rattle.ballbox.proofs.Parts.{letter_known, mode_known, few, Good, parts, good_again}

pub fresh_is_good : (b : BallBox) → FreshPromise b → good b ≡ true
unfolding fresh_box good good_settings good_track good_going good_memory known named_by
fresh_is_good b e = ap good e

-- what is set
set_good : (f m n : ℕ) → known f ≡ true → (is_stream m || eqb m mode_d) ≡ true → leb n 7 ≡ true → good_settings (record { format = f; mode = m; buttons = n }) ≡ true
unfolding good_settings known named_by
set_good f m n h k l = both _ _ (both _ _ h k) l

-- the positions stay on the pad
placed_pad : (p : Pair) (dx dy : ℤ) → on_pad (placed p dx dy) ≡ true
unfolding placed placed_at
placed_pad p dx dy = both _ _ (held_inside (pos 0) (pos 4095) (p.x +ℤ dx) refl) (held_inside (pos 0) (pos 4095) (p.y +ℤ dy) refl)

moved_good : (t : Track) (dx dy : ℤ) → good_track t ≡ true → good_track (moved_by dx dy t) ≡ true
unfolding good_track moved_by
moved_good t dx dy h = both _ _ (placed_pad t.position dx dy) (right (on_pad t.position) (on_pad t.last) h)

cleared_good : (t : Track) → good_track t ≡ true → good_track (cleared t) ≡ true
unfolding good_track cleared
cleared_good t h = let p = left (on_pad t.position) (on_pad t.last) h in both _ _ p p

-- a box that is awake and good, but for what is going, of which G holds
record Awake (G : ℕ → Going → Type 0) (b : BallBox) : Type 0 where
  settings : good_settings b.settings ≡ true
  track : good_track b.track ≡ true
  going : G b.settings.format b.going
  memory : Remembers b.settings.mode b.settings.format b.going b.memory
  up : dormant b ≡ false
  marks : marks b ≡ true

wake : (b : BallBox) → dormant b ≡ false → Good b → Awake GoodGoing b
wake b d g =
    record {
      settings = g.settings;
      track = g.track;
      going = g.going;
      memory = record { good = g.memory; stream = rw d at g.remembers; shows = g.shows };
      up = d;
      marks = g.marks;
    }

again : (b : BallBox) → Awake GoodGoing b → Good b
again b a =
    let m = a.memory in
    record { settings = a.settings; track = a.track; going = a.going; sleep = rw a.up; memory = m.good; remembers = rw a.up m.stream; shows = m.shows; marks = a.marks }

settled : (b : BallBox) → Awake Idle b → Awake GoodGoing b
settled b a = record { settings = a.settings; track = a.track; going = idle_good b.settings.format b.going a.going; memory = a.memory; up = a.up; marks = a.marks }

-- one part of it replaced; what is going, with what is remembered beside it
module _ {G : ℕ → Going → Type 0} (b : BallBox) (a : Awake G b) where
  with_track_lem : (t : Track) → good_track t ≡ true → Awake G (with_track t b)
  with_track_lem t h = record { settings = a.settings; track = h; going = a.going; memory = a.memory; up = a.up; marks = a.marks }

  with_sums_lem : (s : Sums) → Awake G (with_sums s b)
  with_sums_lem s = record { settings = a.settings; track = a.track; going = a.going; memory = a.memory; up = a.up; marks = a.marks }

  with_due_lem : (d : Bool) → Awake G (with_due d b)
  with_due_lem d =
      record {
        settings = a.settings;
        track = a.track;
        going = a.going;
        memory = a.memory;
        up = a.up;
        marks = both _ _ (mark_stands d) (right (is_mark b.due) (is_mark b.dormant) a.marks);
      }

  with_going_lem : {H : ℕ → Going → Type 0} (g : Going) (m : Memory) → H b.settings.format g → Remembers b.settings.mode b.settings.format g m → Awake H (with_memory m (with_going g b))
  with_going_lem g m h r = record { settings = a.settings; track = a.track; going = h; memory = r; up = a.up; marks = a.marks }

  with_mode_lem : (m : ℕ) → (is_stream m || eqb m mode_d) ≡ true → not (any_remembered b.memory) || is_stream m ≡ true → Awake G (with_mode m b)
  with_mode_lem m h s =
      record {
        settings = set_good b.settings.format m b.settings.buttons (letter_known b.settings a.settings) h (few b.settings a.settings);
        track = a.track;
        going = a.going;
        memory = record { good = a.memory.good; stream = s; shows = a.memory.shows };
        up = a.up;
        marks = a.marks;
      }

  with_buttons_lem : (n : ℕ) → leb n 7 ≡ true → Awake G (with_buttons n b)
  with_buttons_lem n h =
      record {
        settings = set_good b.settings.format b.settings.mode n (letter_known b.settings a.settings) (mode_known b.settings a.settings) h;
        track = a.track;
        going = a.going;
        memory = a.memory;
        up = a.up;
        marks = a.marks;
      }

  -- nothing is remembered
  emptied : (d : Bool) → Awake G (with_memory none (with_due d b))
  emptied d =
      record {
        settings = a.settings;
        track = a.track;
        going = a.going;
        memory = none_remembers _ _ _;
        up = a.up;
        marks = (with_due_lem d).marks;
      }

with_format_lem : (b : BallBox) → Awake Idle b → b.memory ≡ none → (f : ℕ) → known f ≡ true → Awake GoodGoing (with_format f b)
with_format_lem b a e f h =
    record {
      settings = set_good f b.settings.mode b.settings.buttons h (mode_known b.settings a.settings) (few b.settings a.settings);
      track = a.track;
      going = idle_good f b.going a.going;
      memory = rw e (none_remembers _ _ _);
      up = a.up;
      marks = a.marks;
    }

-- the events of a box that is awake
buttons_good : (b : BallBox) (n : ℕ) → ltb 7 n ≡ false → Awake GoodGoing b → Awake GoodGoing (on_buttons n b)
unfolding on_buttons
buttons_good b n l a =
    let s = b.settings in
    let few = ltb-false 7 n l in
    let m =
    cases (Remembers s.mode s.format b.going) (is_stream s.mode)
    (remembering_remembers s.mode s.format b.going b.memory a.memory n few)
    (λ e. a.memory)
    in
    cases (Awake GoodGoing) (eqb n s.buttons) (λ e. a)
    (λ e. with_buttons_lem (with_memory _ b) (with_going_lem b a b.going _ a.going m) n (le-leb n 7 few))

sent_good : (b : BallBox) → Awake Sendable b → Awake GoodGoing (next_byte b).next
unfolding next_byte
sent_good b a =
    let s = b.settings in
    with_going_lem b a _ _ (after_good s.format b.going a.going) (after_remembers s.mode s.format b.going b.memory a.memory)

ready_good : (b : BallBox) → bytes_left b ≡ true → Awake GoodGoing b → Awake Sendable (with_byte_ready b)
unfolding with_byte_ready second_latched with_second
ready_good b l a =
    let f = b.settings.format in
    let u = eqb f (letter_of FiveByte) in
    let third = eqb b.going.sent 3 in
    let h = ltb-true b.going.sent b.going.length l in
    let m = a.memory in
    cases (Awake Sendable) (second_now b)
    (λ e. with_track_lem _ (with_sums_lem _ (with_going_lem b a _ b.memory (second_sendable f _ b.going a.going h (eqb-true _ _ (left u third e)) (eqb-true _ _ (right u third e))) (record { good = m.good; stream = m.stream; shows = m.shows })) _) _ (cleared_good b.track a.track))
    (λ e. with_going_lem b a b.going b.memory (going_sendable f b.going a.going h) m)

latched_good : (b : BallBox) → Awake GoodGoing b → Awake GoodGoing (latched b)
unfolding latched going_from
latched_good b a =
    let f = b.settings.format in
    let s = latched_going b (letter_known b.settings a.settings) in
    let m = showing_remembers b.settings.mode f b.going b.memory a.memory (latched b).going (bytes_by_length f (latched_report b)) in
    with_due_lem _ (with_track_lem _ (with_sums_lem _ (with_going_lem b a _ _ s m) _) _ (cleared_good b.track a.track)) false

-- the first byte of what is latched is there to be sent
pub latched_left : (b : BallBox) → Good b → bytes_left (latched b) ≡ true
latched_left b g = latched_below b (letter_known b.settings g.settings)

latching_good : (b : BallBox) → Awake GoodGoing b → Awake GoodGoing (latching b)
unfolding latching
latching_good b a = cases (Awake GoodGoing) (not (bytes_left b) && wanted b) (λ e. latched_good b a) (λ e. a)

sending_good : (b : BallBox) → Awake GoodGoing b → Awake GoodGoing (sending b).next
unfolding sending
sending_good b a = cases (λ (x : Step). Awake GoodGoing x.next) (bytes_left b) (λ l. sent_good _ (ready_good b l a)) (λ l. a)

dropped_idle : (b : BallBox) → Awake GoodGoing b → Awake Idle (dropped b)
unfolding dropped
dropped_idle b a =
    let s = b.settings in
    cases (Awake Idle) (bytes_left b)
    (λ l. with_going_lem b a nothing _ (nothing_idle s.format) (hidden_remembers s.mode s.format b.going b.memory a.memory nothing))
    (λ l. with_going_lem b a b.going b.memory (left_idle s.format b.going a.going l) a.memory)

-- a reply, and each command
replying_good : (b : BallBox) → Awake Idle b → (bytes : List ℕ) → 1 ≤ length bytes → length bytes ≤ 3 → Good (with_going (going_from bytes) b)
replying_good b a bytes l k =
    let s = b.settings in
    let m = idle_remembers s.mode s.format b.going b.memory a.memory (going_from bytes) (letter_known s a.settings) a.going.length0 in
    again _ (with_going_lem b a _ b.memory (reply_good s.format bytes l k) m)

obeyed_good : (c : Command) → Lettering c → (b : BallBox) → Awake Idle b → Good (obeyed c b)
unfolding obeyed
obeyed_good (SetFormat f) h b a = again _ (with_format_lem (with_track (cleared b.track) (with_memory none (with_due false b))) (with_track_lem _ (emptied b a false) _ (cleared_good b.track a.track)) refl f h)
obeyed_good (SetStream m) h b a = again _ (with_mode_lem b (settled b a) m (rw h) (rw (h, or-true)))
obeyed_good SetPrompt h b a = again _ (with_mode_lem (with_memory none (with_due false b)) (settled _ (emptied b a false)) mode_d refl refl)
obeyed_good AskReport h b a = again _ (with_mode_lem (with_memory none (with_due true b)) (settled _ (emptied b a true)) mode_d refl refl)
obeyed_good AskAck h b a = replying_good b a _ (omega arith) (omega arith)
obeyed_good AskCode h b a = replying_good b a _ (omega arith) (omega arith)
obeyed_good AskLetters h b a = replying_good b a _ (omega arith) (omega arith)
obeyed_good AskButtons h b a = replying_good b a _ (omega arith) (omega arith)
obeyed_good Sleep h b a =
    record {
      settings = a.settings;
      track = a.track;
      going = (settled b a).going;
      sleep = rw a.going.length0;
      memory = (emptied b a false).memory.good;
      remembers = refl;
      shows = refl;
      marks = refl;
    }
obeyed_good Ignored h b a = again _ (settled b a)

-- an event, awake or dormant
awake_good : (b : BallBox) (e : Event) → above_seven e ≡ false → Awake GoodGoing b → Good (awake b e).next
unfolding awake on_period on_host
awake_good b (Motion dx dy) l a = again _ (with_sums_lem _ (with_track_lem b a _ (moved_good b.track dx dy a.track)) _)
awake_good b (Buttons n) l a = again _ (buttons_good b n l a)
awake_good b (Host n) l a = obeyed_good (command_of n) (lettering n) (dropped b) (dropped_idle b a)
awake_good b Latch l a = again _ (latching_good b a)
awake_good b Send l a = again _ (sending_good b a)
awake_good b Period l a = again _ (with_due_lem b a (due b || (is_timed b.settings.mode && moved b)))

woken_good : (b : BallBox) → dormant b ≡ true → Good b → Good (woken b)
unfolding woken
woken_good b d g =
    let none : not (any_remembered b.memory) ≡ true = sym (or-false _) ∙ (rw d at g.remembers) in
    let unshown : not (showing b.memory) ≡ true = sym (or-false _) ∙ (rw (not-true (any_remembered b.memory) none) at g.shows) in
    record {
      settings = g.settings;
      track = g.track;
      going = reply_good b.settings.format ack (omega arith) (omega arith);
      sleep = refl;
      memory = g.memory;
      remembers = rw none;
      shows = rw unshown;
      marks = both _ _ (left (is_mark b.due) (is_mark b.dormant) g.marks) refl;
    }

asleep_good : (b : BallBox) (e : Event) → dormant b ≡ true → Good b → Good (asleep b e).next
unfolding asleep
asleep_good b (Motion dx dy) d g = g
asleep_good b (Buttons n) d g = g
asleep_good b (Host n) d g = woken_good b d g
asleep_good b Latch d g = g
asleep_good b Send d g = g
asleep_good b Period d g = g

pub stepped_good : (b : BallBox) (e : Event) → good b ≡ true → good (step_of b e).next ≡ true
unfolding step_of
stepped_good b e g =
    let p = parts b g in
    rw g
    (cases (λ (x : Step). good x.next ≡ true) (above_seven e) (λ l. g)
    (λ l. cases (λ (x : Step). good x.next ≡ true) (dormant b) (λ d. good_again _ (asleep_good b e d p)) (λ d. good_again _ (awake_good b e l (wake b d p)))))

pub step_stays_good : (b : BallBox) (e : Event) (r : Stepped) → StepPromise b e r → good b ≡ true → good r.next ≡ true
step_stays_good b e r s g = ap (λ (x : Stepped). good x.next) s ∙ stepped_good b e g
