-- No press is seen that was not made: over every run of a box in a stream mode, the buttons of its finished reports are
-- the states shown, in order, each once or more often.
use Prim.Native.Nat.{ℕ, ◌+◌, ◌≤◌}
use mathlib.Core.Path.{◌≡◌, refl, sym, ◌∙◌, ap}
use mathlib.Core.Bool.{Bool, true, false, not, cond, ◌&&◌}
use mathlib.Core.List.{List, [], ◌∷◌, ◌++◌, append-nil, append_assoc}
use native.Mathlib.Omega.{arith}
use lib.ListN.{length}
use lib.Dec.{eqb, leb}
use borrow.Author.Tests.{eqb-true, ltb-true, ltb-false, lt-leb, le-leb}
use Rattle.numbers.proofs.Choices.{cases}
use Rattle.numbers.proofs.Tested.{left, right}
use Rattle.frames.specs.Passages.{UnderWay, nothing, first, Sub, none, gone, stays}
use Rattle.frames.specs.Sender.{sent_one, passages_over}
use Rattle.frames.proofs.Sub.{sub_all, sub_append}
use Rattle.frames.proofs.Passages.{finished_append}
use Rattle.wire.specs.Messages.{Message, report, reply, message_bytes}
use Rattle.wire.specs.Buttons.{presses, latched_buttons, buttons_sent}
use Rattle.wire.proofs.Buttons.{last_of, Repeats, ends, again, next, last_append, repeats_append, fewer}
use Rattle.ballbox.specs.Box.{dormant}
use Rattle.ballbox.specs.Box as box
use Rattle.ballbox.specs.Presses.{remembered, any_remembered, full, to_show}
use Rattle.ballbox.specs.Latching.{latched, latched_report, second_latched}
use Rattle.ballbox.specs.Commands.{command_of, obeyed, reply_to}
use Rattle.ballbox.specs.Events.{bytes_left, wanted, latching, second_now, with_byte_ready, next_byte, sending, dropped, on_host, on_buttons, on_period, awake}
use Rattle.ballbox.specs.Good.{good}
use Rattle.ballbox.specs.Promises.{above_seven}
use Rattle.ballbox.specs.declared.BallBox.{BallBox}
use Rattle.ballbox.specs.declared.Settings.{Settings}
use Rattle.ballbox.specs.declared.Event.{Event}
use Rattle.ballbox.specs.declared.Event.TheVariants.{Motion, Buttons, Host, Latch, Send, Period}
use Rattle.ballbox.specs.declared.Command.{Command}
use Rattle.ballbox.specs.declared.Command.TheVariants.{SetFormat, SetStream, SetPrompt, AskReport, AskAck, AskCode, AskLetters, AskButtons, Sleep, Ignored}
use Rattle.ballbox.proofs.Remembering.{remembered_length}
use Rattle.ballbox.proofs.Parts.{parts}
use Rattle.ballbox.proofs.Refusals.{ruled, refused_next}
use Rattle.ballbox.proofs.Obeying.{dropped_settings}
use Rattle.history.specs.History.{latched_now, begun, paired_at, is_five, unsent_reply, when_awake, told_by, next_box, passages_of}
use Rattle.history.specs.Asked.{hosts_pass, all_hosts}
use Rattle.history.specs.Presses.{buttons_told, empties, none_empties, change_to, changes_in, in_place_of_last, noting, states_over, shown_in, shown_by}
use Rattle.history.proofs.Bridge.{told_is}
use Rattle.history.proofs.Asking.{refused_told}
use Rattle.history.proofs.Presses.{Streams, Step, streams_step}

-- what is going, where it shows no remembered state, shows u
abbrev pub GoingShows : ℕ → UnderWay Message → Type 0
GoingShows u nothing = Unit {0}
GoingShows u (first n (report l)) = l.shows ≡ false → l.report.buttons ≡ u
GoingShows u (first n (reply bytes)) = Unit {0}

-- u was shown last: it is the present state where none is remembered, and else the newest that is remembered is the
-- present one
pub record Last (u : ℕ) (b : BallBox) (g : UnderWay Message) : Type 0 where
  pub newest : last_of u (remembered b.memory) ≡ b.settings.buttons
  pub going : GoingShows u g

-- The buttons of a box after a step: changed, or as they were.
pub latching_buttons : (b : BallBox) → (latching b).settings.buttons ≡ b.settings.buttons
unfolding latching latched
latching_buttons b = cases (λ (c : BallBox). c.settings.buttons ≡ b.settings.buttons) (not (bytes_left b) && wanted b) (λ _. refl) (λ _. refl)

pub sending_buttons : (b : BallBox) → (sending b).next.settings.buttons ≡ b.settings.buttons
unfolding sending next_byte with_byte_ready second_latched
sending_buttons b = go (bytes_left b) refl (second_now b) refl
  where
    go : (t : Bool) → bytes_left b ≡ t → (u : Bool) → second_now b ≡ u → (sending b).next.settings.buttons ≡ b.settings.buttons
    go true e true q = rw (e, q)
    go true e false q = rw (e, q)
    go false e u q = rw e

pub obeyed_buttons : (c : Command) (b : BallBox) → (obeyed c b).settings.buttons ≡ b.settings.buttons
unfolding obeyed
obeyed_buttons (SetFormat f) b = refl
obeyed_buttons (SetStream m) b = refl
obeyed_buttons SetPrompt b = refl
obeyed_buttons AskReport b = refl
obeyed_buttons AskAck b = refl
obeyed_buttons AskCode b = refl
obeyed_buttons AskLetters b = refl
obeyed_buttons AskButtons b = refl
obeyed_buttons Sleep b = refl
obeyed_buttons Ignored b = refl

changed_buttons : (n : ℕ) (b : BallBox) → n ≤ 7 → (on_buttons n b).settings.buttons ≡ last_of b.settings.buttons (change_to b (Buttons n))
unfolding on_buttons
changed_buttons n b l = go (eqb n b.settings.buttons) refl
  where
    go : (t : Bool) → eqb n b.settings.buttons ≡ t → (on_buttons n b).settings.buttons ≡ last_of b.settings.buttons (change_to b (Buttons n))
    go true e = rw (le-leb n 7 l, e)
    go false e = rw (le-leb n 7 l, e)

awake_buttons : (b : BallBox) (e : Event) → above_seven e ≡ false → (awake b e).next.settings.buttons ≡ last_of b.settings.buttons (change_to b e)
unfolding awake on_host on_period
awake_buttons b (Motion dx dy) s = refl
awake_buttons b (Buttons n) s = changed_buttons n b (ltb-false 7 n s)
awake_buttons b (Host byte) s = obeyed_buttons (command_of byte) (dropped b) ∙ ap (λ (k : Settings). k.buttons) (dropped_settings b)
awake_buttons b Latch s = latching_buttons b
awake_buttons b Send s = sending_buttons b
awake_buttons b Period s = refl

no_change : (b : BallBox) (e : Event) → above_seven e ≡ true → change_to b e ≡ []
no_change b (Motion dx dy) s = refl
no_change b (Buttons n) s = rw (lt-leb n 7 (ltb-true 7 n s))
no_change b (Host byte) s = refl
no_change b Latch s = refl
no_change b Send s = refl
no_change b Period s = refl

pub buttons_step : (b : BallBox) (e : Event) → good b ≡ true → dormant b ≡ false → (next_box b e).settings.buttons ≡ last_of b.settings.buttons (change_to b e)
buttons_step b e g d = go (above_seven e) refl
  where
    go : (t : Bool) → above_seven e ≡ t → (next_box b e).settings.buttons ≡ last_of b.settings.buttons (change_to b e)
    go true s = ap (λ (c : BallBox). c.settings.buttons) (refused_next b e g s) ∙ ap (last_of b.settings.buttons) (sym (no_change b e s))
    go false s = ap (λ (x : box.Step). x.next.settings.buttons) (ruled b e false g s d) ∙ awake_buttons b e s

-- a step makes one change at most, and the newest state is that
pub one_change : (b : BallBox) (e : Event) → length (change_to b e) ≤ 1
one_change b (Motion dx dy) = omega arith
one_change b (Buttons n) = cases (λ (l : List ℕ). length l ≤ 1) (leb n 7 && not (eqb n b.settings.buttons)) (λ _. omega arith) (λ _. omega arith)
one_change b (Host byte) = omega arith
one_change b Latch = omega arith
one_change b Send = omega arith
one_change b Period = omega arith

last_replaced : (u n : ℕ) (states : List ℕ) → last_of u (in_place_of_last n states) ≡ n
last_replaced u n [] = refl
last_replaced u n (s ∷ []) = refl
last_replaced u n (s ∷ t ∷ states) = last_replaced s n (t ∷ states)

last_noted : (u : ℕ) (ninth : Bool) (change states : List ℕ) → length change ≤ 1 → last_of u (noting ninth change states) ≡ last_of (last_of u states) change
last_noted u ninth [] states h = refl
last_noted u false (n ∷ []) states h = last_append u states (n ∷ [])
last_noted u true (n ∷ []) states h = last_replaced u n states
last_noted u ninth (n ∷ m ∷ more) states h = absurd (omega arith)

-- What a step ends shows u, or the states that it shows.
record ShownNow (u : ℕ) (b : BallBox) (e : Event) (g : UnderWay Message) : Type 0 where
  seen : Repeats u (shown_by (told_by b e g).passages) (buttons_sent (told_by b e g).passages)
  going : GoingShows (last_of u (shown_by (told_by b e g).passages)) (told_by b e g).going

pub none_left : (b : BallBox) → good b ≡ true → any_remembered b.memory ≡ false → remembered b.memory ≡ []
none_left b g a = go (remembered b.memory) (remembered_length b.memory (parts b g).memory)
  where
    go : (l : List ℕ) → length l ≡ b.memory.count → l ≡ []
    go [] e = refl
    go (s ∷ l) e = absurd (omega (arith, e, ltb-false 0 b.memory.count a))

latched_shows : (u : ℕ) (b : BallBox) (g : UnderWay Message) → good b ≡ true → Last u b g → GoingShows u (first 0 (report (latched_now b)))
unfolding latched_report to_show
latched_shows u b g k h a = let e : last_of u [] ≡ b.settings.buttons = rw (none_left b k a) at h.newest in rw a (sym e)

begun_shows : (u : ℕ) (b : BallBox) (g : UnderWay Message) → good b ≡ true → Last u b g → GoingShows u (begun b g)
begun_shows u b (first n m) k h = h.going
begun_shows u b nothing k h = cases (GoingShows u) (wanted b) (λ _. latched_shows u b nothing k h) (λ _. tt)

pair_shows : (u : ℕ) (b : BallBox) (n : ℕ) (m : Message) → GoingShows u (first n m) → GoingShows u (first n (paired_at b n m))
pair_shows u b n (report l) h = go (is_five l.format && eqb n 3) refl
  where
    go : (t : Bool) → is_five l.format && eqb n 3 ≡ t → GoingShows u (first n (paired_at b n (report l)))
    go true e = rw e h
    go false e = rw e h
pair_shows u b n (reply bytes) h = tt

reply_shows : (u : ℕ) (bytes : List ℕ) → GoingShows u (unsent_reply bytes)
reply_shows u [] = tt
reply_shows u (byte ∷ bytes) = tt

-- one message ends
ended : (u n : ℕ) (m : Message) → GoingShows u (first n m) → Repeats u (shown_in m ++ []) (latched_buttons m ++ [])
ended u n (report l) h = go l.shows refl
  where
    go : (t : Bool) → l.shows ≡ t → Repeats u (shown_in (report l) ++ []) (latched_buttons (report l) ++ [])
    go true e = rw e (next ends)
    go false e = rw (e, h e) (again ends)
ended u n (reply bytes) h = ends

sent_shows : (u n : ℕ) (m : Message) → GoingShows u (first n m)
    → Repeats u (shown_by (sent_one message_bytes (first n m)).passages) (buttons_sent (sent_one message_bytes (first n m)).passages)
    × GoingShows (last_of u (shown_by (sent_one message_bytes (first n m)).passages)) (sent_one message_bytes (first n m)).going
sent_shows u n m h = go (eqb (n + 1) (length (message_bytes m))) refl
  where
    one_more_lem : (k : Message) → GoingShows u (first n k) → GoingShows u (first (n + 1) k)
    one_more_lem (report l) h = h
    one_more_lem (reply bytes) h = tt

    go : (t : Bool) → eqb (n + 1) (length (message_bytes m)) ≡ t
        → Repeats u (shown_by (sent_one message_bytes (first n m)).passages) (buttons_sent (sent_one message_bytes (first n m)).passages)
        × GoingShows (last_of u (shown_by (sent_one message_bytes (first n m)).passages)) (sent_one message_bytes (first n m)).going
    go true e = rw e (ended u n m h, tt)
    go false e = rw e (ends, one_more_lem m h)

awake_shows : (u : ℕ) (b : BallBox) (e : Event) (g : UnderWay Message) → good b ≡ true → Last u b g
    → Repeats u (shown_by (when_awake b e g).passages) (buttons_sent (when_awake b e g).passages)
    × GoingShows (last_of u (shown_by (when_awake b e g).passages)) (when_awake b e g).going
awake_shows u b (Motion dx dy) g k h = (ends, h.going)
awake_shows u b (Buttons n) g k h = (ends, h.going)
awake_shows u b (Host byte) nothing k h = (ends, reply_shows u (reply_to b (command_of byte)))
awake_shows u b (Host byte) (first n m) k h = (ends, reply_shows u (reply_to b (command_of byte)))
awake_shows u b Latch g k h = (ends, begun_shows u b g k h)
awake_shows u b Send nothing k h = (ends, tt)
awake_shows u b Send (first n m) k h = sent_shows u n (paired_at b n m) (pair_shows u b n m h.going)
awake_shows u b Period g k h = (ends, h.going)

step_shows : (u : ℕ) (b : BallBox) (e : Event) (g : UnderWay Message) → good b ≡ true → dormant b ≡ false → Last u b g → ShownNow u b e g
step_shows u b e g k d h = go (above_seven e) refl
  where
    go : (t : Bool) → above_seven e ≡ t → ShownNow u b e g
    go true s = record { seen = rw (refused_told b e g s) ends; going = rw (refused_told b e g s) h.going }
    go false s =
        let r = awake_shows u b e g k h in
        record { seen = rw (told_is b e g false s d) r.0; going = rw (told_is b e g false s d) r.1 }

last_step : (u : ℕ) (b : BallBox) (e : Event) (g : UnderWay Message) → Streams b g → Step b e g → Last u b g → Last (last_of u (shown_by (told_by b e g).passages)) (next_box b e) (told_by b e g).going
last_step u b e g h s l =
    let shown = shown_by (told_by b e g).passages in
    record {
      newest =
          sym (last_append u shown (remembered (next_box b e).memory))
          ∙ (ap (last_of u) (sym s.order)
          ∙ (last_noted u (full b.memory) (change_to b e) (remembered b.memory) (one_change b e)
          ∙ (ap (λ (v : ℕ). last_of v (change_to b e)) l.newest ∙ sym (buttons_step b e h.good h.awake))));
      going = (step_shows u b e g h.good h.awake l).going;
    }

-- Over every run: the finished reports show u, and then the states shown, in order.
pub repeats_over : (u : ℕ) (b : BallBox) (g : UnderWay Message) (events : List Event) → Streams b g → none_empties events ≡ true → Last u b g
    → Repeats u (shown_by (passages_of b g events)) (buttons_sent (passages_of b g events))
unfolding all_hosts passages_over
repeats_over u b g [] h a l = ends
repeats_over u b g (e ∷ events) h a l =
    let pass = hosts_pass (λ byte. not (empties byte)) e in
    let s = streams_step b e g h (left pass (none_empties events) a) in
    let t = told_by b e g in
    let rest = repeats_over (last_of u (shown_by t.passages)) (next_box b e) t.going events s.next (right pass (none_empties events) a) (last_step u b e g h s l) in
    rw (finished_append shown_in t.passages, finished_append latched_buttons t.passages)
    (repeats_append (step_shows u b e g h.good h.awake l).seen rest)

-- What the box is told are the present state and then its changes, each once or more often.
told_one_lem : (b : BallBox) (n : ℕ) → Repeats b.settings.buttons (change_to b (Buttons n)) (cond (leb n 7) (n ∷ []) [])
told_one_lem b n = go (leb n 7) refl (eqb n b.settings.buttons) refl
  where
    go : (t : Bool) → leb n 7 ≡ t → (s : Bool) → eqb n b.settings.buttons ≡ s → Repeats b.settings.buttons (change_to b (Buttons n)) (cond (leb n 7) (n ∷ []) [])
    go true e true q = rw (e, q, eqb-true n b.settings.buttons q) (again ends)
    go true e false q = rw (e, q) (next ends)
    go false e s q = rw e ends

pub repeats_told : (b : BallBox) (g : UnderWay Message) (events : List Event) → Streams b g → none_empties events ≡ true
    → Repeats b.settings.buttons (changes_in b events) (buttons_told events)
unfolding all_hosts changes_in buttons_told
repeats_told b g [] h a = ends
repeats_told b g (e ∷ events) h a =
    let pass = hosts_pass (λ byte. not (empties byte)) e in
    let s = streams_step b e g h (left pass (none_empties events) a) in
    let rest = repeats_told (next_box b e) (told_by b e g).going events s.next (right pass (none_empties events) a) in
    go e (rw (buttons_step b e h.good h.awake) at rest)
  where
    go : (e : Event) → Repeats (last_of b.settings.buttons (change_to b e)) (changes_in (next_box b e) events) (buttons_told events)
        → Repeats b.settings.buttons (change_to b e ++ changes_in (next_box b e) events) (buttons_told (e ∷ events))
    go (Motion dx dy) r = r
    go (Buttons n) r = repeats_append (told_one_lem b n) r
    go (Host byte) r = r
    go Latch r = r
    go Send r = r
    go Period r = r

-- The states of a run are some of those remembered and then the changes.
replaced_sub : (n : ℕ) (states : List ℕ) → Sub (in_place_of_last n states) (states ++ (n ∷ []))
replaced_sub n [] = stays none
replaced_sub n (s ∷ []) = gone (stays none)
replaced_sub n (s ∷ t ∷ states) = stays (replaced_sub n (t ∷ states))

pub noting_sub : (ninth : Bool) (change states : List ℕ) → length change ≤ 1 → Sub (noting ninth change states) (states ++ change)
noting_sub ninth [] states h = rw append-nil (sub_all states)
noting_sub false (n ∷ []) states h = sub_all (states ++ (n ∷ []))
noting_sub true (n ∷ []) states h = replaced_sub n states
noting_sub ninth (n ∷ m ∷ more) states h = absurd (omega arith)

pub states_fewer : (down : ℕ → Bool) (was : Bool) (b : BallBox) (states : List ℕ) (events : List Event)
    → presses down was (states_over b states events) ≤ presses down was (states ++ changes_in b events)
unfolding states_over changes_in
states_fewer down was b states [] = rw append-nil (omega arith)
states_fewer down was b states (e ∷ events) =
    let rest = changes_in (next_box b e) events in
    let later = states_fewer down was (next_box b e) (noting (full b.memory) (change_to b e) states) events in
    let one = fewer down was (sub_append (noting_sub (full b.memory) (change_to b e) states (one_change b e)) (sub_all rest)) in
    omega (arith, later, rw append_assoc at one)
