-- Presses that outlive a busy line: over every run of a box in a stream mode, what is remembered is shown, in order, each state by a report of its own.
use Prim.Native.Nat.{ℕ, zero, suc, ◌≤◌, ◌<◌}
use mathlib.Core.Path.{◌≡◌, refl, sym, ◌∙◌, ap}
use mathlib.Core.Bool.{Bool, true, false, not, ◌&&◌}
use mathlib.Core.List.{List, [], ◌∷◌, ◌++◌, append_assoc, append-nil}
use native.Mathlib.Omega.{arith}
use lib.ListN.{length, take, length-append}
use lib.IntN.{ℤ}
use lib.Seq.{take-append-le}
use lib.Dec.{eqb, leb}
use borrow.Author.Tests.{leb-true, ltb-true, ltb-false, lt-leb, not-true}
use Rattle.numbers.proofs.Choices.{cases}
use Rattle.numbers.proofs.Tested.{left, right}
use Rattle.frames.specs.Passages.{UnderWay, nothing}
use Rattle.frames.specs.Sender.{told, passages_over}
use Rattle.frames.proofs.Passages.{finished_append}
use Rattle.wire.specs.Messages.{Message}
use Rattle.ballbox.specs.Box.{dormant}
use Rattle.ballbox.specs.Presses.{remembered, full}
use Rattle.ballbox.specs.Latching.{latched, second_latched}
use Rattle.ballbox.specs.Commands.{is_stream, command_of, obeyed}
use Rattle.ballbox.specs.Events.{bytes_left, wanted, latching, second_now, with_byte_ready, next_byte, sending, dropped, on_host, on_buttons, on_period, awake}
use Rattle.ballbox.specs.Good.{good}
use Rattle.ballbox.specs.Promises.{above_seven, step_of}
use Rattle.ballbox.specs.declared.BallBox.{BallBox}
use Rattle.ballbox.specs.declared.Settings.{Settings}
use Rattle.ballbox.specs.declared.Event.{Event}
use Rattle.ballbox.specs.declared.Event.TheVariants.{Motion, Buttons, Host, Latch, Send, Period}
use Rattle.ballbox.specs.declared.Command.{Command}
use Rattle.ballbox.specs.declared.Command.TheVariants.{SetFormat, SetStream, SetPrompt, AskReport, AskAck, AskCode, AskLetters, AskButtons, Sleep, Ignored}
use Rattle.ballbox.specs.declared.Stepped.{Stepped}
use Rattle.ballbox.proofs.Goodness.{stepped_good}
use Rattle.ballbox.proofs.Remembering.{remembered_length}
use Rattle.ballbox.proofs.Parts.{parts}
use Rattle.ballbox.proofs.Pressing.{idle_shows_none}
use Rattle.ballbox.proofs.Refusals.{ruled, refused_next}
use Rattle.ballbox.proofs.Obeying.{dropped_settings, dropped_awake}
use Rattle.history.specs.Runs.{RunPromise}
use Rattle.history.specs.History.{when_awake, told_by, next_box, passages_of}
use Rattle.history.specs.Asked.{hosts_pass, all_hosts, asks}
use Rattle.history.specs.Presses.{empties, none_empties, change_to, changes_in, in_place_of_last, noting, states_over, no_ninth, never_ninth, shown_in, shown_by, box_after, last_box}
use Rattle.history.specs.Carried.{Carries, Showing, Carrying}
use Rattle.history.proofs.Bridge.{step_sends, told_is}
use Rattle.history.proofs.Asking.{refused_told}
use Rattle.history.proofs.Showing.{same_showing, Keeps, send_keeps, latch_keeps, buttons_keep, Kept, kept_command, host_keeps}

-- a good box, awake in a stream mode, and what is going in it
pub record Streams (b : BallBox) (g : UnderWay Message) : Type 0 where
  pub good : good b ≡ true
  pub awake : dormant b ≡ false
  pub stream : is_stream b.settings.mode ≡ true
  pub carries : Carries b g
  pub showing : Showing b g

pub streams_from : (b : BallBox) (g : UnderWay Message) → Carrying b g → dormant b ≡ false → is_stream b.settings.mode ≡ true → Streams b g
streams_from b g h d m = record { good = h.good; awake = d; stream = m; carries = h.carries; showing = h.showing }

-- a good box with no bytes left carries nothing
pub at_rest_lem : (b : BallBox) → good b ≡ true → bytes_left b ≡ false → Carrying b nothing
at_rest_lem b k e = record { good = k; carries = e; showing = idle_shows_none b k e }

-- it stays awake in a stream mode
pub record Listens (b : BallBox) : Type 0 where
  pub awake : dormant b ≡ false
  pub stream : is_stream b.settings.mode ≡ true

latching_listens : (b : BallBox) → Listens b → Listens (latching b)
unfolding latching latched
latching_listens b h = cases Listens (not (bytes_left b) && wanted b) (λ _. record { awake = h.awake; stream = h.stream }) (λ _. h)

sending_listens : (b : BallBox) → Listens b → Listens (sending b).next
unfolding sending next_byte with_byte_ready second_latched
sending_listens b h = go (bytes_left b) refl (second_now b) refl
  where
    go : (t : Bool) → bytes_left b ≡ t → (u : Bool) → second_now b ≡ u → Listens (sending b).next
    go true e true q = rw (e, q) (record { awake = h.awake; stream = h.stream })
    go true e false q = rw (e, q) (record { awake = h.awake; stream = h.stream })
    go false e u q = rw e h

obeyed_listens : (c : Command) (b : BallBox) → Kept c → Listens b → Listens (obeyed c b)
unfolding obeyed
obeyed_listens (SetFormat f) b k h = absurd k
obeyed_listens (SetStream m) b k h = record { awake = h.awake; stream = k }
obeyed_listens SetPrompt b k h = absurd k
obeyed_listens AskReport b k h = absurd k
obeyed_listens AskAck b k h = record { awake = h.awake; stream = h.stream }
obeyed_listens AskCode b k h = record { awake = h.awake; stream = h.stream }
obeyed_listens AskLetters b k h = record { awake = h.awake; stream = h.stream }
obeyed_listens AskButtons b k h = record { awake = h.awake; stream = h.stream }
obeyed_listens Sleep b k h = absurd k
obeyed_listens Ignored b k h = h

buttons_listens : (n : ℕ) (b : BallBox) → Listens b → Listens (on_buttons n b)
unfolding on_buttons
buttons_listens n b h = cases Listens (eqb n b.settings.buttons) (λ _. h) (λ _. record { awake = h.awake; stream = h.stream })

dropped_listens : (b : BallBox) → Listens b → Listens (dropped b)
dropped_listens b h = record { awake = dropped_awake b ∙ h.awake; stream = ap (λ (s : Settings). is_stream s.mode) (dropped_settings b) ∙ h.stream }

awake_listens : (b : BallBox) (e : Event) → hosts_pass (λ byte. not (empties byte)) e ≡ true → Listens b → Listens (awake b e).next
unfolding awake on_host on_period
awake_listens b (Motion dx dy) a h = record { awake = h.awake; stream = h.stream }
awake_listens b (Buttons n) a h = buttons_listens n b h
awake_listens b (Host byte) a h = obeyed_listens (command_of byte) (dropped b) (kept_command byte (not-true (empties byte) a)) (dropped_listens b h)
awake_listens b Latch a h = latching_listens b h
awake_listens b Send a h = sending_listens b h
awake_listens b Period a h = record { awake = h.awake; stream = h.stream }

-- one step: what is remembered and then the change is what finished reports showed and then what is remembered
awake_keeps : (b : BallBox) (e : Event) (g : UnderWay Message) → Streams b g → hosts_pass (λ byte. not (empties byte)) e ≡ true → above_seven e ≡ false
    → Keeps (noting (full b.memory) (change_to b e) (remembered b.memory)) (awake b e).next (shown_by (when_awake b e g).passages) (when_awake b e g).going
unfolding awake on_period
awake_keeps b (Motion dx dy) g h a s = record { showing = same_showing g b (awake b (Motion dx dy)).next refl h.showing; order = refl }
awake_keeps b (Buttons n) g h a s = buttons_keep b n g (parts b h.good).memory h.stream (ltb-false 7 n s) h.showing
awake_keeps b (Host byte) g h a s = host_keeps b byte g (not-true (empties byte) a) h.carries h.showing
awake_keeps b Latch g h a s = latch_keeps b g (parts b h.good).memory h.carries h.showing
awake_keeps b Send g h a s = send_keeps b g (parts b h.good).memory h.carries h.showing
awake_keeps b Period g h a s = record { showing = same_showing g b (awake b Period).next refl h.showing; order = refl }

no_change : (b : BallBox) (e : Event) → above_seven e ≡ true → change_to b e ≡ []
no_change b (Motion dx dy) s = refl
no_change b (Buttons n) s = rw (lt-leb n 7 (ltb-true 7 n s))
no_change b (Host byte) s = refl
no_change b Latch s = refl
no_change b Send s = refl
no_change b Period s = refl

pub record Step (b : BallBox) (e : Event) (g : UnderWay Message) : Type 0 where
  pub next : Streams (next_box b e) (told_by b e g).going
  pub order : noting (full b.memory) (change_to b e) (remembered b.memory) ≡ shown_by (told_by b e g).passages ++ remembered (next_box b e).memory

pub streams_step : (b : BallBox) (e : Event) (g : UnderWay Message) → Streams b g → hosts_pass (λ byte. not (empties byte)) e ≡ true → Step b e g
streams_step b e g h a = go (above_seven e) refl
  where
    both : Listens (step_of b e).next → Keeps (noting (full b.memory) (change_to b e) (remembered b.memory)) (step_of b e).next (shown_by (told_by b e g).passages) (told_by b e g).going → Step b e g
    both l k =
        record {
          next =
              record {
                good = stepped_good b e h.good;
                awake = l.awake;
                stream = l.stream;
                carries = (step_sends b e g h.good h.carries).carries;
                showing = k.showing;
              };
          order = k.order;
        }

    here : Listens b
    here = record { awake = h.awake; stream = h.stream }

    go : (t : Bool) → above_seven e ≡ t → Step b e g
    go true s =
        both (rw (refused_next b e h.good s) here)
        (rw (refused_next b e h.good s, refused_told b e g s, no_change b e s) (record { showing = h.showing; order = refl }))
    go false s =
        both (rw (ruled b e false h.good s h.awake) (awake_listens b e a here))
        (rw (ruled b e false h.good s h.awake, told_is b e g false s h.awake) (awake_keeps b e g h a s))

-- a change behind more states than those that are remembered
noting_behind : (ninth : Bool) (change front states : List ℕ) → (ninth ≡ true → 1 ≤ length states) → noting ninth change (front ++ states) ≡ front ++ noting ninth change states
noting_behind ninth [] front states h = refl
noting_behind false (n ∷ more) front states h = append_assoc front states (n ∷ [])
noting_behind true (n ∷ more) [] states h = refl
noting_behind true (n ∷ more) (f ∷ front) [] h = absurd (omega (arith, h refl))
noting_behind true (n ∷ more) (f ∷ []) (s ∷ states) h = refl
noting_behind true (n ∷ more) (f ∷ k ∷ front) (s ∷ states) h = ap (λ (l : List ℕ). f ∷ l) (noting_behind true (n ∷ more) (k ∷ front) (s ∷ states) h)

pub full_some : (b : BallBox) → good b ≡ true → full b.memory ≡ true → 1 ≤ length (remembered b.memory)
full_some b g f = omega (arith, remembered_length b.memory (parts b g).memory, leb-true 8 b.memory.count f)

-- over every run: the states remembered at its start and then its changes are the states that finished reports showed and then those still remembered
pub in_order_behind : (b : BallBox) (g : UnderWay Message) (events : List Event) (front : List ℕ) → Streams b g → none_empties events ≡ true
    → states_over b (front ++ remembered b.memory) events ≡ front ++ (shown_by (passages_of b g events) ++ remembered (box_after b events).memory)
unfolding all_hosts states_over passages_over box_after
in_order_behind b g [] front h a = refl
in_order_behind b g (e ∷ events) front h a =
    let s = streams_step b e g h (left (hosts_pass (λ byte. not (empties byte)) e) (none_empties events) a) in
    let t = told_by b e g in
    let rest = in_order_behind (next_box b e) t.going events (front ++ shown_by t.passages) s.next (right (hosts_pass (λ byte. not (empties byte)) e) (none_empties events) a) in
    rw (
      noting_behind (full b.memory) (change_to b e) front (remembered b.memory) (full_some b h.good),
      s.order,
      ← append_assoc front (shown_by t.passages) (remembered (next_box b e).memory),
      finished_append shown_in t.passages,
      append_assoc (shown_by t.passages),
    )
    (rest ∙ append_assoc front (shown_by t.passages) _)

pub in_order : (b : BallBox) (g : UnderWay Message) (events : List Event) → Streams b g → none_empties events ≡ true
    → states_over b (remembered b.memory) events ≡ shown_by (passages_of b g events) ++ remembered (box_after b events).memory
in_order b g events h a = in_order_behind b g events [] h a

-- a step makes one change at most
OneAtMost : List ℕ → Type 0
OneAtMost [] = Unit {0}
OneAtMost (n ∷ []) = Unit {0}
OneAtMost (n ∷ m ∷ more) = ⊥

one_at_most : (b : BallBox) (e : Event) → OneAtMost (change_to b e)
unfolding OneAtMost
one_at_most b (Motion dx dy) = tt
one_at_most b (Buttons n) = cases OneAtMost (leb n 7 && not (eqb n b.settings.buttons)) (λ _. tt) (λ _. tt)
one_at_most b (Host byte) = tt
one_at_most b Latch = tt
one_at_most b Send = tt
one_at_most b Period = tt

noted_behind : (b : BallBox) (change states : List ℕ) → OneAtMost change → no_ninth b change ≡ true → noting (full b.memory) change states ≡ states ++ change
unfolding OneAtMost
noted_behind b [] states o h = sym (append-nil states)
noted_behind b (n ∷ []) states o h = rw (not-true (full b.memory) h)
noted_behind b (n ∷ m ∷ more) states o h = absurd o

-- where no change is a ninth, they are those remembered and then the changes
pub no_ninth_lem : (b : BallBox) (states : List ℕ) (events : List Event) → never_ninth b events ≡ true → states_over b states events ≡ states ++ changes_in b events
unfolding states_over never_ninth changes_in
no_ninth_lem b states [] h = sym (append-nil states)
no_ninth_lem b states (e ∷ events) h =
    no_ninth_lem (next_box b e) (noting (full b.memory) (change_to b e) states) events (right (no_ninth b (change_to b e)) (never_ninth (next_box b e) events) h)
    ∙ (ap (λ (l : List ℕ). l ++ changes_in (next_box b e) events) (noted_behind b (change_to b e) states (one_at_most b e) (left (no_ninth b (change_to b e)) (never_ninth (next_box b e) events) h))
    ∙ append_assoc states (change_to b e) (changes_in (next_box b e) events))

-- the box after a run, whatever answers are permitted
pub last_box_lem : (b : BallBox) (events : List Event) (answers : List Stepped) → RunPromise b events answers → last_box b answers ≡ box_after b events
unfolding RunPromise last_box box_after
last_box_lem b [] [] p = refl
last_box_lem b [] (a ∷ answers) p = absurd p
last_box_lem b (e ∷ events) [] p = absurd p
last_box_lem b (e ∷ events) (a ∷ answers) p =
    let n : a.next ≡ next_box b e = ap (λ (x : Stepped). x.next) p.0 in
    last_box_lem a.next events answers p.1 ∙ rw n

-- Motion, Buttons and Period leave the line
pub data Quiet : Event → Type 0 where
  motion : {dx dy : ℤ} → Quiet (Motion dx dy)
  buttons : {n : ℕ} → Quiet (Buttons n)
  period : Quiet Period

pub quiet_passes : {e : Event} → Quiet e → (hosts_pass (λ byte. not (empties byte)) e ≡ true) × (asks e ≡ true)
quiet_passes motion = (refl, refl)
quiet_passes buttons = (refl, refl)
quiet_passes period = (refl, refl)

quiet_awake : {e : Event} → Quiet e → (b : BallBox) (g : UnderWay Message) → when_awake b e g ≡ told [] g
quiet_awake motion b g = refl
quiet_awake buttons b g = refl
quiet_awake period b g = refl

pub quiet_told : (b : BallBox) (e : Event) (g : UnderWay Message) → dormant b ≡ false → Quiet e → told_by b e g ≡ told [] g
quiet_told b e g d q = go (above_seven e) refl
  where
    go : (t : Bool) → above_seven e ≡ t → told_by b e g ≡ told [] g
    go true p = refused_told b e g p
    go false p = told_is b e g false p d ∙ quiet_awake q b g

-- a change makes the states no fewer
last_length : (n : ℕ) (states : List ℕ) → length states ≤ length (in_place_of_last n states)
last_length n [] = omega arith
last_length n (s ∷ []) = omega arith
last_length n (s ∷ t ∷ states) = omega (arith, last_length n (t ∷ states))

pub noting_length : (ninth : Bool) (change states : List ℕ) → length states ≤ length (noting ninth change states)
noting_length ninth [] states = omega arith
noting_length false (n ∷ more) states = omega (arith, length-append states (n ∷ []))
noting_length true (n ∷ more) states = last_length n states

-- the first states stay, whatever comes behind them; a ninth change takes the place of the eighth, or of a later one
first_of_last : (j n : ℕ) (states : List ℕ) → j < length states → take j (in_place_of_last n states) ≡ take j states
first_of_last j n [] h = absurd (omega arith)
first_of_last zero n (s ∷ []) h = refl
first_of_last (suc j) n (s ∷ []) h = absurd (omega arith)
first_of_last zero n (s ∷ t ∷ states) h = refl
first_of_last (suc j) n (s ∷ t ∷ states) h = ap (λ (l : List ℕ). s ∷ l) (first_of_last j n (t ∷ states) (omega arith))

pub first_noted : (j : ℕ) (ninth : Bool) (change states : List ℕ) → j ≤ length states → (ninth ≡ true → j < length states) → take j (noting ninth change states) ≡ take j states
first_noted j ninth [] states h k = refl
first_noted j false (n ∷ more) states h k = take-append-le j states (n ∷ []) h
first_noted j true (n ∷ more) states h k = first_of_last j n states (k refl)

pub first_stay : (b : BallBox) (g : UnderWay Message) (events : List Event) (front : List ℕ) (j : ℕ) → Streams b g → none_empties events ≡ true → j ≤ 7
    → j ≤ length (front ++ remembered b.memory)
    → take j (states_over b (front ++ remembered b.memory) events) ≡ take j (front ++ remembered b.memory)
unfolding all_hosts states_over
first_stay b g [] front j h a few l = refl
first_stay b g (e ∷ events) front j h a few l =
    let s = streams_step b e g h (left (hosts_pass (λ byte. not (empties byte)) e) (none_empties events) a) in
    let t = told_by b e g in
    let states = front ++ remembered b.memory in
    let next : noting (full b.memory) (change_to b e) states ≡ (front ++ shown_by t.passages) ++ remembered (next_box b e).memory =
    noting_behind (full b.memory) (change_to b e) front (remembered b.memory) (full_some b h.good)
    ∙ (ap (λ (x : List ℕ). front ++ x) s.order ∙ sym (append_assoc front (shown_by t.passages) (remembered (next_box b e).memory))) in
    let same = first_noted j (full b.memory) (change_to b e) states l (λ f. omega (arith, length-append front (remembered b.memory), eight b h.good f)) in
    let longer = noting_length (full b.memory) (change_to b e) states in
    let rest = first_stay (next_box b e) t.going events (front ++ shown_by t.passages) j s.next
    (right (hosts_pass (λ byte. not (empties byte)) e) (none_empties events) a) few (omega (arith, ap length next)) in
    rw next (rest ∙ (rw (← next) same))
  where
    eight : (b : BallBox) → good b ≡ true → full b.memory ≡ true → 8 ≤ length (remembered b.memory)
    eight b g f = omega (arith, remembered_length b.memory (parts b g).memory, leb-true 8 b.memory.count f)

-- with no change none is a ninth
pub unchanged_never : (b : BallBox) (events : List Event) → changes_in b events ≡ [] → never_ninth b events ≡ true
unfolding changes_in never_ninth
unchanged_never b [] h = refl
unchanged_never b (e ∷ events) h = go (change_to b e) refl h (unchanged_never (next_box b e) events)
  where
    go : (c : List ℕ) → change_to b e ≡ c → change_to b e ++ changes_in (next_box b e) events ≡ []
        → (changes_in (next_box b e) events ≡ [] → never_ninth (next_box b e) events ≡ true)
        → no_ninth b (change_to b e) && never_ninth (next_box b e) events ≡ true
    go [] q h rest = rw (q, rest (rw q at h))
    go (n ∷ more) q h rest = absurd (omega (arith, ap length (rw q at h)))
