-- A broken-off report that showed a state is followed by another with the same buttons.
use Prim.Native.Nat.{ℕ, ◌+◌, ◌≤◌}
use mathlib.Core.Path.{◌≡◌, refl, sym, ◌∙◌, ap}
use mathlib.Core.Bool.{Bool, true, false, not, ◌&&◌}
use mathlib.Core.List.{List, [], ◌∷◌, ◌++◌}
use native.Mathlib.Omega.{arith}
use lib.ListN.{length, take}
use lib.Dec.{eqb}
use borrow.Author.Tests.{leb-true, lt-ltb}
use Rattle.numbers.proofs.Choices.{cases}
use Rattle.numbers.proofs.Tested.{holds, left, right}
use Rattle.frames.specs.Passages.{Passage, silent, finished, broken, UnderWay, nothing, first, Unbroken}
use Rattle.frames.specs.Sender.{Told, told, sent_one, passages_over, going_over}
use Rattle.wire.specs.Messages.{Message, report, reply, message_bytes}
use Rattle.ballbox.specs.Box.{dormant}
use Rattle.ballbox.specs.Presses.{remembered, any_remembered, full}
use Rattle.ballbox.specs.Latching.{latched_report}
use Rattle.ballbox.specs.Commands.{command_of, reply_to}
use Rattle.ballbox.specs.Events.{wanted}
use Rattle.ballbox.specs.declared.BallBox.{BallBox}
use Rattle.ballbox.specs.declared.Event.{Event}
use Rattle.ballbox.specs.declared.Event.TheVariants.{Motion, Buttons, Host, Latch, Send, Period}
use Rattle.ballbox.proofs.Remembering.{remembered_length}
use Rattle.ballbox.proofs.Parts.{parts}
use Rattle.history.specs.History.{latched_now, begun, paired_at, paired, is_five, unsent_reply, told_by, next_box, passages_of, going_after}
use Rattle.history.specs.Asked.{hosts_pass, all_hosts}
use Rattle.history.specs.Presses.{empties, none_empties, no_host, change_to, noting, shown_by, Shows, ShowsIn, NextShows, ShownAgain}
use Rattle.history.proofs.Bridge.{told_is}
use Rattle.history.proofs.Showing.{first_shown}
use Rattle.history.proofs.Presses.{Streams, Step, streams_step, first_noted, Quiet, motion, buttons, period, quiet_told}

-- the box remembers this state first, and the report that is going, if one is, shows it
pub record First (state : ℕ) (b : BallBox) (g : UnderWay Message) : Type 0 where
  pub streams : Streams b g
  pub is : take 1 (remembered b.memory) ≡ state ∷ []
  pub shows : NextShows state [] g

some_first : (state : ℕ) (l : List ℕ) → take 1 l ≡ state ∷ [] → 1 ≤ length l
some_first state [] e = absurd (omega (arith, ap length e))
some_first state (x ∷ l) e = omega arith

-- a step that ended no report leaves it first
still_first : (state : ℕ) (b : BallBox) (e : Event) (g : UnderWay Message) → First state b g → Step b e g → shown_by (told_by b e g).passages ≡ [] → NextShows state [] (told_by b e g).going
    → First state (next_box b e) (told_by b e g).going
still_first state b e g h s none shows =
    let states = remembered b.memory in
    let some = some_first state states h.is in
    let now : noting (full b.memory) (change_to b e) states ≡ remembered (next_box b e).memory = s.order ∙ rw none in
    record {
      streams = s.next;
      is = ap (take 1) (sym now) ∙ (first_noted 1 (full b.memory) (change_to b e) states some (λ f. omega (arith, remembered_length b.memory (parts b h.streams.good).memory, leb-true 8 b.memory.count f)) ∙ h.is);
      shows = shows;
    }

-- what a step ends, in front of what comes later: it is decided, or left to what comes later
data Decides (state : ℕ) (passages : List (Passage Message)) (b : BallBox) (g : UnderWay Message) : Type 0 where
  decided : ((rest : List (Passage Message)) (end : UnderWay Message) → NextShows state (passages ++ rest) end) → Decides state passages b g
  left_over : First state b g → ((rest : List (Passage Message)) (end : UnderWay Message) → NextShows state rest end → NextShows state (passages ++ rest) end) → Decides state passages b g

reply_shows : (state : ℕ) (bytes : List ℕ) → NextShows state [] (unsent_reply bytes)
reply_shows state [] = tt
reply_shows state (byte ∷ bytes) = tt

quiet_decides : (state : ℕ) (b : BallBox) (e : Event) (g : UnderWay Message) → First state b g → Quiet e → Step b e g → Decides state (told_by b e g).passages (next_box b e) (told_by b e g).going
quiet_decides state b e g h q s =
    let d = quiet_told b e g h.streams.awake q in
    let f = still_first state b e g h s (rw d refl) (rw d h.shows) in
    rw d (left_over (rw d at f) (λ rest end k. k))

host_decides : (state : ℕ) (b : BallBox) (byte : ℕ) (g : UnderWay Message) → First state b g → Step b (Host byte) g
    → Decides state (told_by b (Host byte) g).passages (next_box b (Host byte)) (told_by b (Host byte) g).going
host_decides state b byte nothing h s =
    let d = told_is b (Host byte) nothing false refl h.streams.awake in
    let f = still_first state b (Host byte) nothing h s (rw d refl) (rw d (reply_shows state (reply_to b (command_of byte)))) in
    rw d (left_over (rw d at f) (λ rest end k. k))
host_decides state b byte (first n (report l)) h s =
    let d = told_is b (Host byte) (first n (report l)) false refl h.streams.awake in
    rw d (decided (λ rest end. h.shows))
host_decides state b byte (first n (reply bytes)) h s =
    let d = told_is b (Host byte) (first n (reply bytes)) false refl h.streams.awake in
    let f = still_first state b (Host byte) (first n (reply bytes)) h s (rw d refl) (rw d (reply_shows state (reply_to b (command_of byte)))) in
    rw d (left_over (rw d at f) (λ rest end k. k))

-- one byte more of this goes out, which shows the state if it is a report
byte_decides : (state : ℕ) (b : BallBox) (g : UnderWay Message) (n : ℕ) (m : Message) → First state b g → Step b Send g → told_by b Send g ≡ sent_one message_bytes (first n m) → ShowsIn state m
    → Decides state (told_by b Send g).passages (next_box b Send) (told_by b Send g).going
byte_decides state b g n m h s d k = go m (eqb (n + 1) (length (message_bytes m))) d k refl
  where
    go : (m : Message) (t : Bool) → told_by b Send g ≡ sent_one message_bytes (first n m) → ShowsIn state m → eqb (n + 1) (length (message_bytes m)) ≡ t
        → Decides state (told_by b Send g).passages (next_box b Send) (told_by b Send g).going
    go (report l) true d k e =
        let is : told_by b Send g ≡ told (finished (report l) ∷ []) nothing = d ∙ rw e in
        rw is (decided (λ rest end. k))
    go (reply bytes) true d k e =
        let is : told_by b Send g ≡ told (finished (reply bytes) ∷ []) nothing = d ∙ rw e in
        let f = still_first state b Send g h s (rw is refl) (rw is tt) in
        rw is (left_over (rw is at f) (λ rest end j. j))
    go m false d k e =
        let is : told_by b Send g ≡ told [] (first (n + 1) m) = d ∙ rw e in
        let f = still_first state b Send g h s (rw is refl) (rw is k) in
        rw is (left_over (rw is at f) (λ rest end j. j))

-- a report that is latched now shows it
latched_shows : (state : ℕ) (b : BallBox) (g : UnderWay Message) → First state b g → Shows state (latched_now b)
unfolding latched_report
latched_shows state b g h =
    let k = (parts b h.streams.good).memory in
    let some = some_first state (remembered b.memory) h.is in
    let any : any_remembered b.memory ≡ true = lt-ltb 0 b.memory.count (omega (arith, remembered_length b.memory k)) in
    let same = sym (first_shown b k any) ∙ h.is in
    (any, cc)

pair_shows : (state : ℕ) (b : BallBox) (n : ℕ) (m : Message) → ShowsIn state m → ShowsIn state (paired_at b n m)
pair_shows state b n (report l) k = go (is_five l.format && eqb n 3) refl
  where
    go : (t : Bool) → is_five l.format && eqb n 3 ≡ t → ShowsIn state (paired_at b n (report l))
    go true e = rw e k
    go false e = rw e k
pair_shows state b n (reply bytes) k = tt

send_decides : (state : ℕ) (b : BallBox) (g : UnderWay Message) → First state b g → Step b Send g → Decides state (told_by b Send g).passages (next_box b Send) (told_by b Send g).going
send_decides state b (first n m) h s =
    byte_decides state b (first n m) n (paired_at b n m) h s (told_is b Send (first n m) false refl h.streams.awake) (pair_shows state b n m h.shows)
send_decides state b nothing h s =
    let d : told_by b Send nothing ≡ told (silent ∷ []) nothing = told_is b Send nothing false refl h.streams.awake in
    let f = still_first state b Send nothing h s (rw d refl) (rw d tt) in
    rw d (left_over (rw d at f) (λ rest end j. j))

begun_shows : (state : ℕ) (b : BallBox) (g : UnderWay Message) → First state b g → NextShows state [] (begun b g)
begun_shows state b (first n m) h = h.shows
begun_shows state b nothing h = cases (NextShows state []) (wanted b) (λ e. latched_shows state b nothing h) (λ e. tt)

latch_decides : (state : ℕ) (b : BallBox) (g : UnderWay Message) → First state b g → Step b Latch g → Decides state (told_by b Latch g).passages (next_box b Latch) (told_by b Latch g).going
latch_decides state b g h s =
    let d = told_is b Latch g false refl h.streams.awake in
    let f = still_first state b Latch g h s (rw d refl) (rw d (begun_shows state b g h)) in
    rw d (left_over (rw d at f) (λ rest end k. k))

step_decides : (state : ℕ) (b : BallBox) (e : Event) (g : UnderWay Message) → First state b g → hosts_pass (λ byte. not (empties byte)) e ≡ true
    → Decides state (told_by b e g).passages (next_box b e) (told_by b e g).going
step_decides state b (Motion dx dy) g h a = quiet_decides state b (Motion dx dy) g h motion (streams_step b (Motion dx dy) g h.streams a)
step_decides state b (Buttons n) g h a = quiet_decides state b (Buttons n) g h buttons (streams_step b (Buttons n) g h.streams a)
step_decides state b (Host byte) g h a = host_decides state b byte g h (streams_step b (Host byte) g h.streams a)
step_decides state b Latch g h a = latch_decides state b g h (streams_step b Latch g h.streams a)
step_decides state b Send g h a = send_decides state b g h (streams_step b Send g h.streams a)
step_decides state b Period g h a = quiet_decides state b Period g h period (streams_step b Period g h.streams a)

-- so that the next report shows it
next_shows : (state : ℕ) (b : BallBox) (g : UnderWay Message) (events : List Event) → First state b g → none_empties events ≡ true → NextShows state (passages_of b g events) (going_after b g events)
unfolding all_hosts passages_over going_over
next_shows state b g [] h a = h.shows
next_shows state b g (e ∷ events) h a =
    let pass = hosts_pass (λ byte. not (empties byte)) e in
    go (step_decides state b e g h (left pass (none_empties events) a)) (λ f. next_shows state (next_box b e) (told_by b e g).going events f (right pass (none_empties events) a))
  where
    go : Decides state (told_by b e g).passages (next_box b e) (told_by b e g).going
        → (First state (next_box b e) (told_by b e g).going → NextShows state (passages_of (next_box b e) (told_by b e g).going events) (going_after (next_box b e) (told_by b e g).going events))
        → NextShows state ((told_by b e g).passages ++ passages_of (next_box b e) (told_by b e g).going events) (going_after (next_box b e) (told_by b e g).going events)
    go (decided k) later = k _ _
    go (left_over f k) later = k _ _ (later f)

-- passages of which none is broken off, in front of others
again_behind : (p rest : List (Passage Message)) (end : UnderWay Message) → Unbroken p → ShownAgain rest end → ShownAgain (p ++ rest) end
again_behind [] rest end u h = h
again_behind (silent ∷ p) rest end u h = again_behind p rest end u h
again_behind (finished m ∷ p) rest end u h = again_behind p rest end u h
again_behind (broken n m ∷ p) rest end u h = absurd u

sent_unbroken : (g : UnderWay Message) → Unbroken (sent_one message_bytes g).passages
sent_unbroken nothing = tt
sent_unbroken (first n m) = cases (λ (t : Told Message). Unbroken t.passages) (eqb (n + 1) (length (message_bytes m))) (λ e. tt) (λ e. tt)

quiet_unbroken : (b : BallBox) (e : Event) (g : UnderWay Message) → dormant b ≡ false → Quiet e → Unbroken (told_by b e g).passages
quiet_unbroken b e g d q = rw (quiet_told b e g d q) tt

latch_unbroken : (b : BallBox) (g : UnderWay Message) → dormant b ≡ false → Unbroken (told_by b Latch g).passages
latch_unbroken b g d = rw (told_is b Latch g false refl d) tt

send_unbroken : (b : BallBox) (g : UnderWay Message) → dormant b ≡ false → Unbroken (told_by b Send g).passages
send_unbroken b g d = rw (told_is b Send g false refl d) (sent_unbroken (paired b g))

-- a report that a byte of the host's broke off, and what comes behind it
host_again : (b : BallBox) (byte : ℕ) (g : UnderWay Message) (events : List Event) → Streams b g → Step b (Host byte) g → none_empties events ≡ true
    → ShownAgain (passages_of (next_box b (Host byte)) (told_by b (Host byte) g).going events) (going_after (next_box b (Host byte)) (told_by b (Host byte) g).going events)
    → ShownAgain ((told_by b (Host byte) g).passages ++ passages_of (next_box b (Host byte)) (told_by b (Host byte) g).going events) (going_after (next_box b (Host byte)) (told_by b (Host byte) g).going events)
host_again b byte g events h s a rest = go g h s rest
  where
    go : (g : UnderWay Message) → Streams b g → Step b (Host byte) g
        → ShownAgain (passages_of (next_box b (Host byte)) (told_by b (Host byte) g).going events) (going_after (next_box b (Host byte)) (told_by b (Host byte) g).going events)
        → ShownAgain ((told_by b (Host byte) g).passages ++ passages_of (next_box b (Host byte)) (told_by b (Host byte) g).going events) (going_after (next_box b (Host byte)) (told_by b (Host byte) g).going events)
    go nothing h s rest =
        let d = told_is b (Host byte) nothing false refl h.awake in
        rw d (rw d at rest)
    go (first n (reply bytes)) h s rest =
        let d = told_is b (Host byte) (first n (reply bytes)) false refl h.awake in
        rw d (rw d at rest)
    go (first n (report l)) h s rest =
        let g : UnderWay Message = first n (report l) in
        let d = told_is b (Host byte) g false refl h.awake in
        let later : l.shows ≡ true → NextShows l.report.buttons (passages_of (next_box b (Host byte)) (told_by b (Host byte) g).going events) (going_after (next_box b (Host byte)) (told_by b (Host byte) g).going events) =
        λ w.
        let shown : First l.report.buttons b g = record { streams = h; is = h.showing.1 w; shows = (w, refl) } in
        let f = still_first l.report.buttons b (Host byte) g shown s (rw d refl) (rw d (reply_shows l.report.buttons (reply_to b (command_of byte)))) in
        next_shows l.report.buttons (next_box b (Host byte)) (told_by b (Host byte) g).going events f a in
        rw d (rw d at later, rw d at rest)

-- over every run
pub shown_again : (b : BallBox) (g : UnderWay Message) (events : List Event) → Streams b g → none_empties events ≡ true → ShownAgain (passages_of b g events) (going_after b g events)
unfolding all_hosts passages_over going_over
shown_again b g [] h a = tt
shown_again b g (Motion dx dy ∷ events) h a =
    let s = streams_step b (Motion dx dy) g h refl in
    again_behind (told_by b (Motion dx dy) g).passages _ _ (quiet_unbroken b (Motion dx dy) g h.awake motion) (shown_again (next_box b (Motion dx dy)) (told_by b (Motion dx dy) g).going events s.next a)
shown_again b g (Buttons n ∷ events) h a =
    let s = streams_step b (Buttons n) g h refl in
    again_behind (told_by b (Buttons n) g).passages _ _ (quiet_unbroken b (Buttons n) g h.awake buttons) (shown_again (next_box b (Buttons n)) (told_by b (Buttons n) g).going events s.next a)
shown_again b g (Host byte ∷ events) h a =
    let s = streams_step b (Host byte) g h (left (not (empties byte)) (none_empties events) a) in
    let more = right (not (empties byte)) (none_empties events) a in
    host_again b byte g events h s more (shown_again (next_box b (Host byte)) (told_by b (Host byte) g).going events s.next more)
shown_again b g (Latch ∷ events) h a =
    let s = streams_step b Latch g h refl in
    again_behind (told_by b Latch g).passages _ _ (latch_unbroken b g h.awake) (shown_again (next_box b Latch) (told_by b Latch g).going events s.next a)
shown_again b g (Send ∷ events) h a =
    let s = streams_step b Send g h refl in
    again_behind (told_by b Send g).passages _ _ (send_unbroken b g h.awake) (shown_again (next_box b Send) (told_by b Send g).going events s.next a)
shown_again b g (Period ∷ events) h a =
    let s = streams_step b Period g h refl in
    again_behind (told_by b Period g).passages _ _ (quiet_unbroken b Period g h.awake period) (shown_again (next_box b Period) (told_by b Period g).going events s.next a)

-- with no byte of the host's nothing is broken off
unbroken_append : (p q : List (Passage Message)) → Unbroken p → Unbroken q → Unbroken (p ++ q)
unbroken_append [] q u v = v
unbroken_append (silent ∷ p) q u v = unbroken_append p q u v
unbroken_append (finished m ∷ p) q u v = unbroken_append p q u v
unbroken_append (broken n m ∷ p) q u v = absurd u

pub no_host_unbroken : (b : BallBox) (g : UnderWay Message) (events : List Event) → Streams b g → no_host events ≡ true → Unbroken (passages_of b g events)
unfolding all_hosts passages_over
no_host_unbroken b g [] h a = tt
no_host_unbroken b g (Motion dx dy ∷ events) h a =
    unbroken_append (told_by b (Motion dx dy) g).passages _ (quiet_unbroken b (Motion dx dy) g h.awake motion)
    (no_host_unbroken (next_box b (Motion dx dy)) (told_by b (Motion dx dy) g).going events (streams_step b (Motion dx dy) g h refl).next a)
no_host_unbroken b g (Buttons n ∷ events) h a =
    unbroken_append (told_by b (Buttons n) g).passages _ (quiet_unbroken b (Buttons n) g h.awake buttons)
    (no_host_unbroken (next_box b (Buttons n)) (told_by b (Buttons n) g).going events (streams_step b (Buttons n) g h refl).next a)
no_host_unbroken b g (Host byte ∷ events) h a = absurd (holds a)
no_host_unbroken b g (Latch ∷ events) h a =
    unbroken_append (told_by b Latch g).passages _ (latch_unbroken b g h.awake) (no_host_unbroken (next_box b Latch) (told_by b Latch g).going events (streams_step b Latch g h refl).next a)
no_host_unbroken b g (Send ∷ events) h a =
    unbroken_append (told_by b Send g).passages _ (send_unbroken b g h.awake) (no_host_unbroken (next_box b Send) (told_by b Send g).going events (streams_step b Send g h refl).next a)
no_host_unbroken b g (Period ∷ events) h a =
    unbroken_append (told_by b Period g).passages _ (quiet_unbroken b Period g h.awake period) (no_host_unbroken (next_box b Period) (told_by b Period g).going events (streams_step b Period g h refl).next a)
