-- Within so many slots, each a Send with a Latch since the Send before: each state that is remembered has been shown after as many reports' worth of them.
use Prim.Native.Nat.{ℕ, zero, suc, ◌+◌, ◌-◌, ◌*◌, ◌≤◌, ◌<◌}
use mathlib.Core.Path.{◌≡◌, refl, sym, ◌∙◌, ap}
use mathlib.Core.Bool.{Bool, true, false, cond, ◌&&◌}
use mathlib.Core.List.{List, [], ◌∷◌, ◌++◌}
use native.Mathlib.Omega.{arith}
use lib.ListN.{length, length-append}
use lib.Dec.{eqb}
use borrow.Author.Tests.{eqb-true, eqb-false, lt-ltb}
use Rattle.numbers.proofs.Choices.{cases}
use Rattle.numbers.proofs.Tested.{holds}
use Rattle.frames.specs.Passages.{silent, UnderWay, nothing, first}
use Rattle.frames.specs.Sender.{told, sent_one, passages_over}
use Rattle.frames.proofs.Passages.{finished_append}
use Rattle.wire.specs.Line.{letter_of, size_by}
use Rattle.wire.specs.Messages.{Message, report, reply, message_bytes}
use Rattle.wire.proofs.Letters.{letter_named, size_named}
use Rattle.wire.proofs.Front.{size_between}
use Rattle.wire.proofs.Codec.{bytes_length}
use Rattle.ballbox.specs.Box.{due}
use Rattle.ballbox.specs.Presses.{remembered, any_remembered, full}
use Rattle.ballbox.specs.Latching.{latched_report}
use Rattle.ballbox.specs.Events.{wanted}
use Rattle.ballbox.specs.declared.BallBox.{BallBox}
use Rattle.ballbox.specs.declared.Event.{Event}
use Rattle.ballbox.specs.declared.Event.TheVariants.{Motion, Buttons, Host, Latch, Send, Period}
use Rattle.ballbox.proofs.Remembering.{remembered_length}
use Rattle.ballbox.proofs.Parts.{parts}
use Rattle.history.specs.History.{format_of, latched_now, begun, paired_at, is_five, told_by, next_box, passages_of}
use Rattle.history.specs.Asked.{all_hosts}
use Rattle.history.specs.Presses.{no_host, change_to, noting, shown_in, shown_by, slots_from}
use Rattle.history.proofs.Sending.{known_format}
use Rattle.history.proofs.Bridge.{told_is}
use Rattle.history.proofs.Asking.{step_alike}
use Rattle.history.proofs.Presses.{Streams, Step, streams_step, noting_length, Quiet, motion, buttons, period, quiet_passes, quiet_told}

-- a message that shows a remembered state
abbrev shows_in : Message → Bool
shows_in (report l) = l.shows
shows_in (reply bytes) = false

-- the slots until the first state has been shown, and until t have, where a report has so many bytes
abbrev pub to_come : ℕ → UnderWay Message → ℕ
to_come size nothing = size
to_come size (first n m) = cond (shows_in m) (length (message_bytes m) - n) (length (message_bytes m) - n + size)

abbrev pub need : ℕ → ℕ → UnderWay Message → ℕ
need size zero g = 0
need size (suc t) g = to_come size g + t * size

-- one byte more: none is shown by it, and the next is nearer; or one is
data Nearer (size t slots : ℕ) (shows : List ℕ) (g : UnderWay Message) : Type 0 where
  on_its_way : shows ≡ [] → need size (suc t) g ≤ slots → Nearer size t slots shows g
  one_shown : length shows ≡ 1 → need size t g ≤ slots → Nearer size t slots shows g

-- a byte more of a message
byte_nearer : (size t slots n : ℕ) (m : Message) → n < length (message_bytes m) → need size (suc t) (first n m) ≤ suc slots
    → Nearer size t slots (shown_by (sent_one message_bytes (first n m)).passages) (sent_one message_bytes (first n m)).going
byte_nearer size t slots n m l h = go (eqb (n + 1) (length (message_bytes m))) refl
  where
    rest_of : (u : ℕ) → t ≡ u → t * size ≤ slots → need size t nothing ≤ slots
    rest_of zero q k = rw q (omega arith)
    rest_of (suc u) q k = rw q (let z : suc u * size ≤ slots = rw q at k in omega arith)

    finishing : (k : Message) → n + 1 ≡ length (message_bytes k) → need size (suc t) (first n k) ≤ suc slots → Nearer size t slots (shown_in k ++ []) nothing
    finishing (report r) e b = shows_go r.shows refl
      where
        shows_go : (s : Bool) → r.shows ≡ s → Nearer size t slots (shown_in (report r) ++ []) nothing
        shows_go true s = rw s (one_shown refl (rest_of t refl (let z = rw s at b in omega arith)))
        shows_go false s = rw s (on_its_way refl (let z = rw s at b in omega arith))
    finishing (reply bytes) e b = on_its_way refl (omega arith)

    going_on : (s : Bool) → shows_in m ≡ s → (n + 1 ≡ length (message_bytes m) → ⊥) → need size (suc t) (first (n + 1) m) ≤ slots
    going_on true s d = rw s (let z = rw s at h in omega arith)
    going_on false s d = rw s (let z = rw s at h in omega arith)

    go : (b : Bool) → eqb (n + 1) (length (message_bytes m)) ≡ b
        → Nearer size t slots (shown_by (sent_one message_bytes (first n m)).passages) (sent_one message_bytes (first n m)).going
    go true e = rw e (finishing m (eqb-true _ _ e) h)
    go false e = rw e (on_its_way refl (going_on (shows_in m) refl (eqb-false _ _ e)))

-- the second pair of U changes neither the number of bytes nor what is shown
pair_length : (b : BallBox) (n : ℕ) (m : Message) → length (message_bytes (paired_at b n m)) ≡ length (message_bytes m)
pair_length b n (report l) = go (is_five l.format && eqb n 3) refl
  where
    go : (t : Bool) → is_five l.format && eqb n 3 ≡ t → length (message_bytes (paired_at b n (report l))) ≡ length (message_bytes (report l))
    go true e = rw (e, bytes_length l.format, bytes_length l.format)
    go false e = rw e
pair_length b n (reply bytes) = refl

pair_shows : (b : BallBox) (n : ℕ) (m : Message) → shows_in (paired_at b n m) ≡ shows_in m
pair_shows b n (report l) = cases (λ (m : Message). shows_in m ≡ l.shows) (is_five l.format && eqb n 3) (λ e. refl) (λ e. refl)
pair_shows b n (reply bytes) = refl

-- a report of the box has the format's size
latched_size : (b : BallBox) → Streams b nothing → length (message_bytes (report (latched_now b))) ≡ size_by b.settings.format
latched_size b h =
    let f = format_of b in
    bytes_length f (latched_report b) ∙ sym (ap size_by (known_format b h.good) ∙ size_named (letter_of f) (letter_named f))

some_wanted : (b : BallBox) → any_remembered b.memory ≡ true → wanted b ≡ true
some_wanted b a = go (due b) refl
  where
    go : (t : Bool) → due b ≡ t → wanted b ≡ true
    go true e = rw e
    go false e = rw (e, a)

-- what Latch leaves of a box that remembers a state: something is going, and the state is as near
pub data Underway : UnderWay Message → Type 0 where
  under_way : {n : ℕ} {m : Message} → Underway (first n m)

record Begun (b : BallBox) (t : ℕ) (g : UnderWay Message) : Type 0 where
  going : Underway (begun b g)
  near : need (size_by b.settings.format) (suc t) (begun b g) ≡ need (size_by b.settings.format) (suc t) g

latch_near : (b : BallBox) (g : UnderWay Message) (t : ℕ) → Streams b g → suc t ≤ length (remembered b.memory) → Begun b t g
latch_near b (first n m) t h k = record { going = under_way; near = refl }
latch_near b nothing t h k =
    let some : any_remembered b.memory ≡ true = lt-ltb 0 b.memory.count (omega (arith, remembered_length b.memory (parts b h.good).memory)) in
    let w = some_wanted b some in
    record { going = rw w under_way; near = rw (w, some) (omega (arith, latched_size b h)) }

-- a byte more of what is going
send_nearer : (b : BallBox) (n : ℕ) (m : Message) (t slots : ℕ) → Streams b (first n m) → need (size_by b.settings.format) (suc t) (first n m) ≤ suc slots
    → Nearer (size_by b.settings.format) t slots (shown_by (told_by b Send (first n m)).passages) (told_by b Send (first n m)).going
send_nearer b n m t slots h k =
    rw (told_is b Send (first n m) false refl h.awake)
    (byte_nearer (size_by b.settings.format) t slots n (paired_at b n m) (rw (pair_length b n m) h.carries.1.left)
    (rw (pair_shows b n m, pair_length b n m) k))

size_three : (b : BallBox) (g : UnderWay Message) → Streams b g → 3 ≤ size_by b.settings.format
size_three b g h = rw (known_format b h.good, size_named (letter_of (format_of b)) (letter_named (format_of b))) (size_between (format_of b)).0

some_come : (b : BallBox) (g : UnderWay Message) → Streams b g → 1 ≤ to_come (size_by b.settings.format) g
some_come b nothing h = omega (arith, size_three b nothing h)
some_come b (first n m) h = go (shows_in m) refl
  where
    go : (t : Bool) → shows_in m ≡ t → 1 ≤ to_come (size_by b.settings.format) (first n m)
    go true e = rw e (omega (arith, h.carries.1.left))
    go false e = rw e (omega (arith, h.carries.1.left))

-- since a Latch, where a state is to be shown, something is going
abbrev Ready : Bool → ℕ → UnderWay Message → Type 0
Ready false t g = Unit {0}
Ready true zero g = Unit {0}
Ready true (suc t) g = Underway g

-- so many states have been shown over these events
abbrev ShownOver : BallBox → UnderWay Message → Bool → List Event → Type 0
ShownOver b g latched events =
    (t : ℕ) → Streams b g → Ready latched t g → t ≤ length (remembered b.memory) → need (size_by b.settings.format) t g ≤ slots_from latched events
    → t ≤ length (shown_by (passages_of b g events))

-- an event in front of them
over_quiet : (b : BallBox) (g : UnderWay Message) (latched : Bool) (e : Event) (events : List Event) → Quiet e → slots_from latched (e ∷ events) ≡ slots_from latched events
    → ShownOver (next_box b e) g latched events → ShownOver b g latched (e ∷ events)
unfolding passages_over
over_quiet b g latched e events q same rest t h r l n =
    let s = streams_step b e g h (quiet_passes q).0 in
    let d = quiet_told b e g h.awake q in
    let f = (step_alike b e (quiet_passes q).1 h.good h.awake).format in
    let more = noting_length (full b.memory) (change_to b e) (remembered b.memory) in
    let kept : noting (full b.memory) (change_to b e) (remembered b.memory) ≡ remembered (next_box b e).memory = rw d at s.order in
    rw d (rest t (rw d at s.next) r (omega (arith, ap length kept)) (rw (f, ← same) n))

over_latch : (b : BallBox) (g : UnderWay Message) (latched : Bool) (events : List Event) → slots_from latched (Latch ∷ events) ≡ slots_from true events
    → ShownOver (next_box b Latch) (told_by b Latch g).going true events → ShownOver b g latched (Latch ∷ events)
unfolding passages_over
over_latch b g latched events same rest zero h r l n = omega arith
over_latch b g latched events same rest (suc t) h r l n =
    let s = streams_step b Latch g h refl in
    let d = told_is b Latch g false refl h.awake in
    let f = (step_alike b Latch refl h.good h.awake).format in
    let kept : remembered b.memory ≡ remembered (next_box b Latch).memory = rw d at s.order in
    let k = latch_near b g t h l in
    rw d ((rw d at rest) (suc t) (rw d at s.next) k.going (omega (arith, ap length kept)) (rw (f, k.near, ← same) n))

over_send : (b : BallBox) (g : UnderWay Message) (latched : Bool) (events : List Event) → slots_from latched (Send ∷ events) ≡ cond latched 1 0 + slots_from false events
    → ShownOver (next_box b Send) (told_by b Send g).going false events → ShownOver b g latched (Send ∷ events)
unfolding passages_over
over_send b g latched events same rest zero h r l n = omega arith
over_send b nothing false events same rest (suc t) h r l n =
    let s = streams_step b Send nothing h refl in
    let d : told_by b Send nothing ≡ told (silent ∷ []) nothing = told_is b Send nothing false refl h.awake in
    let f = (step_alike b Send refl h.good h.awake).format in
    let kept : remembered b.memory ≡ remembered (next_box b Send).memory = rw d at s.order in
    rw d ((rw d at rest) (suc t) (rw d at s.next) tt (omega (arith, ap length kept)) (rw f (omega (arith, n, same))))
over_send b nothing true events same rest (suc t) h r l n = elim r [ ]
over_send b (first i m) latched events same rest (suc t) h r l n =
    go (send_nearer b i m t (slots_from false events) h (omega (arith, n, same, one_slot)))
  where
    one_slot : cond latched 1 0 ≤ 1
    one_slot = cases (λ (k : ℕ). k ≤ 1) latched (λ e. omega arith) (λ e. omega arith)

    g : UnderWay Message
    g = first i m

    size : ℕ
    size = size_by b.settings.format

    now : List ℕ
    now = shown_by (told_by b Send g).passages

    later : List ℕ
    later = shown_by (passages_of (next_box b Send) (told_by b Send g).going events)

    s : Step b Send g
    s = streams_step b Send g h refl

    order : length (remembered b.memory) ≡ length now + length (remembered (next_box b Send).memory)
    order = ap length s.order ∙ length-append now (remembered (next_box b Send).memory)

    format : (next_box b Send).settings.format ≡ b.settings.format
    format = (step_alike b Send refl h.good h.awake).format

    all : shown_by (passages_of b g (Send ∷ events)) ≡ now ++ later
    all = finished_append shown_in (told_by b Send g).passages (passages_of (next_box b Send) (told_by b Send g).going events)

    go : Nearer size t (slots_from false events) now (told_by b Send g).going → suc t ≤ length (shown_by (passages_of b g (Send ∷ events)))
    go (on_its_way none near) =
        let k = rest (suc t) s.next tt (omega (arith, order, ap length none)) (rw format near) in
        rw (all, length-append now later) (omega (arith, k))
    go (one_shown one near) =
        let k = rest t s.next tt (omega (arith, order)) (rw format near) in
        rw (all, length-append now later) (omega (arith, k))

-- with as many slots as t states need, t have been shown
pub shown_within : (b : BallBox) (g : UnderWay Message) (latched : Bool) (events : List Event) → no_host events ≡ true → ShownOver b g latched events
unfolding all_hosts slots_from
shown_within b g latched [] a zero h r l n = omega arith
shown_within b g latched [] a (suc t) h r l n = absurd (omega (arith, some_come b g h))
shown_within b g latched (Motion dx dy ∷ events) a t h r l n = over_quiet b g latched (Motion dx dy) events motion refl (shown_within (next_box b (Motion dx dy)) g latched events a) t h r l n
shown_within b g latched (Buttons k ∷ events) a t h r l n = over_quiet b g latched (Buttons k) events buttons refl (shown_within (next_box b (Buttons k)) g latched events a) t h r l n
shown_within b g latched (Host byte ∷ events) a t h r l n = absurd (holds a)
shown_within b g latched (Latch ∷ events) a t h r l n = over_latch b g latched events refl (shown_within (next_box b Latch) (told_by b Latch g).going true events a) t h r l n
shown_within b g latched (Send ∷ events) a t h r l n = over_send b g latched events refl (shown_within (next_box b Send) (told_by b Send g).going false events a) t h r l n
shown_within b g latched (Period ∷ events) a t h r l n = over_quiet b g latched Period events period refl (shown_within (next_box b Period) g latched events a) t h r l n

message_size : (b : BallBox) (n : ℕ) (m : Message) → Streams b (first n m) → length (message_bytes m) ≤ size_by b.settings.format
message_size b n (report l) h =
    let f = l.format in
    rw (h.carries.1.sendable.0, size_named (letter_of f) (letter_named f), bytes_length f l.report) (omega arith)
message_size b n (reply bytes) h = omega (arith, h.carries.1.sendable, size_three b (first n (reply bytes)) h)

most_come : (b : BallBox) (g : UnderWay Message) → Streams b g → to_come (size_by b.settings.format) g ≤ 2 * size_by b.settings.format
most_come b nothing h = omega arith
most_come b (first n m) h = go (shows_in m) refl
  where
    go : (t : Bool) → shows_in m ≡ t → to_come (size_by b.settings.format) (first n m) ≤ 2 * size_by b.settings.format
    go true e = rw e (omega (arith, message_size b n m h))
    go false e = rw e (omega (arith, message_size b n m h))

-- (k + 1) reports' worth of slots are enough for k
pub enough_slots : (b : BallBox) (g : UnderWay Message) (k : ℕ) → Streams b g → need (size_by b.settings.format) k g ≤ suc k * size_by b.settings.format
enough_slots b g zero h = omega arith
enough_slots b g (suc k) h = omega (arith, most_come b g h)
