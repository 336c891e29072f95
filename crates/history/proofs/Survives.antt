-- A press survives: within so many slots a finished report shows it, in the middle of a report too.
use Prim.Native.Nat.{ℕ, suc, ◌*◌, ◌≤◌}
use mathlib.Core.Path.{◌≡◌, refl, sym, ◌∙◌, ap, ap₂}
use mathlib.Core.Bool.{Bool, true, false, not}
use mathlib.Core.List.{List, [], ◌∷◌, ◌++◌, map, append-nil, append_assoc}
use native.Mathlib.Omega.{arith}
use lib.ListN.{length, take, drop, length-append, take-append-drop}
use lib.Seq.{take-append-le, take_at}
use lib.Dec.{eqb}
use borrow.Author.Tests.{le-leb, not-true}
use Rattle.numbers.proofs.Choices.{or_else, neither, both}
use Rattle.numbers.proofs.Tested.{holds, left, right}
use Rattle.frames.specs.Passages.{Passage, silent, finished, broken, UnderWay, Unbroken, Sub, none, gone, stays}
use Rattle.frames.specs.Sender.{passages_over, going_over}
use Rattle.frames.proofs.Sub.{sub_then, sub_take, sub_map}
use Rattle.frames.proofs.Passages.{sound_append}
use Rattle.wire.specs.Line.{letter_of, size_by, known}
use Rattle.wire.specs.Messages.{Latched, Message, report, reply, message_bytes, HeldBy, SoundIn, SoundEnd, finished_reports}
use Rattle.wire.specs.declared.Format.{Format}
use Rattle.wire.specs.Buttons.{buttons_of, buttons_in}
use Rattle.wire.proofs.Buttons.{carried_in}
use Rattle.ballbox.specs.Box.{mode_d}
use Rattle.ballbox.specs.Presses.{remembered, full}
use Rattle.ballbox.specs.Commands.{is_stream, is_command, asks_for_reports, command_of, letter_p, letterd, space, letterf, lettert, byte05}
use Rattle.ballbox.specs.declared.BallBox.{BallBox}
use Rattle.ballbox.specs.declared.Event.{Event}
use Rattle.ballbox.specs.declared.Event.TheVariants.{Motion, Buttons, Host, Latch, Send, Period}
use Rattle.history.specs.History.{told_by, next_box, passages_of, going_after}
use Rattle.history.specs.Asked.{hosts_pass, all_hosts, unanswered, all_unanswered}
use Rattle.history.specs.Presses.{empties, none_empties, no_host, KeptOver, among_seven, without_ninth, change_to, changes_in, noting, states_over, shown_by, slots_in, box_after}
use Rattle.history.specs.Carried.{Carrying, SetTo}
use Rattle.history.proofs.Asking.{Asking, asking_command, Asks, set_sound, asked_step, hosts_by}
use Rattle.history.proofs.Presses as p
use Rattle.history.proofs.Presses.{Streams, streams_step}
use Rattle.history.proofs.Within as within
use Rattle.history.proofs.Again.{no_host_unbroken}
use Rattle.history.proofs.Ever.{carrying_after}

-- Two runs, one behind the other.
pub passages_then : (b : BallBox) (g : UnderWay Message) (front back : List Event)
    → passages_of b g (front ++ back) ≡ passages_of b g front ++ passages_of (box_after b front) (going_after b g front) back
unfolding passages_over going_over box_after
passages_then b g [] back = refl
passages_then b g (e ∷ front) back = rw (passages_then (next_box b e) (told_by b e g).going front back, append_assoc)

pub hosts_then : (test : ℕ → Bool) (front back : List Event) → all_hosts test front ≡ true → all_hosts test back ≡ true → all_hosts test (front ++ back) ≡ true
unfolding all_hosts
hosts_then test [] back h k = k
hosts_then test (e ∷ front) back h k =
    both (hosts_pass test e) (all_hosts test (front ++ back)) (left (hosts_pass test e) (all_hosts test front) h) (hosts_then test front back (right (hosts_pass test e) (all_hosts test front) h) k)

-- A byte without a reply leaves the format.
no_command : (byte : ℕ) → is_command byte ≡ false → Asking (command_of byte)
unfolding command_of
no_command byte h =
    let a8 = neither _ (eqb byte letterd) h in
    let a7 = neither _ (eqb byte byte05) a8.0 in
    let a6 = neither _ (eqb byte lettert) a7.0 in
    let a5 = neither _ (eqb byte letterf) a6.0 in
    let a4 = neither _ (eqb byte space) a5.0 in
    let a3 = neither _ (eqb byte letter_p) a4.0 in
    let a2 = neither _ (eqb byte mode_d) a3.0 in
    let a1 = neither (known byte) (is_stream byte) a2.0 in
    rw (a1.0, a1.1, a2.1, a3.1, a4.1, a5.1, a6.1, a7.1, a8.1) tt

unanswered_asks : (byte : ℕ) → unanswered byte ≡ true → Asking (command_of byte)
unanswered_asks byte = or_else (asks_for_reports byte) (not (is_command byte)) (asking_command byte) (λ n. no_command byte (not-true _ n))

pub no_host_any : (test : ℕ → Bool) (events : List Event) → no_host events ≡ true → all_hosts test events ≡ true
no_host_any test = hosts_by (λ byte. false) test (λ byte h. absurd (holds h))

asks_of : (e : Event) → hosts_pass unanswered e ≡ true → Asks e
asks_of (Motion dx dy) h = tt
asks_of (Buttons n) h = tt
asks_of (Host byte) h = unanswered_asks byte h
asks_of Latch h = tt
asks_of Send h = tt
asks_of Period h = tt

-- over such a run the line is one of f
pub set_after : (f : Format) (b : BallBox) (g : UnderWay Message) (events : List Event) → all_unanswered events ≡ true → SetTo f b g
    → SoundIn f (passages_of b g events) × SetTo f (box_after b events) (going_after b g events)
unfolding all_hosts passages_over going_over box_after
set_after f b g [] a h = (tt, h)
set_after f b g (e ∷ events) a h =
    let s = asked_step f b e g (asks_of e (left (hosts_pass unanswered e) (all_unanswered events) a)) h in
    let r = set_after f (next_box b e) (told_by b e g).going events (right (hosts_pass unanswered e) (all_unanswered events) a) s.1 in
    (sound_append message_bytes (HeldBy f) (told_by b e g).passages (passages_of (next_box b e) (told_by b e g).going events) s.0 r.0, r.1)

-- A press is remembered behind the others, and leaves the line.
pub record Pressed (b : BallBox) (g : UnderWay Message) (n : ℕ) : Type 0 where
  pub streams : Streams (next_box b (Buttons n)) g
  pub now : remembered (next_box b (Buttons n)).memory ≡ remembered b.memory ++ (n ∷ [])
  pub leaves : (told_by b (Buttons n) g).passages ≡ []
  pub going : (told_by b (Buttons n) g).going ≡ g

pub press_kept : (b : BallBox) (g : UnderWay Message) (n : ℕ) → Streams b g → n ≤ 7 → eqb n b.settings.buttons ≡ false → full b.memory ≡ false → Pressed b g n
press_kept b g n h l d room =
    let s = streams_step b (Buttons n) g h refl in
    let t = p.quiet_told b (Buttons n) g h.awake p.buttons in
    let o : noting (full b.memory) (change_to b (Buttons n)) (remembered b.memory) ≡ remembered (next_box b (Buttons n)).memory = rw t at s.order in
    record { streams = rw t at s.next; now = sym o ∙ rw (room, le-leb n 7 l, d); leaves = rw t; going = rw t }

-- What is remembered has been shown after (k + 1) reports' worth of slots, in the middle of a report too.
pub shown_since : (b : BallBox) (g : UnderWay Message) (events : List Event) → Streams b g → no_host events ≡ true → KeptOver b events
    → suc (length (remembered b.memory)) * size_by b.settings.format ≤ slots_in events
    → take (length (remembered b.memory)) (shown_by (passages_of b g events)) ≡ remembered b.memory
shown_since b g events h quiet kept slots =
    let k = length (remembered b.memory) in
    let keeps = no_host_any (λ byte. not (empties byte)) events quiet in
    let enough = within.enough_slots b g k h in
    let most : k ≤ length (shown_by (passages_of b g events)) = within.shown_within b g false events quiet k h tt (omega arith) (omega arith) in
    sym (take-append-le k (shown_by (passages_of b g events)) (remembered (box_after b events).memory) most)
    ∙ (ap (take k) (sym (p.in_order b g events h keeps)) ∙ stays_first keeps kept)
  where
    all_of : (l : List ℕ) → take (length l) l ≡ l
    all_of l = rw append-nil at (take_at l [] (length l) refl)

    stays_first : none_empties events ≡ true → KeptOver b events → take (length (remembered b.memory)) (states_over b (remembered b.memory) events) ≡ remembered b.memory
    stays_first keeps (among_seven few) =
        p.first_stay b g events [] (length (remembered b.memory)) h keeps few (omega arith) ∙ all_of (remembered b.memory)
    stays_first keeps (without_ninth never) =
        ap (take (length (remembered b.memory))) (p.no_ninth_lem b (remembered b.memory) events never)
        ∙ take_at (remembered b.memory) (changes_in b events) (length (remembered b.memory)) refl

-- What was shown is seen, as the format carries it.
pub shown_seen : (f : Format) (passages : List (Passage Message)) → Sub (map (buttons_in f) (shown_by passages)) (buttons_of (finished_reports f passages))
shown_seen f [] = none
shown_seen f (silent ∷ passages) = shown_seen f passages
shown_seen f (finished (report l) ∷ passages) = go l.shows refl (shown_seen f passages)
  where
    go : (t : Bool) → l.shows ≡ t → Sub (map (buttons_in f) (shown_by passages)) (buttons_of (finished_reports f passages))
        → Sub (map (buttons_in f) (shown_by (finished (report l) ∷ passages))) (buttons_of (finished_reports f (finished (report l) ∷ passages)))
    go true e d = rw (e, carried_in f l.report) (stays d)
    go false e d = rw e (gone d)
shown_seen f (finished (reply bytes) ∷ passages) = shown_seen f passages
shown_seen f (broken n m ∷ passages) = shown_seen f passages

-- The press: what the box sends from it on shows what it remembered then, and the press, and nothing of it is broken
-- off.
pub record Outlives (f : Format) (b : BallBox) (g : UnderWay Message) (front : List Event) (n : ℕ) (back : List Event) : Type 0 where
  pub later : List (Passage Message)
  pub is : passages_of b g (front ++ (Buttons n ∷ back)) ≡ passages_of b g front ++ later
  pub shown : take (suc (length (remembered (box_after b front).memory))) (shown_by later) ≡ remembered (box_after b front).memory ++ (n ∷ [])
  pub unbroken : Unbroken later
  pub sound : SoundIn f (passages_of b g front ++ later)
  pub end : SoundEnd f (going_after b g (front ++ (Buttons n ∷ back)))

-- the box at the press: it streams, the buttons change, there is room, and what is remembered stays so
pub record AtPress (c : BallBox) (n : ℕ) (back : List Event) : Type 0 where
  pub stream : is_stream c.settings.mode ≡ true
  pub known : n ≤ 7
  pub changes : eqb n c.settings.buttons ≡ false
  pub room : full c.memory ≡ false
  pub kept : KeptOver (next_box c (Buttons n)) back

pub outlives : (f : Format) (b : BallBox) (g : UnderWay Message) (front : List Event) (n : ℕ) (back : List Event)
    → Carrying b g → SetTo f b g
    → all_unanswered front ≡ true → no_host back ≡ true
    → AtPress (box_after b front) n back
    → suc (suc (length (remembered (box_after b front).memory))) * size_by (letter_of f) ≤ slots_in back
    → Outlives f b g front n back
unfolding passages_over all_hosts box_after going_over
outlives f b g front n back h set hosts quiet at slots =
    let c = box_after b front in
    let d1 = going_after b g front in
    let next = next_box c (Buttons n) in
    let whole = set_after f b g front hosts set in
    let now = carrying_after b g front h in
    let s : Streams c d1 = record { good = now.good; awake = whole.1.awake; stream = at.stream; carries = now.carries; showing = now.showing } in
    let press = press_kept c d1 n s at.known at.changes at.room in
    let later = passages_of next d1 back in
    let after = set_after f b g (front ++ (Buttons n ∷ back)) (hosts_then unanswered front (Buttons n ∷ back) hosts (no_host_any unanswered back quiet)) set in
    let is : passages_of b g (front ++ (Buttons n ∷ back)) ≡ passages_of b g front ++ later =
    passages_then b g front (Buttons n ∷ back) ∙ ap (λ (x : List (Passage Message)). passages_of b g front ++ x) (ap₂ (λ (x : List (Passage Message)) (y : UnderWay Message). x ++ passages_of next y back) press.leaves press.going) in
    let format : next.settings.format ≡ letter_of f = (set_after f c d1 (Buttons n ∷ []) refl whole.1).1.format in
    let long : length (remembered next.memory) ≡ suc (length (remembered c.memory)) = ap length press.now ∙ length-append (remembered c.memory) (n ∷ []) ∙ omega arith in
    let shown = shown_since next d1 back press.streams quiet at.kept (rw (long, format) slots) in
    record {
      later = later;
      is = is;
      shown = ap (λ (k : ℕ). take k (shown_by later)) (sym long) ∙ (shown ∙ press.now);
      unbroken = no_host_unbroken next d1 back press.streams quiet;
      sound = rw is at after.0;
      end = set_sound f (box_after b (front ++ (Buttons n ∷ back))) (going_after b g (front ++ (Buttons n ∷ back))) after.1;
    }

-- the finished report that shows a state, among passages
pub record ShownAt (passages : List (Passage Message)) (n : ℕ) : Type 0 where
  pub before : List (Passage Message)
  pub latched : Latched
  pub after : List (Passage Message)
  pub is : passages ≡ before ++ (finished (report latched) ∷ after)
  pub buttons : latched.report.buttons ≡ n

behind : {p : Passage Message} {passages : List (Passage Message)} {n : ℕ} → ShownAt passages n → ShownAt (p ∷ passages) n
behind {p} h = record { before = p ∷ h.before; latched = h.latched; after = h.after; is = ap (λ (l : List (Passage Message)). p ∷ l) h.is; buttons = h.buttons }

firsts_agree : {x y : ℕ} {l k : List ℕ} → ◌≡◌ {A = List ℕ} (x ∷ l) (y ∷ k) → (x ≡ y) × (l ≡ k)
firsts_agree {x} {y} {l} {k} e = (ap (λ (z : List ℕ). first_of z x) e, ap (drop 1) e)
  where
    first_of : List ℕ → ℕ → ℕ
    first_of [] d = d
    first_of (z ∷ zs) d = z

pub find : (passages : List (Passage Message)) (states : List ℕ) (n : ℕ) (more : List ℕ) → shown_by passages ≡ states ++ (n ∷ more) → ShownAt passages n
find [] [] n more e = absurd (omega (arith, ap length e))
find [] (s ∷ states) n more e = absurd (omega (arith, ap length e))
find (silent ∷ passages) states n more e = behind (find passages states n more e)
find (finished (report l) ∷ passages) states n more e = go l.shows refl states e (λ k q. find passages k n more q)
  where
    go : (t : Bool) → l.shows ≡ t → (states : List ℕ) → shown_by (finished (report l) ∷ passages) ≡ states ++ (n ∷ more)
        → ((k : List ℕ) → shown_by passages ≡ k ++ (n ∷ more) → ShownAt passages n)
        → ShownAt (finished (report l) ∷ passages) n
    go true q [] e rest = let k = firsts_agree (rw q at e) in record { before = []; latched = l; after = passages; is = refl; buttons = k.0 }
    go true q (s ∷ states) e rest = let k = firsts_agree (rw q at e) in behind (rest states k.1)
    go false q states e rest = behind (rest states (rw q at e))
find (finished (reply bytes) ∷ passages) states n more e = behind (find passages states n more e)
find (broken m k ∷ passages) states n more e = behind (find passages states n more e)

-- so the press is shown by a report of its own
pub press_shown : (f : Format) (b : BallBox) (g : UnderWay Message) (front : List Event) (n : ℕ) (back : List Event) (o : Outlives f b g front n back) → ShownAt o.later n
press_shown f b g front n back o =
    let k = suc (length (remembered (box_after b front).memory)) in
    find o.later (remembered (box_after b front).memory) n (drop k (shown_by o.later))
    (sym (take-append-drop k (shown_by o.later)) ∙ (ap (λ (x : List ℕ). x ++ drop k (shown_by o.later)) o.shown ∙ append_assoc (remembered (box_after b front).memory) (n ∷ []) (drop k (shown_by o.later))))

-- and the states up to it are among the reports, as the format carries them
pub press_seen : (f : Format) (b : BallBox) (g : UnderWay Message) (front : List Event) (n : ℕ) (back : List Event) (o : Outlives f b g front n back)
    → Sub (map (buttons_in f) (remembered (box_after b front).memory ++ (n ∷ []))) (buttons_of (finished_reports f o.later))
press_seen f b g front n back o =
    sub_then (rw o.shown at (sub_map (buttons_in f) (sub_take (suc (length (remembered (box_after b front).memory))) (shown_by o.later)))) (shown_seen f o.later)
