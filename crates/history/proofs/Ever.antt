-- Over every run of any good box, whatever the host sends: no more presses are sent than were made, or were still owed
-- at the start.
use Prim.Native.Nat.{ℕ, ◌+◌, ◌≤◌}
use mathlib.Core.Path.{◌≡◌, refl, sym, ◌∙◌, ap, subst}
use mathlib.Core.Bool.{Bool, true, false, cond, ◌&&◌}
use mathlib.Core.List.{List, [], ◌∷◌, ◌++◌, append-nil, append_assoc}
use native.Mathlib.Omega.{arith}
use lib.ListN.{length, take, drop}
use lib.Dec.{eqb, leb}
use borrow.Author.Tests.{ltb-false, le-leb}
use Rattle.numbers.proofs.Choices.{cases}
use Rattle.numbers.proofs.Tested.{holds}
use Rattle.frames.specs.Passages.{Passage, silent, finished, broken, UnderWay, nothing, first, Sub, none, gone}
use Rattle.frames.specs.Sender.{Told, told, broken_off, passages_over, going_over}
use Rattle.frames.proofs.Sub.{sub_all, sub_none, sub_append}
use Rattle.wire.specs.Messages.{Message, report, reply, message_bytes}
use Rattle.wire.specs.Buttons.{presses, latched_buttons, buttons_sent, buttons_begun, buttons_going}
use Rattle.wire.proofs.Buttons.{stays_so, fewer}
use Rattle.ballbox.specs.Box.{dormant}
use Rattle.ballbox.specs.Box as box
use Rattle.ballbox.specs.Presses as memory
use Rattle.ballbox.specs.Presses.{remembered, any_remembered, full, to_show, hidden, showing}
use Rattle.ballbox.specs.Latching.{latched_report}
use Rattle.ballbox.specs.Commands.{is_stream, command_of, obeyed, reply_to}
use Rattle.ballbox.specs.Events.{wanted, latching, sending, dropped, on_host, on_buttons, on_period, awake, asleep, woken}
use Rattle.ballbox.specs.Good.{good}
use Rattle.ballbox.specs.Promises.{above_seven}
use Rattle.ballbox.specs.declared.BallBox.{BallBox}
use Rattle.ballbox.specs.declared.Settings.{Settings}
use Rattle.ballbox.specs.declared.Event.{Event}
use Rattle.ballbox.specs.declared.Event.TheVariants.{Motion, Buttons, Host, Latch, Send, Period}
use Rattle.ballbox.specs.declared.Command.{Command}
use Rattle.ballbox.specs.declared.Command.TheVariants.{SetFormat, SetStream, SetPrompt, AskReport, AskAck, AskCode, AskLetters, AskButtons, Sleep, Ignored}
use Rattle.ballbox.proofs.Cases.{dropped_busy, dropped_idle}
use Rattle.ballbox.proofs.Remembering.{remembered_hidden}
use Rattle.ballbox.proofs.Parts.{parts}
use Rattle.ballbox.proofs.Goodness.{stepped_good}
use Rattle.ballbox.proofs.Refusals.{ruled, refused_next}
use Rattle.ballbox.proofs.Obeying.{dropped_settings}
use Rattle.history.specs.History.{begun, paired_at, is_five, unsent_reply, when_awake, when_asleep, told_by, next_box, passages_of, going_after}
use Rattle.history.specs.Presses.{buttons_told, owed, change_to, shown_in, shown_by, box_after}
use Rattle.history.specs.Carried.{Carries, Showing, Carrying}
use Rattle.history.proofs.Sending.{bytes_left_lem}
use Rattle.history.proofs.Bridge.{step_sends, told_is}
use Rattle.history.proofs.Asking.{refused_told}
use Rattle.history.proofs.Showing.{same_showing, send_keeps, latch_keeps, buttons_keep, first_shown}
use Rattle.history.proofs.Unmade.{latching_buttons, sending_buttons, obeyed_buttons, none_left, one_change, noting_sub}

-- no more presses, whatever was before; and whatever comes behind
abbrev pub Fewer : List ℕ → List ℕ → Type 0
Fewer a b = (down : ℕ → Bool) (was : Bool) → presses down was a ≤ presses down was b

record Less (a b : List ℕ) : Type 0 where
  by : (rest : List ℕ) → Fewer (a ++ rest) (b ++ rest)

less_sub : {a b : List ℕ} → Sub a b → Less a b
less_sub s = record { by = λ rest down was. fewer down was (sub_append s (sub_all rest)) }

less_then : {a b c : List ℕ} → Less a b → Less b c → Less a c
less_then h k = record { by = λ rest down was. omega (arith, h.by rest down was, k.by rest down was) }

fewer_front : (c a b : List ℕ) → Fewer a b → Fewer (c ++ a) (c ++ b)
unfolding presses
fewer_front [] a b h down was = h down was
fewer_front (s ∷ c) a b h down was = omega (arith, fewer_front c a b h down (down s))

less_front : (c : List ℕ) {a b : List ℕ} → Less a b → Less (c ++ a) (c ++ b)
less_front c {a} {b} h = record { by = λ rest down was. rw (append_assoc c a rest, append_assoc c b rest) (fewer_front c (a ++ rest) (b ++ rest) (h.by rest) down was) }

-- the same twice is as good as once
less_twice : (x : ℕ) (l : List ℕ) → Less (x ∷ x ∷ l) (x ∷ l)
unfolding presses
less_twice x l = record { by = λ rest down was. omega (arith, stays_so down (down x)) }

-- what an event tells the box
abbrev told_one : Event → List ℕ
told_one (Motion dx dy) = []
told_one (Buttons n) = cond (leb n 7) (n ∷ []) []
told_one (Host byte) = []
told_one Latch = []
told_one Send = []
told_one Period = []

told_one_lem : (e : Event) (events : List Event) → buttons_told (e ∷ events) ≡ told_one e ++ buttons_told events
unfolding buttons_told
told_one_lem (Motion dx dy) events = refl
told_one_lem (Buttons n) events = refl
told_one_lem (Host byte) events = refl
told_one_lem Latch events = refl
told_one_lem Send events = refl
told_one_lem Period events = refl

-- what a step leaves owed
record Owes (b : BallBox) (g : UnderWay Message) (one : List ℕ) (c : BallBox) (t : Told Message) : Type 0 where
  showing : Showing c t.going
  less : Less (buttons_begun t.passages ++ owed c t.going) (owed b g ++ one)

same_owed : (b c : BallBox) (g : UnderWay Message) → remembered c.memory ≡ remembered b.memory → c.settings.buttons ≡ b.settings.buttons → owed c g ≡ owed b g
same_owed b c g m k = rw (m, k)

sub_more : (a one : List ℕ) → Sub a (a ++ one)
sub_more a one = rw append-nil at (sub_append (sub_all a) (sub_none one))

unchanged : (b c : BallBox) (g : UnderWay Message) (one : List ℕ) → c.memory ≡ b.memory → c.settings.buttons ≡ b.settings.buttons → Showing b g → Owes b g one c (told [] g)
unchanged b c g one m k h =
    record { showing = same_showing g b c m h; less = rw (same_owed b c g (ap remembered m) k) (less_sub (sub_more (owed b g) one)) }

-- Buttons
changed_less : (rem later going : List ℕ) (p n : ℕ) → Sub later (rem ++ (n ∷ [])) → Less (going ++ (later ++ (n ∷ []))) ((going ++ (rem ++ (p ∷ []))) ++ (n ∷ []))
changed_less rem later going p n s =
    let one : Less (later ++ (n ∷ [])) (rem ++ (n ∷ n ∷ [])) = rw append_assoc at (less_sub (sub_append s (sub_all (n ∷ [])))) in
    let two : Less (rem ++ (n ∷ n ∷ [])) (rem ++ (n ∷ [])) = less_front rem (less_twice n []) in
    let three : Less (rem ++ (n ∷ [])) (rem ++ (p ∷ n ∷ [])) = less_front rem (less_sub (gone (sub_all (n ∷ [])))) in
    rw (append_assoc going (rem ++ (p ∷ [])) (n ∷ []), append_assoc rem (p ∷ []) (n ∷ []))
    (less_front going (less_then one (less_then two three)))

buttons_owe : (b : BallBox) (n : ℕ) (g : UnderWay Message) → good b ≡ true → n ≤ 7 → Showing b g → Owes b g (n ∷ []) (on_buttons n b) (told [] g)
unfolding on_buttons
buttons_owe b n g k l h = go (eqb n b.settings.buttons) refl (is_stream b.settings.mode) refl
  where
    go : (t : Bool) → eqb n b.settings.buttons ≡ t → (s : Bool) → is_stream b.settings.mode ≡ s → Owes b g (n ∷ []) (on_buttons n b) (told [] g)
    go true e s q = rw e (unchanged b b g (n ∷ []) refl refl h)
    go false e false q =
        rw (e, q)
        (record {
          showing = same_showing g b (box.with_buttons n b) refl h;
          less = changed_less (remembered b.memory) (remembered b.memory) (buttons_going g) b.settings.buttons n (sub_more (remembered b.memory) (n ∷ []));
        })
    go false e true q =
        let r = buttons_keep b n g (parts b k).memory q l h in
        let is : change_to b (Buttons n) ≡ n ∷ [] = rw (le-leb n 7 l, e) in
        let s : Sub (remembered (on_buttons n b).memory) (remembered b.memory ++ (n ∷ [])) =
        subst (λ (x : List ℕ). Sub (remembered (on_buttons n b).memory) (remembered b.memory ++ x)) is
        (subst (λ (x : List ℕ). Sub x (remembered b.memory ++ change_to b (Buttons n))) r.order
        (noting_sub (full b.memory) (change_to b (Buttons n)) (remembered b.memory) (one_change b (Buttons n)))) in
        record {
          showing = r.showing;
          less =
              rw (changed e)
              (changed_less (remembered b.memory) (remembered (on_buttons n b).memory) (buttons_going g) b.settings.buttons n s);
        }
      where
        changed : eqb n b.settings.buttons ≡ false → (on_buttons n b).settings.buttons ≡ n
        changed e = rw e

-- Host: what is going is broken off, and the memory is kept or emptied
data Either (b c : BallBox) : Type 0 where
  kept : c.memory ≡ b.memory → Either b c
  emptied : c.memory ≡ memory.none → Either b c

obeyed_either : (c : Command) (b : BallBox) → Either b (obeyed c b)
unfolding obeyed
obeyed_either (SetFormat f) b = emptied refl
obeyed_either (SetStream m) b = kept refl
obeyed_either SetPrompt b = emptied refl
obeyed_either AskReport b = emptied refl
obeyed_either AskAck b = kept refl
obeyed_either AskCode b = kept refl
obeyed_either AskLetters b = kept refl
obeyed_either AskButtons b = kept refl
obeyed_either Sleep b = emptied refl
obeyed_either Ignored b = kept refl

dropped_memory : (b : BallBox) (g : UnderWay Message) → Carries b g → Showing b g → (showing (dropped b).memory ≡ false) × (remembered (dropped b).memory ≡ remembered b.memory)
unfolding hidden
dropped_memory b nothing c h = rw (dropped_idle b c) (h, refl)
dropped_memory b (first n m) c h = rw (dropped_busy b (bytes_left_lem b n m c)) (refl, remembered_hidden b.memory)

reply_showing : (bytes : List ℕ) (b : BallBox) → showing b.memory ≡ false → Showing b (unsent_reply bytes)
reply_showing [] b h = h
reply_showing (byte ∷ bytes) b h = h

reply_owed : (bytes : List ℕ) (b : BallBox) → owed b (unsent_reply bytes) ≡ remembered b.memory ++ (b.settings.buttons ∷ [])
reply_owed [] b = refl
reply_owed (byte ∷ bytes) b = refl

broken_sent : (g : UnderWay Message) → buttons_begun (broken_off g) ≡ buttons_going g
broken_sent nothing = refl
broken_sent (first n (report l)) = refl
broken_sent (first n (reply bytes)) = refl

empty_none : remembered memory.none ≡ []
unfolding remembered
empty_none = refl

host_owes : (b : BallBox) (byte : ℕ) (g : UnderWay Message) → Carries b g → Showing b g → Owes b g [] (on_host byte b).next (when_awake b (Host byte) g)
unfolding on_host
host_owes b byte g c h = go (obeyed_either (command_of byte) (dropped b))
  where
    d : (showing (dropped b).memory ≡ false) × (remembered (dropped b).memory ≡ remembered b.memory)
    d = dropped_memory b g c h

    next : BallBox
    next = obeyed (command_of byte) (dropped b)

    buttons : next.settings.buttons ≡ b.settings.buttons
    buttons = obeyed_buttons (command_of byte) (dropped b) ∙ ap (λ (s : Settings). s.buttons) (dropped_settings b)

    less_than : Sub (remembered next.memory) (remembered b.memory) → Less (buttons_begun (broken_off g) ++ owed next (unsent_reply (reply_to b (command_of byte)))) (owed b g ++ [])
    less_than s =
        rw (broken_sent g, reply_owed (reply_to b (command_of byte)) next, buttons, append-nil (owed b g))
        (less_sub (sub_append (sub_all (buttons_going g)) (sub_append s (sub_all (b.settings.buttons ∷ [])))))

    go : Either (dropped b) next → Owes b g [] next (when_awake b (Host byte) g)
    go (kept e) =
        record {
          showing = reply_showing (reply_to b (command_of byte)) next (ap showing e ∙ d.0);
          less = less_than (rw (ap remembered e ∙ d.1) (sub_all (remembered b.memory)));
        }
    go (emptied e) =
        record {
          showing = reply_showing (reply_to b (command_of byte)) next (ap showing e);
          less = less_than (rw (ap remembered e ∙ empty_none) (sub_none (remembered b.memory)));
        }

shows_present : (b : BallBox) → any_remembered b.memory ≡ false → to_show b ≡ b.settings.buttons
unfolding to_show
shows_present b e = rw e

-- Latch: the report that is begun shows what is owed first
first_owed : (b : BallBox) → good b ≡ true → Less ((latched_report b).buttons ∷ (remembered b.memory ++ (b.settings.buttons ∷ []))) (remembered b.memory ++ (b.settings.buttons ∷ []))
unfolding latched_report
first_owed b k = go (any_remembered b.memory) refl
  where
    head : (l : List ℕ) (x : ℕ) → take 1 l ≡ x ∷ [] → l ≡ x ∷ drop 1 l
    head [] x e = cc
    head (y ∷ l) x e = cc

    go : (t : Bool) → any_remembered b.memory ≡ t → Less (to_show b ∷ (remembered b.memory ++ (b.settings.buttons ∷ []))) (remembered b.memory ++ (b.settings.buttons ∷ []))
    go true e =
        let is = head (remembered b.memory) (to_show b) (first_shown b (parts b k).memory e) in
        rw is (less_twice (to_show b) (drop 1 (remembered b.memory) ++ (b.settings.buttons ∷ [])))
    go false e = rw (none_left b k e, shows_present b e) (less_twice b.settings.buttons [])

latch_owes : (b : BallBox) (g : UnderWay Message) → good b ≡ true → Carries b g → Showing b g → Owes b g [] (latching b) (told [] (begun b g))
latch_owes b g k c h =
    let r = latch_keeps b g (parts b k).memory c h in
    record {
      showing = r.showing;
      less = rw (same_owed b (latching b) (begun b g) (sym r.order) (latching_buttons b), append-nil (owed b g)) (begins g);
    }
  where
    begins : (g : UnderWay Message) → Less (owed b (begun b g)) (owed b g)
    begins (first n m) = less_sub (sub_all (owed b (first n m)))
    begins nothing =
        cases (λ (x : UnderWay Message). Less (owed b x) (owed b nothing)) (wanted b) (λ _. first_owed b k) (λ _. less_sub (sub_all (owed b nothing)))

-- Send: a byte more, or a silence
pair_buttons : (b : BallBox) (n k : ℕ) (m : Message) → buttons_going (first k (paired_at b n m)) ≡ buttons_going (first n m)
pair_buttons b n k (report l) = cases (λ (x : Message). buttons_going (first k x) ≡ l.report.buttons ∷ []) (is_five l.format && eqb n 3) (λ _. refl) (λ _. refl)
pair_buttons b n k (reply bytes) = refl

latched_going : (n : ℕ) (m : Message) → latched_buttons m ≡ buttons_going (first n m)
latched_going n (report l) = refl
latched_going n (reply bytes) = refl

-- a message ends: what it showed was owed twice, and else once
ends_less : (rem later going shown : List ℕ) (p : ℕ) → rem ≡ shown ++ later → Less (going ++ (later ++ (p ∷ []))) ((going ++ (rem ++ (p ∷ []))) ++ [])
ends_less rem later going shown p e =
    rw (append-nil (going ++ (rem ++ (p ∷ []))), e, append_assoc shown later (p ∷ []))
    (less_front going (less_sub (sub_append (sub_none shown) (sub_all (later ++ (p ∷ []))))))

send_owes : (b : BallBox) (g : UnderWay Message) → good b ≡ true → Carries b g → Showing b g → Owes b g [] (sending b).next (when_awake b Send g)
send_owes b nothing k c h =
    let r = send_keeps b nothing (parts b k).memory c h in
    record { showing = r.showing; less = rw (sending_buttons b) (ends_less (remembered b.memory) (remembered (sending b).next.memory) [] [] b.settings.buttons r.order) }
send_owes b (first n m) k c h =
    let r = send_keeps b (first n m) (parts b k).memory c h in
    record { showing = r.showing; less = go (eqb (n + 1) (length (message_bytes (paired_at b n m)))) refl r.order }
  where
    next : BallBox
    next = (sending b).next

    go : (t : Bool) → eqb (n + 1) (length (message_bytes (paired_at b n m))) ≡ t
        → remembered b.memory ≡ shown_by (when_awake b Send (first n m)).passages ++ remembered next.memory
        → Less (buttons_begun (when_awake b Send (first n m)).passages ++ owed next (when_awake b Send (first n m)).going) (owed b (first n m) ++ [])
    go true e o =
        rw (e, append-nil (latched_buttons (paired_at b n m)), latched_going n (paired_at b n m), pair_buttons b n n m, sending_buttons b)
        (ends_less (remembered b.memory) (remembered next.memory) (buttons_going (first n m)) (shown_in (paired_at b n m) ++ []) b.settings.buttons (rw e at o))
    go false e o =
        rw (e, pair_buttons b n (n + 1) m, sending_buttons b)
        (ends_less (remembered b.memory) (remembered next.memory) (buttons_going (first n m)) [] b.settings.buttons (rw e at o))

-- one step of a box that is awake, and of one that is dormant
awake_owes : (b : BallBox) (e : Event) (g : UnderWay Message) → good b ≡ true → above_seven e ≡ false → Carries b g → Showing b g → Owes b g (told_one e) (awake b e).next (when_awake b e g)
unfolding awake on_period
awake_owes b (Motion dx dy) g k s c h = unchanged b _ g [] refl refl h
awake_owes b (Buttons n) g k s c h = let l = ltb-false 7 n s in rw (le-leb n 7 l) (buttons_owe b n g k l h)
awake_owes b (Host byte) g k s c h = host_owes b byte g c h
awake_owes b Latch g k s c h = latch_owes b g k c h
awake_owes b Send g k s c h = send_owes b g k c h
awake_owes b Period g k s c h = unchanged b _ g [] refl refl h

asleep_owes : (b : BallBox) (e : Event) → Showing b nothing → Owes b nothing (told_one e) (asleep b e).next (when_asleep b e nothing)
unfolding asleep woken
asleep_owes b (Motion dx dy) h = unchanged b b nothing [] refl refl h
asleep_owes b (Buttons n) h = unchanged b b nothing (cond (leb n 7) (n ∷ []) []) refl refl h
asleep_owes b (Host byte) h = record { showing = h; less = less_sub (sub_more (owed b nothing) []) }
asleep_owes b Latch h = unchanged b b nothing [] refl refl h
asleep_owes b Send h = record { showing = h; less = less_sub (sub_more (owed b nothing) []) }
asleep_owes b Period h = unchanged b b nothing [] refl refl h

step_owes : (b : BallBox) (e : Event) (g : UnderWay Message) → good b ≡ true → Carries b g → Showing b g → Owes b g (told_one e) (next_box b e) (told_by b e g)
step_owes b e g k c h = go (above_seven e) refl (dormant b) refl
  where
    sleeping : (g : UnderWay Message) → Carries b g → Showing b g → dormant b ≡ true → Owes b g (told_one e) (asleep b e).next (when_asleep b e g)
    sleeping nothing c h q = asleep_owes b e h
    sleeping (first n m) c h q = absurd (holds (sym c.1.awake ∙ q))

    go : (t : Bool) → above_seven e ≡ t → (s : Bool) → dormant b ≡ s → Owes b g (told_one e) (next_box b e) (told_by b e g)
    go true p s q = rw (refused_told b e g p) (unchanged b (next_box b e) g (told_one e) (ap (λ (x : BallBox). x.memory) (refused_next b e k p)) (ap (λ (x : BallBox). x.settings.buttons) (refused_next b e k p)) h)
    go false p true q =
        rw (told_is b e g true p q) (subst (λ (x : box.Step). Owes b g (told_one e) x.next (when_asleep b e g)) (sym (ruled b e true k p q)) (sleeping g c h q))
    go false p false q =
        rw (told_is b e g false p q) (subst (λ (x : box.Step). Owes b g (told_one e) x.next (when_awake b e g)) (sym (ruled b e false k p q)) (awake_owes b e g k p c h))

-- over every run
begun_append : (a b : List (Passage Message)) → buttons_begun (a ++ b) ≡ buttons_begun a ++ buttons_begun b
begun_append [] b = refl
begun_append (p ∷ a) b = rw (begun_append a b, append_assoc)

pub never_begun : (b : BallBox) (g : UnderWay Message) (events : List Event) → good b ≡ true → Carries b g → Showing b g
    → Fewer (buttons_begun (passages_of b g events) ++ owed (box_after b events) (going_after b g events)) (owed b g ++ buttons_told events)
unfolding passages_over going_over box_after buttons_told
never_begun b g [] k c h down was = rw append-nil (omega arith)
never_begun b g (e ∷ events) k c h down was =
    let t = told_by b e g in
    let s = step_owes b e g k c h in
    let next = next_box b e in
    let rest = never_begun next t.going events (stepped_good b e k) (step_sends b e g k c).carries s.showing in
    let later = fewer_front (buttons_begun t.passages) _ _ rest down was in
    let now = s.less.by (buttons_told events) down was in
    rw (begun_append t.passages, told_one_lem e events, ← append_assoc (owed b g) (told_one e) (buttons_told events), append_assoc (buttons_begun t.passages))
    (omega (arith, later, rw (append_assoc (buttons_begun t.passages) (owed next t.going) (buttons_told events)) at now))

sent_begun : (l : List (Passage Message)) → Sub (buttons_sent l) (buttons_begun l)
sent_begun [] = none
sent_begun (silent ∷ l) = sent_begun l
sent_begun (finished m ∷ l) = sub_append (sub_all (latched_buttons m)) (sent_begun l)
sent_begun (broken n m ∷ l) = sub_append (sub_none (latched_buttons m)) (sent_begun l)

pub never_more : (b : BallBox) (g : UnderWay Message) (events : List Event) → good b ≡ true → Carries b g → Showing b g
    → Fewer (buttons_sent (passages_of b g events) ++ owed (box_after b events) (going_after b g events)) (owed b g ++ buttons_told events)
never_more b g events k c h down was =
    let all = never_begun b g events k c h down was in
    let some = fewer down was (sub_append (sent_begun (passages_of b g events)) (sub_all (owed (box_after b events) (going_after b g events)))) in
    omega (arith, all, some)

-- and what is going stays told
pub carrying_after : (b : BallBox) (g : UnderWay Message) (events : List Event) → Carrying b g → Carrying (box_after b events) (going_after b g events)
unfolding going_over box_after
carrying_after b g [] h = h
carrying_after b g (e ∷ events) h =
    carrying_after (next_box b e) (told_by b e g).going events
    (record {
      good = stepped_good b e h.good;
      carries = (step_sends b e g h.good h.carries).carries;
      showing = (step_owes b e g h.good h.carries h.showing).showing;
    })
