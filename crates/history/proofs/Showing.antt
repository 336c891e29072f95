-- One step of a box in a stream mode: what it remembers, and what the report that is going shows.
use Prim.Native.Nat.{ℕ, zero, suc, ◌+◌, ◌≤◌}
use mathlib.Core.Path.{◌≡◌, refl, sym, ◌∙◌, ap}
use mathlib.Core.Bool.{Bool, true, false, cond, ◌&&◌, ◌||◌}
use mathlib.Core.List.{List, [], ◌∷◌, ◌++◌, append-nil}
use native.Mathlib.Omega.{arith}
use lib.ListN.{length, take, drop}
use lib.Dec.{eqb, ltb}
use borrow.Author.Tests.{lt-ltb, le-ltb, ltb-true, eqb-true, eqb-false, leb-true, le-leb}
use Rattle.numbers.proofs.Choices.{cases, neither}
use Rattle.frames.specs.Passages.{UnderWay, nothing, first}
use Rattle.frames.specs.Sender.{sent_one, broken_off}
use Rattle.wire.specs.Line.{known}
use Rattle.wire.specs.Messages.{Message, report, reply, message_bytes}
use Rattle.ballbox.specs.Box.{mode_d, with_buttons, with_memory}
use Rattle.ballbox.specs.Presses.{remembered, any_remembered, full, remembering, to_show, showing_first, shown, hidden, showing}
use Rattle.ballbox.specs.Latching.{latched, latched_report, second_latched}
use Rattle.ballbox.specs.Commands.{is_stream, letter_p, space, letterf, lettert, byte05, letterd, command_of, reply_to, obeyed}
use Rattle.ballbox.specs.Events.{wanted, second_now, with_byte_ready, memory_after, latching, next_byte, sending, dropped, on_host, on_buttons}
use Rattle.ballbox.specs.Good.{good_memory}
use Rattle.ballbox.specs.declared.BallBox.{BallBox}
use Rattle.ballbox.specs.declared.Memory.{Memory}
use Rattle.ballbox.specs.declared.Going.{Going}
use Rattle.ballbox.specs.declared.Event.TheVariants.{Buttons, Send}
use Rattle.ballbox.specs.declared.Command.{Command}
use Rattle.ballbox.specs.declared.Command.TheVariants.{SetFormat, SetStream, SetPrompt, AskReport, AskAck, AskCode, AskLetters, AskButtons, Sleep, Ignored}
use Rattle.ballbox.proofs.Marks.{mark_back}
use Rattle.ballbox.proofs.Remembering.{memory_parts, remembered_length, remembered_behind, remembered_ninth, remembered_shown, remembered_hidden, remembered_showing, shown_none, shows_first}
use Rattle.ballbox.proofs.Cases.{latching_busy, latching_wanted, latching_idle, sending_byte, sending_silence, dropped_busy, dropped_idle}
use Rattle.history.specs.History.{latched_now, begun, paired_at, is_five, unsent_reply, when_awake}
use Rattle.history.specs.Presses.{empties, change_to, in_place_of_last, noting, shown_in, shown_by}
use Rattle.history.specs.Carried.{Carries, Showing}
use Rattle.history.proofs.Sending.{bytes_left_lem, pairs}

-- what a box, with its line, makes of the states that it remembered: those that finished reports showed are gone from the front
pub record Keeps (states : List ℕ) (b : BallBox) (shows : List ℕ) (g : UnderWay Message) : Type 0 where
  pub showing : Showing b g
  pub order : states ≡ shows ++ remembered b.memory

-- another box with the same memory
pub same_showing : (g : UnderWay Message) (b c : BallBox) → c.memory ≡ b.memory → Showing b g → Showing c g
same_showing nothing b c e h = rw e h
same_showing (first n (report l)) b c e h = rw e h
same_showing (first n (reply bytes)) b c e h = rw e h

first_of : (l : List ℕ) (s : ℕ) → take 1 l ≡ s ∷ [] → l ≡ s ∷ drop 1 l
first_of [] s e = cc
first_of (x ∷ l) s e = cc

nothing_shown : (m : Memory) → showing (shown m) ≡ false
unfolding shown
nothing_shown m = go (showing m) refl
  where
    go : (t : Bool) → showing m ≡ t → showing (shown m) ≡ false
    go true e = rw e
    go false e = ap showing (shown_none m e) ∙ e

-- where the last byte of a message has gone
ended : (b c : BallBox) (n : ℕ) (m : Message) → good_memory b.memory ≡ true → Showing b (first n m) → c.memory ≡ shown b.memory
    → Keeps (remembered b.memory) c (shown_in m) nothing
ended b c n (report l) g h e = record { showing = ap showing e ∙ nothing_shown b.memory; order = go l.shows refl }
  where
    go : (t : Bool) → l.shows ≡ t → remembered b.memory ≡ shown_in (report l) ++ remembered c.memory
    go true s =
        let r : remembered c.memory ≡ drop 1 (remembered b.memory) = ap remembered e ∙ remembered_shown b.memory g (h.0 ∙ s) in
        rw (s, r) (first_of (remembered b.memory) l.report.buttons (h.1 s))
    go false s = rw (s, e, shown_none b.memory (h.0 ∙ s))
ended b c n (reply bytes) g h e =
    record { showing = ap showing e ∙ nothing_shown b.memory; order = rw (e, shown_none b.memory h) }

-- a byte goes out
byte_keeps : (b : BallBox) (n : ℕ) (m : Message) → good_memory b.memory ≡ true → Carries b (first n m) → Showing b (first n m)
    → Keeps (remembered b.memory) (next_byte b).next (shown_by (sent_one message_bytes (first n m)).passages) (sent_one message_bytes (first n m)).going
unfolding next_byte memory_after
byte_keeps b n m g c h = go (eqb (n + 1) size) refl
  where
    size : ℕ
    size = length (message_bytes m)

    one_more_lem : (k : Message) → Showing (next_byte b).next (first n k) → Showing (next_byte b).next (first (n + 1) k)
    one_more_lem (report l) h = h
    one_more_lem (reply bytes) h = h

    at_last : memory_after b.going b.memory ≡ cond (ltb (n + 1) size) b.memory (shown b.memory)
    at_last = ap (λ (k : Going). memory_after k b.memory) c.0

    go : (t : Bool) → eqb (n + 1) size ≡ t
        → Keeps (remembered b.memory) (next_byte b).next (shown_by (sent_one message_bytes (first n m)).passages) (sent_one message_bytes (first n m)).going
    go true e =
        let last : ltb (n + 1) size ≡ false = le-ltb (n + 1) size (omega (arith, eqb-true (n + 1) size e)) in
        let k = ended b (next_byte b).next n m g h (at_last ∙ rw last) in
        rw (e, append-nil) k
    go false e =
        let d = eqb-false (n + 1) size e in
        let more : ltb (n + 1) size ≡ true = lt-ltb (n + 1) size (omega (arith, c.1.left)) in
        let same : (next_byte b).next.memory ≡ b.memory = at_last ∙ rw more in
        rw e (record { showing = one_more_lem m (same_showing (first n m) b (next_byte b).next same h); order = ap remembered (sym same) })

-- the second pair of U leaves the buttons and the memory
ready_memory : (b : BallBox) → (with_byte_ready b).memory ≡ b.memory
unfolding with_byte_ready second_latched
ready_memory b = cases (λ (c : BallBox). c.memory ≡ b.memory) (second_now b) (λ e. refl) (λ e. refl)

pair_showing : (b c : BallBox) (n : ℕ) (m : Message) → Showing c (first n m) → Showing c (first n (paired_at b n m))
pair_showing b c n (report l) h = go (is_five l.format && eqb n 3) refl
  where
    go : (t : Bool) → is_five l.format && eqb n 3 ≡ t → Showing c (first n (paired_at b n (report l)))
    go true e = rw e h
    go false e = rw e h
pair_showing b c n (reply bytes) h = h

-- a byte goes out, or a silence
pub send_keeps : (b : BallBox) (g : UnderWay Message) → good_memory b.memory ≡ true → Carries b g → Showing b g
    → Keeps (remembered b.memory) (sending b).next (shown_by (when_awake b Send g).passages) (when_awake b Send g).going
send_keeps b nothing g c h = rw (sending_silence b c) (record { showing = h; order = refl })
send_keeps b (first n m) g c h =
    let c' = with_byte_ready b in
    let e = ready_memory b in
    let k = byte_keeps c' n (paired_at b n m) (rw e g) (pairs b n m c).carries (pair_showing b c' n m (same_showing (first n m) b c' e h)) in
    rw (sending_byte b (bytes_left_lem b n m c)) (record { showing = k.showing; order = ap remembered (sym e) ∙ k.order })

-- a report is latched to show the first state that is remembered, or the present buttons
pub first_shown : (b : BallBox) → good_memory b.memory ≡ true → any_remembered b.memory ≡ true → take 1 (remembered b.memory) ≡ to_show b ∷ []
first_shown b g a = go (remembered b.memory) refl
  where
    go : (l : List ℕ) → remembered b.memory ≡ l → take 1 (remembered b.memory) ≡ to_show b ∷ []
    go [] e = absurd (omega (arith, ltb-true 0 b.memory.count a, remembered_length b.memory g, ap length e))
    go (s ∷ l) e = rw (e, shows_first b g s l e)

latched_showing : (b : BallBox) → good_memory b.memory ≡ true → Showing (latched b) (first 0 (report (latched_now b)))
unfolding latched latched_report showing_first remembered
latched_showing b g = (mark_back (any_remembered b.memory), λ a. first_shown b g a)

latched_keeps : (b : BallBox) → remembered (latched b).memory ≡ remembered b.memory
unfolding latched
latched_keeps b = remembered_showing b.memory

pub latch_keeps : (b : BallBox) (g : UnderWay Message) → good_memory b.memory ≡ true → Carries b g → Showing b g
    → Keeps (remembered b.memory) (latching b) [] (begun b g)
latch_keeps b (first n m) g c h = rw (latching_busy b (bytes_left_lem b n m c)) (record { showing = h; order = refl })
latch_keeps b nothing g c h = go (wanted b) refl
  where
    go : (t : Bool) → wanted b ≡ t → Keeps (remembered b.memory) (latching b) [] (begun b nothing)
    go true e = rw (e, latching_wanted b c e) (record { showing = latched_showing b g; order = sym (latched_keeps b) })
    go false e = rw (e, latching_idle b c e) (record { showing = h; order = refl })

-- a change is remembered behind the others, or in place of the newest
last_replaced : (k n : ℕ) (l : List ℕ) → length l ≡ suc k → in_place_of_last n l ≡ take k l ++ (n ∷ [])
last_replaced k n [] e = absurd (omega (arith, e))
last_replaced zero n (s ∷ []) e = refl
last_replaced (suc k) n (s ∷ []) e = absurd (omega (arith, e))
last_replaced zero n (s ∷ t ∷ l) e = absurd (omega (arith, e))
last_replaced (suc k) n (s ∷ t ∷ l) e = ap (λ (x : List ℕ). s ∷ x) (last_replaced k n (t ∷ l) (omega (arith, e)))

module _ (m : Memory) (g : good_memory m ≡ true) (n : ℕ) where
  noted : remembered (remembering n m) ≡ noting (full m) (n ∷ []) (remembered m)
  noted = go (full m) refl
    where
      go : (t : Bool) → full m ≡ t → remembered (remembering n m) ≡ noting (full m) (n ∷ []) (remembered m)
      go true e =
          let most = (memory_parts m g).most in
          let eight : length (remembered m) ≡ 8 = omega (arith, remembered_length m g, leb-true 8 m.count e) in
          rw e (remembered_ninth m g n e ∙ sym (last_replaced 7 n (remembered m) eight))
      go false e = rw e (remembered_behind m g n e)

  first_stays : (s : ℕ) → take 1 (remembered m) ≡ s ∷ [] → take 1 (remembered (remembering n m)) ≡ s ∷ []
  first_stays s h = go (full m) refl
    where
      is : remembered m ≡ s ∷ drop 1 (remembered m)
      is = first_of (remembered m) s h

      go : (t : Bool) → full m ≡ t → take 1 (remembered (remembering n m)) ≡ s ∷ []
      go true e = rw (remembered_ninth m g n e, is)
      go false e = rw (remembered_behind m g n e, is)

  still_showing : showing (remembering n m) ≡ showing m
  unfolding remembering
  still_showing = cases (λ (k : Memory). showing k ≡ showing m) (full m) (λ e. refl) (λ e. refl)

remembering_showing : (b c : BallBox) (n : ℕ) (g : UnderWay Message) → good_memory b.memory ≡ true → c.memory ≡ remembering n b.memory → Showing b g → Showing c g
remembering_showing b c n nothing k e h = rw e (still_showing b.memory k n ∙ h)
remembering_showing b c n (first i (report l)) k e h = rw e (still_showing b.memory k n ∙ h.0, λ s. first_stays b.memory k n l.report.buttons (h.1 s))
remembering_showing b c n (first i (reply bytes)) k e h = rw e (still_showing b.memory k n ∙ h)

pub buttons_keep : (b : BallBox) (n : ℕ) (g : UnderWay Message) → good_memory b.memory ≡ true → is_stream b.settings.mode ≡ true → n ≤ 7 → Showing b g
    → Keeps (noting (full b.memory) (change_to b (Buttons n)) (remembered b.memory)) (on_buttons n b) [] g
unfolding on_buttons
buttons_keep b n g k s l h = go (eqb n b.settings.buttons) refl
  where
    go : (t : Bool) → eqb n b.settings.buttons ≡ t → Keeps (noting (full b.memory) (change_to b (Buttons n)) (remembered b.memory)) (on_buttons n b) [] g
    go true e = rw (le-leb n 7 l, e) (record { showing = h; order = refl })
    go false e = rw (le-leb n 7 l, e, s) (record { showing = remembering_showing b (with_buttons n (with_memory (remembering n b.memory) b)) n g k refl h; order = sym (noted b.memory k n) })

-- a byte of the host's that empties nothing
abbrev pub Kept : Command → Type 0
Kept (SetFormat f) = ⊥
Kept (SetStream m) = is_stream m ≡ true
Kept SetPrompt = ⊥
Kept AskReport = ⊥
Kept AskAck = Unit {0}
Kept AskCode = Unit {0}
Kept AskLetters = Unit {0}
Kept AskButtons = Unit {0}
Kept Sleep = ⊥
Kept Ignored = Unit {0}

pub kept_command : (byte : ℕ) → empties byte ≡ false → Kept (command_of byte)
unfolding command_of
kept_command byte h =
    let three = neither (known byte || eqb byte mode_d || eqb byte letter_p) (eqb byte letterd) h in
    let two = neither (known byte || eqb byte mode_d) (eqb byte letter_p) three.0 in
    let one = neither (known byte) (eqb byte mode_d) two.0 in
    rw (one.0, one.1, two.1, three.1)
    (cases Kept (is_stream byte) (λ e. e)
    (λ _. cases Kept (eqb byte space) (λ _. tt)
    (λ _. cases Kept (eqb byte letterf) (λ _. tt) (λ _. cases Kept (eqb byte lettert) (λ _. tt) (λ _. cases Kept (eqb byte byte05) (λ _. tt) (λ _. tt))))))

kept_memory : (c : Command) (b : BallBox) → Kept c → (obeyed c b).memory ≡ b.memory
unfolding obeyed
kept_memory (SetFormat f) b k = absurd k
kept_memory (SetStream m) b k = refl
kept_memory SetPrompt b k = absurd k
kept_memory AskReport b k = absurd k
kept_memory AskAck b k = refl
kept_memory AskCode b k = refl
kept_memory AskLetters b k = refl
kept_memory AskButtons b k = refl
kept_memory Sleep b k = absurd k
kept_memory Ignored b k = refl

reply_showing : (bytes : List ℕ) (b : BallBox) → showing b.memory ≡ false → Showing b (unsent_reply bytes)
reply_showing [] b h = h
reply_showing (byte ∷ bytes) b h = h

dropped_memory : (b : BallBox) (g : UnderWay Message) → Carries b g → Showing b g → (showing (dropped b).memory ≡ false) × (remembered (dropped b).memory ≡ remembered b.memory)
unfolding hidden
dropped_memory b nothing c h = rw (dropped_idle b c) (h, refl)
dropped_memory b (first n m) c h = rw (dropped_busy b (bytes_left_lem b n m c)) (refl, remembered_hidden b.memory)

broken_shows : (g : UnderWay Message) → shown_by (broken_off g) ≡ []
broken_shows nothing = refl
broken_shows (first n m) = refl

pub host_keeps : (b : BallBox) (byte : ℕ) (g : UnderWay Message) → empties byte ≡ false → Carries b g → Showing b g
    → Keeps (remembered b.memory) (on_host byte b).next (shown_by (broken_off g)) (unsent_reply (reply_to b (command_of byte)))
unfolding on_host
host_keeps b byte g k c h =
    let e = kept_memory (command_of byte) (dropped b) (kept_command byte k) in
    let d = dropped_memory b g c h in
    rw (broken_shows g)
    (record {
      showing = reply_showing (reply_to b (command_of byte)) (on_host byte b).next (ap showing e ∙ d.0);
      order = sym (ap remembered e ∙ d.1);
    })
