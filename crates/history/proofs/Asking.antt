-- A box that is set to one format and asked only for reports sends sound passages of that format.
use Prim.Native.Nat.{ℕ, ◌+◌}
use mathlib.Core.Path.{◌≡◌, refl, sym, ◌∙◌, ap}
use mathlib.Core.Bool.{Bool, true, false, not, ◌&&◌}
use mathlib.Core.List.{List, [], ◌∷◌}
use native.Mathlib.Omega.{arith}
use lib.ListN.{length}
use lib.Dec.{eqb}
use borrow.Author.Tests.{eqb-true, eqb-false}
use Rattle.frames.specs.Passages.{Passage, UnderWay, nothing, first, Sound, SoundPart}
use Rattle.frames.specs.Sender.{told, sent_one, broken_off, passages_over, going_over}
use Rattle.frames.proofs.Passages.{sound_append, sound_by, part_by}
use Rattle.numbers.proofs.Choices.{cases, or_else, both}
use Rattle.numbers.proofs.Tested.{left, right}
use Rattle.wire.specs.Line.{letter_of, named_by, known}
use Rattle.wire.specs.Messages.{Message, report, reply, message_bytes, HeldBy, SoundIn, SoundEnd}
use Rattle.wire.specs.declared.Format.{Format}
use Rattle.wire.specs.declared.Format.TheVariants.{FiveByte}
use Rattle.wire.proofs.Letters.{letter_named}
use Rattle.ballbox.specs.Box.{mode_o, mode_d, dormant}
use Rattle.ballbox.specs.Latching.{latched, second_latched}
use Rattle.ballbox.specs.Commands.{letter_p, command_of, asks_for_reports, reply_to, obeyed}
use Rattle.ballbox.specs.Events.{bytes_left, wanted, latching, second_now, with_byte_ready, next_byte, sending, dropped, on_host, on_period, awake}
use Rattle.ballbox.specs.Good.{good}
use Rattle.ballbox.specs.Promises.{above_seven, step_of}
use Rattle.ballbox.specs.declared.Settings.{Settings}
use Rattle.ballbox.specs.declared.BallBox.{BallBox}
use Rattle.ballbox.specs.declared.Command.{Command}
use Rattle.ballbox.specs.declared.Command.TheVariants.{SetFormat, SetStream, SetPrompt, AskReport, AskAck, AskCode, AskLetters, AskButtons, Sleep, Ignored}
use Rattle.ballbox.specs.declared.Event.{Event}
use Rattle.ballbox.specs.declared.Event.TheVariants.{Motion, Buttons, Host, Latch, Send, Period}
use Rattle.ballbox.proofs.Goodness.{stepped_good}
use Rattle.ballbox.proofs.Refusals.{ruled, refused_next}
use Rattle.ballbox.proofs.Obeying.{dropped_settings, dropped_awake}
use Rattle.history.specs.History.{format_of, latched_now, begun, paired_at, paired, is_five, unsent_reply, when_awake, told_by, next_box, passages_of, going_after}
use Rattle.history.specs.Asked.{hosts_pass, all_hosts, asks, only_asks}
use Rattle.history.specs.Carried.{Carrying, SetOf, HeldWith, SetWith, SetTo}
use Rattle.history.proofs.Carries.{Alike}
use Rattle.history.proofs.Sending.{latched_carries, five_is, pair_accepted, pairs}
use Rattle.history.proofs.Bridge.{step_sends, told_is, buttons_line}

-- a test of messages that what is latched passes, and what passes it with U's second pair
pub record Lasting (f : Format) (T : Message → Type 0) : Type 0 where
  pub of_latched : (b : BallBox) → good b ≡ true → dormant b ≡ false → b.settings.format ≡ letter_of f → T (report (latched_now b))
  pub of_pair : (b : BallBox) (n : ℕ) (m : Message) → b.settings.format ≡ letter_of f → T m → T (paired_at b n m)

pub same_format : (b : BallBox) (f : Format) → b.settings.format ≡ letter_of f → format_of b ≡ f
same_format b f e = rw (e, letter_named f)

pair_held : (P : List ℕ → Type 0) (f : Format) (b : BallBox) (n : ℕ) (m : Message) → b.settings.format ≡ letter_of f → HeldWith P f m → HeldWith P f (paired_at b n m)
pair_held P f b n (report l) s h = go (is_five l.format && eqb n 3) refl
  where
    go : (t : Bool) → is_five l.format && eqb n 3 ≡ t → HeldWith P f (paired_at b n (report l))
    go true e =
        let u : f ≡ FiveByte = sym h.0 ∙ five_is l.format (left (is_five l.format) (eqb n 3) e) in
        rw e (h.0, rw (s, u) (pair_accepted b.track l.report (rw u at h.1)))
    go false e = rw e h
pair_held P f b n (reply bytes) s h = h

held_lasting : (P : List ℕ → Type 0) (f : Format) → Lasting f (HeldWith P f)
held_lasting P f =
    record {
      of_latched = λ b g d e. let s = same_format b f e in (s, rw s at (latched_carries b g d).1.sendable.1);
      of_pair = pair_held P f;
    }

module _ {f : Format} {T : Message → Type 0} (L : Lasting f T) where
  -- what is ready to be sent passes it, and so does what is latched
  sound_latched : (b : BallBox) (g : UnderWay Message) → SetOf f T b g → SoundPart message_bytes T (begun b g)
  sound_latched b nothing h =
      cases (SoundPart message_bytes T) (wanted b) (λ e. (L.of_latched b h.good h.awake h.format, (latched_carries b h.good h.awake).1.left)) (λ e. tt)
  sound_latched b (first n m) h = h.sound

  sound_ready : (b : BallBox) (g : UnderWay Message) → SetOf f T b g → SoundPart message_bytes T (paired b g)
  sound_ready b nothing h = tt
  sound_ready b (first n m) h = (L.of_pair b n m h.format h.sound.0, (pairs b n m h.carries).carries.1.left)

-- and so do the passages that it ends, and what is left of it
module _ (T : Message → Type 0) where
  sound_sent : (g : UnderWay Message) → SoundPart message_bytes T g → Sound message_bytes T (sent_one message_bytes g).passages × SoundPart message_bytes T (sent_one message_bytes g).going
  sound_sent nothing s = ((tt, tt), tt)
  sound_sent (first n m) s = go (eqb (n + 1) (length (message_bytes m))) refl
    where
      go : (t : Bool) → eqb (n + 1) (length (message_bytes m)) ≡ t → Sound message_bytes T (sent_one message_bytes (first n m)).passages × SoundPart message_bytes T (sent_one message_bytes (first n m)).going
      go true e = rw e ((s.0, tt), tt)
      go false e = let d = eqb-false (n + 1) (length (message_bytes m)) e in rw e (tt, (s.0, omega (arith, s.1)))

  sound_broken : (g : UnderWay Message) → SoundPart message_bytes T g → Sound message_bytes T (broken_off g)
  sound_broken nothing s = tt
  sound_broken (first n m) s = (s, tt)

-- a box with the format and the sleep of another, step by step
alike_then : {a b c : BallBox} → Alike a b → Alike b c → Alike a c
alike_then p q = record { format = q.format ∙ p.format; dormant = q.dormant ∙ p.dormant }

alike : (b : BallBox) → Alike b b
alike b = record { format = refl; dormant = refl }

pub latching_alike : (b : BallBox) → Alike b (latching b)
unfolding latching latched
latching_alike b = cases (Alike b) (not (bytes_left b) && wanted b) (λ _. (record { format = refl; dormant = refl })) (λ _. alike b)

ready_alike : (b : BallBox) → Alike b (with_byte_ready b)
unfolding with_byte_ready second_latched
ready_alike b = cases (Alike b) (second_now b) (λ _. (record { format = refl; dormant = refl })) (λ _. alike b)

pub sending_alike : (b : BallBox) → Alike b (sending b).next
unfolding sending next_byte
sending_alike b = go (bytes_left b) refl
  where
    go : (t : Bool) → bytes_left b ≡ t → Alike b (sending b).next
    go true e = rw e (let k = ready_alike b in record { format = k.format; dormant = k.dormant })
    go false e = rw e (alike b)

pub dropped_alike : (b : BallBox) → Alike b (dropped b)
dropped_alike b = record { format = ap (λ (s : Settings). s.format) (dropped_settings b); dormant = dropped_awake b }

-- the commands by which a box is asked for reports, and a byte that it ignores: none of them has a reply, changes the format or puts it to sleep
abbrev pub Asking : Command → Type 0
Asking (SetFormat f) = ⊥
Asking (SetStream m) = Unit {0}
Asking SetPrompt = Unit {0}
Asking AskReport = Unit {0}
Asking AskAck = ⊥
Asking AskCode = ⊥
Asking AskLetters = ⊥
Asking AskButtons = ⊥
Asking Sleep = ⊥
Asking Ignored = Unit {0}

byte_asks : (n : ℕ) → Asking (command_of n) → (byte : ℕ) → eqb byte n ≡ true → Asking (command_of byte)
byte_asks n h byte e = rw (eqb-true byte n e) h

pub asking_command : (byte : ℕ) → asks_for_reports byte ≡ true → Asking (command_of byte)
unfolding command_of known named_by
asking_command byte =
    or_else _ _
    (or_else _ _
    (or_else _ _
    (or_else _ _ (or_else _ _ (or_else _ _ (or_else _ _ (or_else _ _ (or_else _ _ (byte_asks 0x4A tt byte) (byte_asks 0x4B tt byte)) (byte_asks 0x4C tt byte)) (byte_asks 0x52 tt byte)) (byte_asks 0x4D tt byte)) (byte_asks 0x51 tt byte)) (byte_asks 0x4E tt byte))
    (byte_asks mode_o tt byte))
    (byte_asks mode_d tt byte))
    (byte_asks letter_p tt byte)

pub asking_alike : (b : BallBox) (c : Command) → Asking c → Alike b (obeyed c b)
unfolding obeyed
asking_alike b (SetFormat f) h = absurd h
asking_alike b (SetStream m) h = record { format = refl; dormant = refl }
asking_alike b SetPrompt h = record { format = refl; dormant = refl }
asking_alike b AskReport h = record { format = refl; dormant = refl }
asking_alike b AskAck h = absurd h
asking_alike b AskCode h = absurd h
asking_alike b AskLetters h = absurd h
asking_alike b AskButtons h = absurd h
asking_alike b Sleep h = absurd h
asking_alike b Ignored h = record { format = refl; dormant = refl }

pub asking_reply : (b : BallBox) (c : Command) → Asking c → reply_to b c ≡ []
asking_reply b (SetFormat f) h = absurd h
asking_reply b (SetStream m) h = refl
asking_reply b SetPrompt h = refl
asking_reply b AskReport h = refl
asking_reply b AskAck h = absurd h
asking_reply b AskCode h = absurd h
asking_reply b AskLetters h = absurd h
asking_reply b AskButtons h = absurd h
asking_reply b Sleep h = absurd h
asking_reply b Ignored h = refl

pub refused_told : (b : BallBox) (e : Event) (g : UnderWay Message) → above_seven e ≡ true → told_by b e g ≡ told [] g
unfolding told_by
refused_told b e g p = rw p

-- events whose bytes of the host's are of a kind
abbrev pub HostsAre : (ℕ → Type 0) → Event → Type 0
HostsAre Q (Motion dx dy) = Unit {0}
HostsAre Q (Buttons n) = Unit {0}
HostsAre Q (Host byte) = Q byte
HostsAre Q Latch = Unit {0}
HostsAre Q Send = Unit {0}
HostsAre Q Period = Unit {0}

-- bytes of a kind by which a box stays awake and in its format, and leave nothing to be sent that does not pass a test
pub record Keeping (T : Message → Type 0) (Q : ℕ → Type 0) : Type 0 where
  pub stays : (b : BallBox) (byte : ℕ) → Q byte → Alike b (obeyed (command_of byte) b)
  pub leaves : (b : BallBox) (byte : ℕ) → good b ≡ true → Q byte → SoundPart message_bytes T (unsent_reply (reply_to b (command_of byte)))

module _ {T : Message → Type 0} {Q : ℕ → Type 0} (keeps : Keeping T Q) where
  -- such an event leaves its format and keeps it awake
  awake_alike : (b : BallBox) (e : Event) → HostsAre Q e → Alike b (awake b e).next
  unfolding awake on_period on_host
  awake_alike b (Motion dx dy) a = record { format = refl; dormant = refl }
  awake_alike b (Buttons n) a = (buttons_line n b).1
  awake_alike b (Host byte) a = alike_then (dropped_alike b) (keeps.stays (dropped b) byte a)
  awake_alike b Latch a = latching_alike b
  awake_alike b Send a = sending_alike b
  awake_alike b Period a = record { format = refl; dormant = refl }

  alike_by : (b : BallBox) (e : Event) → HostsAre Q e → good b ≡ true → dormant b ≡ false → Alike b (step_of b e).next
  alike_by b e a k d = go (above_seven e) refl
    where
      go : (t : Bool) → above_seven e ≡ t → Alike b (step_of b e).next
      go true p = rw (refused_next b e k p) (alike b)
      go false p = rw (ruled b e false k p d) (awake_alike b e a)

  module _ {f : Format} (L : Lasting f T) where
    -- and ends passages only that pass the test
    awake_told : (b : BallBox) (e : Event) (g : UnderWay Message) → HostsAre Q e → SetOf f T b g → Sound message_bytes T (when_awake b e g).passages × SoundPart message_bytes T (when_awake b e g).going
    awake_told b (Motion dx dy) g a h = (tt, h.sound)
    awake_told b (Buttons n) g a h = (tt, h.sound)
    awake_told b (Host byte) g a h = (sound_broken T g h.sound, keeps.leaves b byte h.good a)
    awake_told b Latch g a h = (tt, sound_latched L b g h)
    awake_told b Send g a h = sound_sent T (paired b g) (sound_ready L b g h)
    awake_told b Period g a h = (tt, h.sound)

    -- one step of such a box
    kept_step : (b : BallBox) (e : Event) (g : UnderWay Message) → HostsAre Q e → SetOf f T b g → Sound message_bytes T (told_by b e g).passages × SetOf f T (next_box b e) (told_by b e g).going
    kept_step b e g a h =
        let l = alike_by b e a h.good h.awake in
        let s = told_sound in (
          s.0,
          record {
            good = stepped_good b e h.good;
            awake = l.dormant ∙ h.awake;
            format = l.format ∙ h.format;
            carries = (step_sends b e g h.good h.carries).carries;
            sound = s.1;
          },
        )
      where
        told_sound : Sound message_bytes T (told_by b e g).passages × SoundPart message_bytes T (told_by b e g).going
        told_sound = go (above_seven e) refl
          where
            go : (t : Bool) → above_seven e ≡ t → Sound message_bytes T (told_by b e g).passages × SoundPart message_bytes T (told_by b e g).going
            go true p = rw (refused_told b e g p) (tt, h.sound)
            go false p = rw (told_is b e g false p h.awake) (awake_told b e g a h)

-- a test of the host's bytes, of one event and of all
pass_are : (test : ℕ → Bool) (e : Event) → hosts_pass test e ≡ true → HostsAre (λ byte. test byte ≡ true) e
pass_are test (Motion dx dy) a = tt
pass_are test (Buttons n) a = tt
pass_are test (Host byte) a = a
pass_are test Latch a = tt
pass_are test Send a = tt
pass_are test Period a = tt

module _ {T : Message → Type 0} {test : ℕ → Bool} (keeps : Keeping T (λ byte. test byte ≡ true)) {f : Format} (L : Lasting f T) where
  kept_sound : (b : BallBox) (g : UnderWay Message) (events : List Event) → all_hosts test events ≡ true → SetOf f T b g
      → Sound message_bytes T (passages_of b g events) × SoundPart message_bytes T (going_after b g events)
  unfolding all_hosts passages_over going_over
  kept_sound b g [] a h = (tt, h.sound)
  kept_sound b g (e ∷ events) a h =
      let s = kept_step keeps L b e g (pass_are test e (left (hosts_pass test e) (all_hosts test events) a)) h in
      let r = kept_sound (next_box b e) (told_by b e g).going events (right (hosts_pass test e) (all_hosts test events) a) s.1 in
      (sound_append message_bytes T (told_by b e g).passages (passages_of (next_box b e) (told_by b e g).going events) s.0 r.0, r.1)

-- a box whose host bytes pass a test, and whose replies pass another
pub record Hosts (P : List ℕ → Type 0) (test : ℕ → Bool) : Type 0 where
  pub stays : (b : BallBox) (byte : ℕ) → test byte ≡ true → Alike b (obeyed (command_of byte) b)
  pub leaves : (f : Format) (b : BallBox) (byte : ℕ) → good b ≡ true → test byte ≡ true → SoundPart message_bytes (HeldWith P f) (unsent_reply (reply_to b (command_of byte)))

module _ {P : List ℕ → Type 0} {test : ℕ → Bool} (hosts : Hosts P test) (f : Format) where
  keeping : Keeping (HeldWith P f) (λ byte. test byte ≡ true)
  keeping = record { stays = hosts.stays; leaves = hosts.leaves f }

  pub hosted_step : (b : BallBox) (e : Event) (g : UnderWay Message) → hosts_pass test e ≡ true → SetWith P f b g
      → Sound message_bytes (HeldWith P f) (told_by b e g).passages × SetWith P f (next_box b e) (told_by b e g).going
  hosted_step b e g a h = kept_step keeping (held_lasting P f) b e g (pass_are test e a) h

  pub hosted_sound : (b : BallBox) (g : UnderWay Message) (events : List Event) → all_hosts test events ≡ true → SetWith P f b g
      → Sound message_bytes (HeldWith P f) (passages_of b g events) × SoundPart message_bytes (HeldWith P f) (going_after b g events)
  hosted_sound = kept_sound keeping (held_lasting P f)

-- bytes by which a box is asked for reports, or which it ignores, leave no reply
silent : (T : Message → Type 0) → Keeping T (λ byte. Asking (command_of byte))
silent T = record { stays = λ b byte a. asking_alike b (command_of byte) a; leaves = λ b byte k a. rw (asking_reply b (command_of byte) a) tt }

abbrev pub Asks : Event → Type 0
Asks e = HostsAre (λ byte. Asking (command_of byte)) e

asking : (T : Message → Type 0) → Keeping T (λ byte. asks_for_reports byte ≡ true)
asking T = record { stays = λ b byte a. (silent T).stays b byte (asking_command byte a); leaves = λ b byte k a. (silent T).leaves b byte k (asking_command byte a) }

pub step_alike : (b : BallBox) (e : Event) → asks e ≡ true → good b ≡ true → dormant b ≡ false → Alike b (step_of b e).next
step_alike b e a = alike_by (asking (λ _. ⊥)) b e (pass_are asks_for_reports e a)

held_only : (f : Format) (m : Message) → HeldWith (λ _. ⊥) f m → HeldBy f m
held_only f (report l) h = h
held_only f (reply bytes) h = h

only_held : (f : Format) (l : List (Passage Message)) (g : UnderWay Message) → Sound message_bytes (HeldWith (λ _. ⊥) f) l × SoundPart message_bytes (HeldWith (λ _. ⊥) f) g → SoundIn f l × SoundEnd f g
only_held f l g s =
    (sound_by message_bytes (HeldWith (λ _. ⊥) f) (HeldBy f) (held_only f) l s.0, part_by message_bytes (HeldWith (λ _. ⊥) f) (HeldBy f) (held_only f) g s.1)

-- what is going is a report that f holds
pub set_sound : (f : Format) (b : BallBox) (g : UnderWay Message) → SetTo f b g → SoundEnd f g
set_sound f b g h = part_by message_bytes (HeldWith (λ _. ⊥) f) (HeldBy f) (held_only f) g h.sound

-- and such a box is set so
held_with : (f : Format) (m : Message) → HeldBy f m → HeldWith (λ _. ⊥) f m
held_with f (report l) h = h
held_with f (reply bytes) h = h

pub set_of : (f : Format) (b : BallBox) (g : UnderWay Message) → Carrying b g → dormant b ≡ false → b.settings.format ≡ letter_of f → SoundEnd f g → SetTo f b g
set_of f b g h d e s =
    record { good = h.good; awake = d; format = e; carries = h.carries; sound = part_by message_bytes (HeldBy f) (HeldWith (λ _. ⊥) f) (held_with f) g s }

-- one step of a box that is handed such bytes only
pub asked_step : (f : Format) (b : BallBox) (e : Event) (g : UnderWay Message) → Asks e → SetTo f b g → SoundIn f (told_by b e g).passages × SetTo f (next_box b e) (told_by b e g).going
asked_step f b e g a h =
    let s = kept_step (silent (HeldWith (λ _. ⊥) f)) (held_lasting (λ _. ⊥) f) b e g a h in
    (sound_by message_bytes (HeldWith (λ _. ⊥) f) (HeldBy f) (held_only f) (told_by b e g).passages s.0, s.1)

-- over every list of events by which it is asked only for reports
pub asked_lasting : {f : Format} {T : Message → Type 0} → Lasting f T → (b : BallBox) (g : UnderWay Message) (events : List Event) → only_asks events ≡ true → SetTo f b g → SoundPart message_bytes T g
    → Sound message_bytes T (passages_of b g events) × SoundPart message_bytes T (going_after b g events)
asked_lasting {f} {T} L b g events a h s =
    kept_sound (asking T) L b g events a (record { good = h.good; awake = h.awake; format = h.format; carries = h.carries; sound = s })

pub asked_sound : (f : Format) (b : BallBox) (g : UnderWay Message) (events : List Event) → only_asks events ≡ true → SetTo f b g → SoundIn f (passages_of b g events) × SoundEnd f (going_after b g events)
asked_sound f b g events a h = only_held f (passages_of b g events) (going_after b g events) (kept_sound (asking (HeldWith (λ _. ⊥) f)) (held_lasting (λ _. ⊥) f) b g events a h)

-- events whose bytes of the host's pass one test pass another
pub hosts_by : (P Q : ℕ → Bool) → ((byte : ℕ) → P byte ≡ true → Q byte ≡ true) → (events : List Event) → all_hosts P events ≡ true → all_hosts Q events ≡ true
unfolding all_hosts
hosts_by P Q by [] h = refl
hosts_by P Q by (Motion dx dy ∷ events) h = hosts_by P Q by events h
hosts_by P Q by (Buttons n ∷ events) h = hosts_by P Q by events h
hosts_by P Q by (Host byte ∷ events) h = both (Q byte) (all_hosts Q events) (by byte (left (P byte) (all_hosts P events) h)) (hosts_by P Q by events (right (P byte) (all_hosts P events) h))
hosts_by P Q by (Latch ∷ events) h = hosts_by P Q by events h
hosts_by P Q by (Send ∷ events) h = hosts_by P Q by events h
hosts_by P Q by (Period ∷ events) h = hosts_by P Q by events h
