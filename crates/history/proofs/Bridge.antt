-- The bridge: from any good box, over every list of events, the words of a run are the words of its passages.
use Prim.Native.Nat.{ℕ}
use mathlib.Core.Path.{◌≡◌, refl, sym, ◌∙◌, ap, ap₂}
use mathlib.Core.Bool.{Bool, true, false, cond}
use mathlib.Core.List.{List, [], ◌∷◌, ◌++◌, append-nil}
use lib.Dec.{eqb, lit<, lit≤}
use Rattle.numbers.proofs.Choices.{cases}
use Rattle.numbers.proofs.Tested.{holds}
use Rattle.frames.specs.Passages.{UnderWay, nothing, first, passage_words, part_words}
use Rattle.frames.specs.Sender.{told}
use Rattle.frames.proofs.Sender.{given_over, bridge}
use Rattle.wire.specs.Messages.{Message, message_bytes}
use Rattle.ballbox.specs.Box as box
use Rattle.ballbox.specs.Box.{going_from, dormant}
use Rattle.ballbox.specs.Events.{quietly, bytes_left, on_buttons, on_period, awake, asleep, woken}
use Rattle.ballbox.specs.Good.{good}
use Rattle.ballbox.specs.Promises.{above_seven, step_of}
use Rattle.ballbox.specs.declared.BallBox.{BallBox}
use Rattle.ballbox.specs.declared.Stepped.{Stepped}
use Rattle.ballbox.specs.declared.Event.{Event}
use Rattle.ballbox.specs.declared.Event.TheVariants.{Motion, Buttons, Host, Latch, Send, Period}
use Rattle.ballbox.proofs.Single.{says}
use Rattle.ballbox.proofs.Goodness.{stepped_good}
use Rattle.ballbox.proofs.Refusals.{ruled}
use Rattle.history.specs.Runs.{RunPromise, words_given}
use Rattle.history.specs.History.{when_awake, when_asleep, told_by, next_box, passages_of, going_after}
use Rattle.history.specs.Carried.{Carries}
use Rattle.history.proofs.Carries.{Alike, same_line, Sends}
use Rattle.history.proofs.Sending.{send_sends, latch_sends}
use Rattle.history.proofs.Hosts.{host_busy, host_idle}

-- a step without a word, which leaves the line, the format and the sleep as they are
quiet : (b c : BallBox) (g : UnderWay Message) → c.going ≡ b.going → Alike b c → Carries b g → Sends (quietly c) g (told [] g)
quiet b c g l a h = record { words = append-nil (part_words message_bytes g); carries = same_line g b c l a h }

alike : {b c : BallBox} → c.settings.format ≡ b.settings.format → dormant c ≡ dormant b → Alike b c
alike f d = record { format = f; dormant = d }

pub buttons_line : (n : ℕ) (b : BallBox) → ((on_buttons n b).going ≡ b.going) × Alike b (on_buttons n b)
unfolding on_buttons
buttons_line n b =
    cases (λ (c : BallBox). (c.going ≡ b.going) × Alike b c) (eqb n b.settings.buttons) (λ e. (refl, alike refl refl)) (λ e. (refl, alike refl refl))

awake_host : (b : BallBox) (byte : ℕ) (g : UnderWay Message) → dormant b ≡ false → Carries b g → Sends (awake b (Host byte)) g (when_awake b (Host byte) g)
unfolding awake
awake_host b byte nothing d h = host_idle b byte d h
awake_host b byte (first n m) d h = host_busy b byte n m d h

awake_sends : (b : BallBox) (e : Event) (g : UnderWay Message) → good b ≡ true → dormant b ≡ false → Carries b g → Sends (awake b e) g (when_awake b e g)
unfolding awake on_period
awake_sends b (Motion dx dy) g k d h = quiet b _ g refl (alike refl refl) h
awake_sends b (Buttons n) g k d h = let l = buttons_line n b in quiet b (on_buttons n b) g l.0 l.1 h
awake_sends b (Host byte) g k d h = awake_host b byte g d h
awake_sends b Latch g k d h = latch_sends b g k d h
awake_sends b Send g k d h = send_sends b g h
awake_sends b Period g k d h = quiet b _ g refl (alike refl refl) h

-- a dormant box has nothing going
idle_asleep : (b : BallBox) (e : Event) → bytes_left b ≡ false → Sends (asleep b e) nothing (when_asleep b e nothing)
unfolding asleep woken going_from
idle_asleep b (Motion dx dy) h = record { words = refl; carries = h }
idle_asleep b (Buttons n) h = record { words = refl; carries = h }
idle_asleep b (Host byte) h = record { words = refl; carries = (refl, record { left = lit< tt; sendable = lit≤ tt; awake = refl }) }
idle_asleep b Latch h = record { words = refl; carries = h }
idle_asleep b Send h = record { words = refl; carries = h }
idle_asleep b Period h = record { words = refl; carries = h }

asleep_sends : (b : BallBox) (e : Event) (g : UnderWay Message) → dormant b ≡ true → Carries b g → Sends (asleep b e) g (when_asleep b e g)
asleep_sends b e nothing d h = idle_asleep b e h
asleep_sends b e (first n m) d h = absurd (holds (sym h.1.awake ∙ d))

-- every step of a good box
pub told_is : (b : BallBox) (e : Event) (g : UnderWay Message) (s : Bool) → above_seven e ≡ false → dormant b ≡ s → told_by b e g ≡ cond s (when_asleep b e g) (when_awake b e g)
unfolding told_by
told_is b e g s p q = rw p (ap (λ (t : Bool). cond t (when_asleep b e g) (when_awake b e g)) q)

refused_sends : (b : BallBox) (e : Event) (g : UnderWay Message) → good b ≡ true → above_seven e ≡ true → Carries b g → Sends (step_of b e) g (told_by b e g)
unfolding step_of told_by
refused_sends b e g k p h = rw (k, p) (record { words = append-nil (part_words message_bytes g); carries = h })

pub step_sends : (b : BallBox) (e : Event) (g : UnderWay Message) → good b ≡ true → Carries b g → Sends (step_of b e) g (told_by b e g)
step_sends b e g k h = go (above_seven e) refl (dormant b) refl
  where
    go : (t : Bool) → above_seven e ≡ t → (s : Bool) → dormant b ≡ s → Sends (step_of b e) g (told_by b e g)
    go true p s q = refused_sends b e g k p h
    go false p true q = rw (ruled b e true k p q, told_is b e g true p q) (asleep_sends b e g q h)
    go false p false q = rw (ruled b e false k p q, told_is b e g false p q) (awake_sends b e g k q h)

-- a box that carries what is going, and stays good
abbrev Holds : BallBox → UnderWay Message → Type 0
Holds b g = (good b ≡ true) × Carries b g

step : (b : BallBox) (e : Event) (g : UnderWay Message) → Holds b g → (part_words message_bytes g ++ (step_of b e).words ≡ passage_words message_bytes (told_by b e g).passages ++ part_words message_bytes (told_by b e g).going) × Holds (next_box b e) (told_by b e g).going
step b e g h = let s = step_sends b e g h.0 h.1 in (s.words, (stepped_good b e h.0, s.carries))

-- any answers that the promise permits give the words of the rules
pub permitted : (b : BallBox) (events : List Event) (answers : List Stepped) → RunPromise b events answers → words_given answers ≡ given_over next_box (λ b e. (step_of b e).words) b events
unfolding RunPromise given_over
permitted b [] [] p = refl
permitted b [] (a ∷ answers) p = absurd p
permitted b (e ∷ events) [] p = absurd p
permitted b (e ∷ events) (a ∷ answers) p =
    let n : a.next ≡ next_box b e = ap (λ (x : Stepped). x.next) p.0 in
    ap₂ ◌++◌ (ap (λ (x : box.Step). x.words) (says b e a p.0))
    (permitted a.next events answers p.1 ∙ rw n)

-- The words of a run, behind what of the report or reply that was going has gone before it, are the words of its
-- passages and of what is going after them: dormancy, format commands and replies included.
pub run_carried : (b : BallBox) (g : UnderWay Message) (events : List Event) (answers : List Stepped) → good b ≡ true → Carries b g → RunPromise b events answers
    → part_words message_bytes g ++ words_given answers ≡ passage_words message_bytes (passages_of b g events) ++ part_words message_bytes (going_after b g events)
run_carried b g events answers k h p =
    ap (λ (ws : List ℕ). part_words message_bytes g ++ ws) (permitted b events answers p) ∙ bridge message_bytes next_box (λ b e. (step_of b e).words) told_by Holds step b g events (k, h)

-- and with nothing going
pub run_passages : (b : BallBox) (events : List Event) (answers : List Stepped) → good b ≡ true → bytes_left b ≡ false → RunPromise b events answers → words_given answers ≡ passage_words message_bytes (passages_of b nothing events) ++ part_words message_bytes (going_after b nothing events)
run_passages b events answers k h p = run_carried b nothing events answers k h p
