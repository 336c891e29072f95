-- The words that a box sends behind a command that has a reply, or behind the byte that woke it: that reply.
use Prim.Native.Nat.{ℕ, ◌+◌}
use mathlib.Core.Path.{◌≡◌, refl, ◌∙◌, ap, ap₂}
use mathlib.Core.Bool.{Bool, true, false, cond}
use mathlib.Core.List.{List, [], ◌∷◌, ◌++◌, append_assoc, append-nil}
use native.Mathlib.Omega.{arith}
use lib.ListN.{length, take}
use lib.Dec.{eqb, lit<, lit≤}
use borrow.Author.Tests.{eqb-true}
use Rattle.numbers.proofs.Tested.{holds}
use Rattle.frames.specs.Passages.{UnderWay, first}
use Rattle.frames.specs.Sender.{told, sent_one}
use Rattle.wire.specs.Line.{known, named_by}
use Rattle.wire.specs.Messages.{Message, reply, message_bytes}
use Rattle.ballbox.specs.Box as box
use Rattle.ballbox.specs.Box.{going_from, dormant}
use Rattle.ballbox.specs.Commands.{ack, command_of, obeyed}
use Rattle.ballbox.specs.Commands as commands
use Rattle.ballbox.specs.Events.{Speaks, dropped, on_host, asleep, woken}
use Rattle.ballbox.specs.Good.{good}
use Rattle.ballbox.specs.Promises.{sent_words, above_seven, step_of, StepPromise}
use Rattle.ballbox.specs.declared.BallBox.{BallBox}
use Rattle.ballbox.specs.declared.Event.{Event}
use Rattle.ballbox.specs.declared.Event.TheVariants.{Motion, Buttons, Host, Latch, Send, Period}
use Rattle.ballbox.specs.declared.Stepped.{Stepped}
use Rattle.ballbox.proofs.Single.{says}
use Rattle.ballbox.proofs.Cases.{dropped_idle}
use Rattle.ballbox.proofs.Goodness.{stepped_good}
use Rattle.ballbox.proofs.Obeying.{heard, dropped_settings, dropped_awake}
use Rattle.ballbox.proofs.Refusals.{asleep_step}
use Rattle.ballbox.specs.Marks.{marked}
use Rattle.ballbox.proofs.Words.{only_send_and_host}
use Rattle.history.specs.Runs.{RunPromise, words_given}
use Rattle.history.specs.Asked.{all_hosts}
use Rattle.history.specs.History.{unsent_reply, when_awake, told_by, next_box}
use Rattle.history.specs.Presses.{no_host}
use Rattle.history.specs.Carried.{Carries}
use Rattle.history.proofs.Bridge.{step_sends, told_is}
use Rattle.history.proofs.Carries as history
use Rattle.history.proofs.Asking.{refused_told}
use Rattle.history.proofs.Hosts.{none_left, host_idle}
use Rattle.replies.specs.Replying.{size_of}
use Rattle.replies.specs.Rules.{reply_to}
use Rattle.tellings.specs.Runs.{sends_in}
use Rattle.tellings.proofs.Answering.{Asks, a_space, an_f, a_t, a_05, asks_reply}
use Rattle.tellings.proofs.Passed.{IsReply}

-- a step that does not speak gives no word
unspoken : (b : BallBox) (e : Event) (a : Stepped) → StepPromise b e a → (Speaks b e → ⊥) → sent_words a ≡ []
unspoken b e a p never = go (marked a.sent) refl
  where
    go : (t : Bool) → marked a.sent ≡ t → cond t (a.word ∷ []) [] ≡ []
    go false q = refl
    go true q = absurd (never (only_send_and_host b e a a.word [] p (rw q)))

-- no word comes of events without Sends and bytes of the host's
none_sent : (events : List Event) (b : BallBox) (answers : List Stepped) → no_host events ≡ true → sends_in events ≡ 0 → RunPromise b events answers → words_given answers ≡ []
unfolding all_hosts RunPromise
none_sent [] b [] h k p = refl
none_sent [] b (a ∷ answers) h k p = absurd p
none_sent (e ∷ events) b [] h k p = absurd p
none_sent (Motion dx dy ∷ events) b (a ∷ answers) h k p = ap₂ ◌++◌ (unspoken b (Motion dx dy) a p.0 (λ x. x)) (none_sent events a.next answers h k p.1)
none_sent (Buttons n ∷ events) b (a ∷ answers) h k p = ap₂ ◌++◌ (unspoken b (Buttons n) a p.0 (λ x. x)) (none_sent events a.next answers h k p.1)
none_sent (Host byte ∷ events) b (a ∷ answers) h k p = absurd (holds h)
none_sent (Latch ∷ events) b (a ∷ answers) h k p = ap₂ ◌++◌ (unspoken b Latch a p.0 (λ x. x)) (none_sent events a.next answers h k p.1)
none_sent (Send ∷ events) b (a ∷ answers) h k p = absurd (omega arith)
none_sent (Period ∷ events) b (a ∷ answers) h k p = ap₂ ◌++◌ (unspoken b Period a p.0 (λ x. x)) (none_sent events a.next answers h k p.1)

-- Of a reply n bytes have gone: what then comes of events without bytes of the host's and with as many Sends as bytes are left is the rest of it.
module _ (bytes : List ℕ) where
  abbrev gone : ℕ → UnderWay Message
  gone n = first n (reply bytes)

  record Still (n : ℕ) (a : Stepped) : Type 0 where
    good_next : good a.next ≡ true
    carries : Carries a.next (gone n)
    words : sent_words a ≡ []

  stays : (b : BallBox) (e : Event) (n : ℕ) → dormant b ≡ false → when_awake b e (gone n) ≡ told [] (gone n) → told_by b e (gone n) ≡ told [] (gone n)
  stays b e n d w = go (above_seven e) refl
    where
      go : (t : Bool) → above_seven e ≡ t → told_by b e (gone n) ≡ told [] (gone n)
      go true p = refused_told b e (gone n) p
      go false p = told_is b e (gone n) false p d ∙ w

  still : (b : BallBox) (e : Event) (n : ℕ) (a : Stepped) → good b ≡ true → Carries b (gone n) → StepPromise b e a → (Speaks b e → ⊥) → when_awake b e (gone n) ≡ told [] (gone n) → Still n a
  still b e n a g h p never w =
      let next : a.next ≡ next_box b e = ap (λ (x : Stepped). x.next) p in
      let moved : history.Sends (step_of b e) (gone n) (told [] (gone n)) = rw (stays b e n h.1.awake w) at (step_sends b e (gone n) g h) in
      record {
        good_next = rw next (stepped_good b e g);
        carries = rw next moved.carries;
        words = unspoken b e a p never;
      }

  rest_sent : (events : List Event) (b : BallBox) (n : ℕ) (answers : List Stepped) → good b ≡ true → Carries b (gone n) → no_host events ≡ true → n + sends_in events ≡ length bytes → RunPromise b events answers
      → take n bytes ++ words_given answers ≡ bytes
  unfolding all_hosts RunPromise
  rest_sent [] b n answers g h q k p = absurd (omega (arith, h.1.left))
  rest_sent (e ∷ events) b n [] g h q k p = absurd p
  rest_sent (Motion dx dy ∷ events) b n (a ∷ answers) g h q k p =
      let s = still b (Motion dx dy) n a g h p.0 (λ x. x) refl in
      rw s.words (rest_sent events a.next n answers s.good_next s.carries q k p.1)
  rest_sent (Buttons m ∷ events) b n (a ∷ answers) g h q k p =
      let s = still b (Buttons m) n a g h p.0 (λ x. x) refl in
      rw s.words (rest_sent events a.next n answers s.good_next s.carries q k p.1)
  rest_sent (Host byte ∷ events) b n (a ∷ answers) g h q k p = absurd (holds q)
  rest_sent (Latch ∷ events) b n (a ∷ answers) g h q k p =
      let s = still b Latch n a g h p.0 (λ x. x) refl in
      rw s.words (rest_sent events a.next n answers s.good_next s.carries q k p.1)
  rest_sent (Period ∷ events) b n (a ∷ answers) g h q k p =
      let s = still b Period n a g h p.0 (λ x. x) refl in
      rw s.words (rest_sent events a.next n answers s.good_next s.carries q k p.1)
  rest_sent (Send ∷ events) b n (a ∷ answers) g h q k p = go (eqb (n + 1) (length bytes)) refl (λ good_next carries k. rest_sent events a.next (n + 1) answers good_next carries q k p.1)
    where
      sends : history.Sends (step_of b Send) (gone n) (sent_one message_bytes (gone n))
      sends = rw (told_is b Send (gone n) false refl h.1.awake) at (step_sends b Send (gone n) g h)

      next : a.next ≡ next_box b Send
      next = ap (λ (x : Stepped). x.next) p.0

      words : sent_words a ≡ (step_of b Send).words
      words = ap (λ (x : box.Step). x.words) (says b Send a p.0)

      go : (t : Bool) → eqb (n + 1) (length bytes) ≡ t
          → (good a.next ≡ true → Carries a.next (gone (n + 1)) → n + 1 + sends_in events ≡ length bytes → take (n + 1) bytes ++ words_given answers ≡ bytes)
          → take n bytes ++ (sent_words a ++ words_given answers) ≡ bytes
      go true e later =
          let last = eqb-true (n + 1) (length bytes) e in
          rw (none_sent events a.next answers q (omega arith) p.1, append-nil (sent_words a), words) (rw (e, append-nil, append-nil) at sends.words)
      go false e later =
          let s = rw e at sends in
          rw (← append_assoc (take n bytes) (sent_words a) (words_given answers), words, s.words)
          (later (rw next (stepped_good b Send g)) (rw next s.carries) (omega arith))

-- a reply tells what is set, whatever was broken off
same_reply : (b c : BallBox) (byte : ℕ) → Asks byte → c.settings ≡ b.settings → commands.reply_to c (command_of byte) ≡ commands.reply_to b (command_of byte)
unfolding command_of known named_by
same_reply b c byte (a_space e) s = rw e
same_reply b c byte (an_f e) s = rw (e, s)
same_reply b c byte (a_t e) s = rw (e, s)
same_reply b c byte (a_05 e) s = rw (e, s)

reply_size : (b : BallBox) (byte : ℕ) → Asks byte → size_of (reply_to byte) ≡ length (commands.reply_to b (command_of byte))
unfolding command_of known named_by reply_to
reply_size b byte (a_space e) = rw e
reply_size b byte (an_f e) = rw e
reply_size b byte (a_t e) = rw e
reply_size b byte (a_05 e) = rw e

unsent : (bytes : List ℕ) → IsReply bytes → unsent_reply bytes ≡ first 0 (reply bytes)
unsent [] r = absurd r.whole
unsent (b ∷ bytes) r = refl

-- the reply to a command, over the public step
pub reply_sent : (b : BallBox) (byte : ℕ) (a : Stepped) (events : List Event) (answers : List Stepped) → good b ≡ true → dormant b ≡ false → Asks byte → StepPromise b (Host byte) a
    → no_host events ≡ true
    → sends_in events ≡ size_of (reply_to byte)
    → RunPromise a.next events answers
    → words_given answers ≡ commands.reply_to b (command_of byte)
unfolding on_host
reply_sent b byte a events answers g d asks p q k run =
    let next : a.next ≡ (step_of b (Host byte)).next = ap (λ (x : Stepped). x.next) p in
    let after : a.next ≡ obeyed (command_of byte) (dropped b) = ap (λ (x : box.Step). x.next) (heard b byte a p g d) in
    let idle = (host_idle (dropped b) byte (dropped_awake b ∙ d) (none_left b)).carries in
    let same = same_reply b (dropped b) byte asks (dropped_settings b) in
    let carries : Carries a.next (first 0 (reply (commands.reply_to b (command_of byte)))) =
    rw after (rw (dropped_idle (dropped b) (none_left b), same, unsent (commands.reply_to b (command_of byte)) (asks_reply b byte g asks)) at idle) in
    rest_sent (commands.reply_to b (command_of byte)) events a.next 0 answers (rw next (stepped_good b (Host byte) g)) carries q (omega (arith, reply_size b byte asks)) run

-- and the ACK of a box that was dormant
pub ack_sent : (b : BallBox) (byte : ℕ) (a : Stepped) (events : List Event) (answers : List Stepped) → good b ≡ true → dormant b ≡ true → StepPromise b (Host byte) a
    → no_host events ≡ true
    → sends_in events ≡ 1
    → RunPromise a.next events answers
    → words_given answers ≡ ack
unfolding asleep woken going_from
ack_sent b byte a events answers g d p q k run =
    let next : a.next ≡ (step_of b (Host byte)).next = ap (λ (x : Stepped). x.next) p in
    let after : a.next ≡ woken b = ap (λ (x : box.Step). x.next) (asleep_step b (Host byte) a p g refl d) in
    let carries : Carries a.next (first 0 (reply ack)) = rw after (refl, record { left = lit< tt; sendable = lit≤ tt; awake = refl }) in
    rest_sent ack events a.next 0 answers (rw next (stepped_good b (Host byte) g)) carries q (omega arith) run
