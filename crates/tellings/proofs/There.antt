-- A reply of the box, read by a reader that was told, comes back as the format, mode or buttons that the box had at the command.
use Prim.Native.Nat.{ℕ}
use mathlib.Core.Path.{◌≡◌, refl, ◌∙◌, ap}
use mathlib.Core.Bool.{true, false, not}
use mathlib.Core.List.{List, [], ◌∷◌}
use native.Mathlib.Omega.{arith}
use lib.ListN.{length, replicate}
use lib.Seq.{take_all}
use Rattle.numbers.proofs.Choices.{both}
use Rattle.ballbox.specs.Box.{dormant}
use Rattle.ballbox.specs.Commands.{ack, command_of}
use Rattle.ballbox.specs.Commands as box
use Rattle.ballbox.specs.Good.{good}
use Rattle.ballbox.specs.Promises.{StepPromise}
use Rattle.ballbox.specs.declared.BallBox.{BallBox}
use Rattle.ballbox.specs.declared.Event.{Event}
use Rattle.ballbox.specs.declared.Event.TheVariants.{Host}
use Rattle.ballbox.specs.declared.Stepped.{Stepped}
use Rattle.history.specs.Runs.{RunPromise, words_given}
use Rattle.history.specs.Presses.{no_host}
use Rattle.reader.specs.Runs.{steps_of}
use Rattle.reader.specs.declared.Reader.{Reader}
use Rattle.reader.specs.declared.Answer.{Answer}
use Rattle.reader.specs.declared.Answer.TheVariants as answer
use Rattle.replies.specs.Good as told
use Rattle.replies.specs.Replying.{none, awaiting, is_none, size_of, fits, more}
use Rattle.replies.specs.Rules.{reply_to, kind_of}
use Rattle.replies.specs.Line.{told_in}
use Rattle.tellings.specs.Items.{telling, as_items, legal_items, Done, after_done, ItemsPromise, own_answers_of, replies_of}
use Rattle.tellings.specs.Lines.{ReadsReply}
use Rattle.tellings.specs.Runs.{has_reply, answer_of, sends_in}
use Rattle.replies.specs.declared.Asked.{Asked}
use Rattle.replies.specs.declared.Asked.TheVariants.{Command, Waking}
use Rattle.replies.specs.declared.Awaited.{Awaited}
use Rattle.replies.specs.declared.Reply.{Reply}
use Rattle.replies.specs.declared.Reply.TheVariants as reply
use Rattle.replies.specs.declared.ToldReader.{ToldReader}
use Rattle.tellings.proofs.Apart.{done_are, given, own_over, replies_over, decomposed, reader_behind_lem}
use Rattle.tellings.proofs.Passed.{WholeFrom, value_from, over_whole}
use Rattle.tellings.proofs.Damaged.{legal_words, legal_reply}
use Rattle.tellings.proofs.Answering.{asks_by, asks_reply, asks_for, asks_told}
use Rattle.tellings.proofs.Sent.{reply_sent, ack_sent}

-- the bytes of a reply are answered by nothing
own_reply : (bytes : List ℕ) (a : Awaited) (r : Reader) → WholeFrom a bytes → own_over a r (as_items bytes) ≡ replicate (length bytes) answer.Nothing
unfolding own_over
own_reply [] a r h = absurd h
own_reply (b ∷ []) a r h = rw h.0
own_reply (b ∷ c ∷ bytes) a r h = rw (h.0, h.1) (ap (λ (l : List Answer). answer.Nothing ∷ l) (own_reply (c ∷ bytes) (more a b) r h.2))

-- a whole reply to what was told
whole_read : (s : ToldReader) (asked : Asked) (bytes : List ℕ) (value : Reply) (done : List Done) → told.good s ≡ true → is_none (kind_of asked) ≡ false
    → WholeFrom (awaiting (kind_of asked) none) bytes
    → told_in (value_from (awaiting (kind_of asked) none) bytes) ≡ value ∷ []
    → ItemsPromise s (telling asked ∷ as_items bytes) done
    → ReadsReply s bytes value done
unfolding replies_over own_over given legal_items steps_of
whole_read s asked bytes value done g n w v p =
    let a = awaiting (kind_of asked) none in
    let legal : legal_items (as_items bytes) ≡ true = rw (legal_words bytes) (rw (take_all (length bytes) bytes (omega arith)) at (legal_reply (length bytes) bytes a w)) in
    let all : legal_items (telling asked ∷ as_items bytes) ≡ true = both (not (is_none (kind_of asked))) (legal_items (as_items bytes)) (rw n) legal in
    let is = done_are s (telling asked ∷ as_items bytes) done p in
    let d = decomposed (telling asked ∷ as_items bytes) s.awaited s.reader g all in
    let o = over_whole bytes a w in
    record {
      told = ap replies_of is ∙ d.replies ∙ o.tells ∙ rw v;
      silent = ap own_answers_of is ∙ d.own ∙ own_reply bytes a s.reader w;
      after = ap (after_done s) is ∙ d.state ∙ rw (o.awaits, reader_behind_lem (as_items bytes) a s.reader, o.gives);
    }

-- a reply of a good box to a command, and the ACK of one that was woken
pub there : (b : BallBox) (byte : ℕ) (s : ToldReader) (done : List Done) → good b ≡ true → has_reply byte ≡ true → told.good s ≡ true
    → ItemsPromise s (telling (Command byte) ∷ as_items (box.reply_to b (command_of byte))) done
    → ReadsReply s (box.reply_to b (command_of byte)) (answer_of b byte) done
there b byte s done g h k p =
    let asks = asks_by byte h in
    let r = asks_reply b byte g asks in
    let for = asks_for b byte g asks in
    whole_read s (Command byte) (box.reply_to b (command_of byte)) (answer_of b byte) done k (rw for at r.some) (rw for at r.whole) (rw (for, asks_told b byte g asks) at r.value) p

pub woken : (s : ToldReader) (done : List Done) → told.good s ≡ true → ItemsPromise s (telling Waking ∷ as_items ack) done → ReadsReply s ack reply.Ack done
unfolding fits
woken s done k p = whole_read s Waking ack reply.Ack done k refl (refl, refl) refl p

-- the same of the words that a box sends
pub there_sent : (b : BallBox) (byte : ℕ) (a : Stepped) (events : List Event) (answers : List Stepped) (s : ToldReader) (done : List Done) → good b ≡ true → dormant b ≡ false → has_reply byte ≡ true → StepPromise b (Host byte) a
    → no_host events ≡ true
    → sends_in events ≡ size_of (reply_to byte)
    → RunPromise a.next events answers
    → told.good s ≡ true
    → ItemsPromise s (telling (Command byte) ∷ as_items (words_given answers)) done
    → ReadsReply s (words_given answers) (answer_of b byte) done
there_sent b byte a events answers s done g d h p q k run t items =
    let is = reply_sent b byte a events answers g d (asks_by byte h) p q k run in
    rw is (there b byte s done g h t (rw is at items))

pub woken_sent : (b : BallBox) (byte : ℕ) (a : Stepped) (events : List Event) (answers : List Stepped) (s : ToldReader) (done : List Done) → good b ≡ true → dormant b ≡ true → StepPromise b (Host byte) a
    → no_host events ≡ true
    → sends_in events ≡ 1
    → RunPromise a.next events answers
    → told.good s ≡ true
    → ItemsPromise s (telling Waking ∷ as_items (words_given answers)) done
    → ReadsReply s (words_given answers) reply.Ack done
woken_sent b byte a events answers s done g d p q k run t items =
    let is = ack_sent b byte a events answers g d p q k run in
    rw is (woken s done t (rw is at items))
