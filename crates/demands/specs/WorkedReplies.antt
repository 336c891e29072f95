-- Worked runs with replies: the widened demand 3 at small runs of the box, with the items, the passages and the replies
-- computed. Lines on which a reply is broken, told again or loses a byte stand in crates/tellings/proofs/Examples.antt.
use Rattle.std.specs.Prelude.{◌≡◌, refl, true, false, List, [], ◌∷◌, ◌++◌, pos}
use Rattle.std.proofs.Common.{◌∙◌, ap, arith}
use Rattle.numbers.specs.Signed.{minus}
use Rattle.frames.specs.Passages.{Passage, silent, finished, broken, nothing, none, gone}
use Rattle.wire.specs.Line.{letter_of}
use Rattle.wire.specs.Reading.{report}
use Rattle.wire.specs.Messages.{Message, reply, latched_in, showing_in}
use Rattle.wire.specs.declared.Report.{Report}
use Rattle.wire.specs.declared.Format.{Format}
use Rattle.wire.specs.declared.Format.TheVariants.{Mm, FiveByte, ThreeByte}
use Rattle.reader.specs.Counts.{handed_out}
use Rattle.ballbox.specs.Box.{fresh_box}
use Rattle.ballbox.specs.Commands.{space, letterf, lettert}
use Rattle.ballbox.specs.Promises.{sent_words}
use Rattle.ballbox.specs.declared.BallBox.{BallBox}
use Rattle.ballbox.specs.declared.Event.{Event}
use Rattle.ballbox.specs.declared.Event.TheVariants.{Motion, Buttons, Host, Latch, Send}
use Rattle.history.specs.Runs.{words_given, answer_to, answers_to}
use Rattle.history.specs.Presses.{box_after}
use Rattle.history.proofs.Permitted.{answer_permitted, answers_permitted}
use Rattle.tellings.specs.Items.{Item, word, telling, as_items, Done, ItemsPromise, own_answers_of, replies_of}
use Rattle.tellings.specs.Lines.{HandsOut, HandsOutAt, TellsReplies, ReadsReply, in_finished_lem}
use Rattle.tellings.specs.Runs.{only_asks_or_tells, items_given}
use Rattle.replies.specs.Replying.{came}
use Rattle.replies.specs.Good.{good}
use Rattle.replies.specs.Promises.{NewToldReader, FreshPromise, fresh_of}
use Rattle.replies.specs.declared.Asked.TheVariants.{Command}
use Rattle.replies.specs.declared.Reply.{Reply}
use Rattle.replies.specs.declared.Reply.TheVariants as told
use Rattle.replies.specs.declared.ToldReader.{ToldReader}
use Rattle.tellings.proofs.Apart.{done_of, done_are}
use Rattle.tellings.proofs.Computing as replies
use Rattle.demands.specs.Computing.{computing}
use Rattle.demands.specs.Demand3.{sent, still_going, from_then_on}
use Rattle.demands.specs.Worked.{slots, set_to, slow_move, press, fast}
use Rattle.demands.specs.Replies.{Run, sent_reply_read, replies_as_sent, exactly, unmarked}

-- over events with commands that have a reply a fresh box set to f sends these items, which are these passages, and nothing is going at the end
pub record SendsItems (f : Format) (events : List Event) (items : List Item) (passages : List (Passage Message)) : Type 0 where
  pub asked : only_asks_or_tells events ≡ true
  pub line : items_given events (answers_to (set_to f).next events) ≡ items
  pub is : sent (set_to f) events ≡ passages
  pub ends : still_going (set_to f) events ≡ nothing

pub run_of : {f : Format} {events : List Event} {items : List Item} {passages : List (Passage Message)}
    → SendsItems f events items passages
    → Run f fresh_box (set_to f) events (answers_to (set_to f).next events)
unfolding computing
run_of {f} {events} sends =
    record {
      good = refl;
      awake = refl;
      set = answer_permitted fresh_box (Host (letter_of f));
      asked = sends.asked;
      permitted = answers_permitted (set_to f).next events;
    }

-- U: `t` in the middle of a stream. A fast move, a character's time with nothing to send, `t` and its reply, and a press of the left button.
abbrev events_u : List Event
events_u = Motion (minus 123) (pos 0) ∷ slots 3 (Motion (minus 123) (pos 0) ∷ slots 3 (Host lettert ∷ slots 2 (Buttons 4 ∷ slots 5 [])))

abbrev letters_u : Message
letters_u = reply (0x55 ∷ 0x4F ∷ [])

pub in_u : SendsItems FiveByte events_u
    (as_items (0x87 ∷ 0x85 ∷ 0x00 ∷ 0x85 ∷ 0x00 ∷ 257 ∷ []) ++ (telling (Command lettert) ∷ as_items (0x55 ∷ 0x4F ∷ 0x83 ∷ 0x00 ∷ 0x00 ∷ 0x00 ∷ 0x00 ∷ [])))
    (finished (latched_in FiveByte fast) ∷ silent ∷ finished letters_u ∷ finished (showing_in FiveByte press) ∷ [])
unfolding computing replies.computing
in_u = record { asked = refl; line = refl; is = refl; ends = refl }

-- The first word is lost, so that the reader joins the report halfway; behind the silence it is told of `t`. The press
-- is the answer to word 11, and the reply is told.
abbrev behind_u : List Item
behind_u = as_items (0x85 ∷ 0x00 ∷ 0x85 ∷ 0x00 ∷ 257 ∷ []) ++ (telling (Command lettert) ∷ as_items (0x55 ∷ 0x4F ∷ 0x83 ∷ 0x00 ∷ 0x00 ∷ 0x00 ∷ 0x00 ∷ []))

pub unmarked_u : HandsOutAt FiveByte behind_u 11 press
unfolding computing replies.computing
unmarked_u =
    unmarked (run_of in_u) from_then_on [] (0x87 ∷ []) [] behind_u in_u.line refl refl
    (finished (latched_in FiveByte fast) ∷ silent ∷ finished letters_u ∷ []) (record { format = FiveByte; report = press; shows = true }) [] in_u.is 11 refl
    (finished letters_u ∷ []) (finished (latched_in FiveByte fast) ∷ []) refl tt (omega arith)

pub letters_u_lem : TellsReplies FiveByte behind_u (told.Letters 0x55 0x4F ∷ [])
unfolding computing replies.computing
letters_u_lem = replies_as_sent (run_of in_u) from_then_on [] (0x87 ∷ []) [] behind_u in_u.line refl refl

-- S: a movement, `f` and its reply, and a press. The movement's report loses its second byte: the press is handed out, and the format is told.
abbrev events_s : List Event
events_s = Motion (pos 5) (minus 3) ∷ slots 3 (Host letterf ∷ slots 1 (Buttons 4 ∷ slots 3 []))

abbrev code_s : Message
code_s = reply (0x1A ∷ [])

abbrev behind_s : List Item
behind_s = as_items (0x03 ∷ []) ++ (telling (Command letterf) ∷ as_items (0x1A ∷ 0x9C ∷ 0x00 ∷ 0x00 ∷ []))

pub in_s : SendsItems Mm events_s
    (as_items (0x90 ∷ 0x05 ∷ []) ++ behind_s)
    (finished (latched_in Mm slow_move) ∷ finished code_s ∷ finished (showing_in Mm press) ∷ [])
unfolding computing replies.computing
in_s = record { asked = refl; line = refl; is = refl; ends = refl }

pub exactly_s : HandsOut Mm (as_items (0x90 ∷ []) ++ behind_s) (press ∷ [])
unfolding computing replies.computing
exactly_s =
    exactly (run_of in_s) from_then_on (as_items (0x90 ∷ [])) (0x05 ∷ []) [] behind_s in_s.line refl refl refl
    (in_finished_lem [] (finished code_s ∷ finished (showing_in Mm press) ∷ []) nothing (record { format = Mm; report = slow_move; shows = false })
    (omega arith) (omega arith))
    (gone none) (omega arith)

pub code_s_lem : TellsReplies Mm (as_items (0x90 ∷ []) ++ behind_s) (told.Format 0x53 ∷ [])
unfolding computing replies.computing
code_s_lem = replies_as_sent (run_of in_s) from_then_on (as_items (0x90 ∷ [])) (0x05 ∷ []) [] behind_s in_s.line refl refl

-- `t` in the middle of a report of U: the command's own 256 breaks it off, and the two Sends behind it, a Latch between them, send the letters.
abbrev busy : BallBox
busy = box_after (set_to FiveByte).next (Motion (pos 5) (pos 0) ∷ slots 1 [])

abbrev two_sends : List Event
two_sends = Send ∷ Latch ∷ Send ∷ []

pub broken_by_t : (sent_words (answer_to busy (Host lettert)) ≡ 256 ∷ [])
    × (words_given (answers_to (answer_to busy (Host lettert)).next two_sends) ≡ 0x55 ∷ 0x4F ∷ [])
unfolding computing
broken_by_t = (refl, refl)

-- whatever reader is told of it behind the 256 reads them
pub letters_read : (s : ToldReader) (done : List Done)
    → good s ≡ true
    → ItemsPromise s (telling (Command lettert) ∷ as_items (0x55 ∷ 0x4F ∷ [])) done
    → ReadsReply s (0x55 ∷ 0x4F ∷ []) (told.Letters 0x55 0x4F) done
unfolding computing replies.computing
letters_read s done g items =
    let a = answer_to busy (Host lettert) in
    sent_reply_read busy lettert a two_sends (answers_to a.next two_sends) s done refl refl refl
    (answer_permitted busy (Host lettert)) refl refl (answers_permitted a.next two_sends) g items

-- a fresh reader of f, given the items, tells these replies and hands out these reports
abbrev pub Hears : Format → List Item → List Reply → List Report → Type 0
Hears f items replies found =
    (a : NewToldReader) (done : List Done)
    → FreshPromise (letter_of f) a
    → ItemsPromise a.reader items done
    → (replies_of done ≡ replies) × (handed_out (own_answers_of done) ≡ found)

pub hears : (f : Format) (items : List Item) {replies : List Reply} {found : List Report}
    → (let done = done_of (fresh_of (letter_of f)).reader items in (replies_of done ≡ replies) × (handed_out (own_answers_of done) ≡ found))
    → Hears f items replies found
hears f items h a done e p =
    let d = done_are a.reader items done p ∙ ap (λ (n : NewToldReader). done_of n.reader items) e in
    (ap replies_of d ∙ h.0, ap (λ (l : List Done). handed_out (own_answers_of l)) d ∙ h.1)

-- U, a broken reply: of `t`'s reply one byte has gone when `f` breaks it off. The 256 goes to the report reader too,
-- which then awaits a silence: the next report is not read, and the one behind the silence is.
abbrev events_broken : List Event
events_broken = Send ∷ Host lettert ∷ Send ∷ Host letterf ∷ Send ∷ Motion (pos 5) (pos 0) ∷ slots 6 (Motion (pos 7) (pos 0) ∷ slots 5 [])

abbrev items_broken : List Item
items_broken =
    word 257 ∷ telling (Command lettert) ∷ word 0x55 ∷ word 256 ∷ telling (Command letterf)
    ∷ as_items (0x10 ∷ 0x87 ∷ 0x05 ∷ 0x00 ∷ 0x00 ∷ 0x00 ∷ 257 ∷ 0x87 ∷ 0x07 ∷ 0x00 ∷ 0x00 ∷ 0x00 ∷ [])

pub in_broken_lem : SendsItems FiveByte events_broken items_broken
    (silent ∷ broken 1 letters_u ∷ finished (reply (0x10 ∷ [])) ∷ finished (latched_in FiveByte (report 0 (pos 5) (pos 0))) ∷ silent ∷
    finished (latched_in FiveByte (report 0 (pos 7) (pos 0))) ∷ [])
unfolding computing replies.computing
in_broken_lem = record { asked = refl; line = refl; is = refl; ends = refl }

pub broken_unread : Hears FiveByte items_broken (told.Broken (came 1 0x55 0) ∷ told.Format 0x55 ∷ []) (report 0 (pos 7) (pos 0) ∷ [])
unfolding computing replies.computing
broken_unread = hears FiveByte items_broken (refl, refl)

-- T, a space and its ACK, and a movement. A reader that was told of the space reads both. One that was not takes the
-- ACK, 06, for a first byte with L and M down, and hands out a press that nobody made.
abbrev events_t : List Event
events_t = Send ∷ Host space ∷ Send ∷ Motion (pos 5) (pos 3) ∷ slots 3 []

pub in_t : SendsItems ThreeByte events_t
    (word 257 ∷ telling (Command space) ∷ as_items (0x06 ∷ 0x00 ∷ 0x05 ∷ 0x03 ∷ []))
    (silent ∷ finished (reply (0x06 ∷ [])) ∷ finished (latched_in ThreeByte (report 0 (pos 5) (pos 3))) ∷ [])
unfolding computing replies.computing
in_t = record { asked = refl; line = refl; is = refl; ends = refl }

pub told_t : Hears ThreeByte (word 257 ∷ telling (Command space) ∷ as_items (0x06 ∷ 0x00 ∷ 0x05 ∷ 0x03 ∷ [])) (told.Ack ∷ []) (report 0 (pos 5) (pos 3) ∷ [])
unfolding computing replies.computing
told_t = hears ThreeByte _ (refl, refl)

pub untold_t : Hears ThreeByte (as_items (257 ∷ 0x06 ∷ 0x00 ∷ 0x05 ∷ 0x03 ∷ [])) [] (report 6 (pos 0) (pos 5) ∷ [])
unfolding computing replies.computing
untold_t = hears ThreeByte _ (refl, refl)
