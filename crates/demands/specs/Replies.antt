-- Answers read by name. "The host half still guesses at replies. Add a reader for them. It is told the command just
-- sent [..] and reads exactly that reply, then hands over to the report reader."
use Rattle.std.specs.Prelude.{ℕ, ◌+◌, ◌*◌, ◌<◌, ◌≤◌, ◌≡◌, refl, true, false, cond, List, [], ◌∷◌, ◌++◌, map, length, take, drop, ℤ, None, Some}
use Rattle.std.proofs.Common.{◌∙◌, sym}
use Rattle.frames.specs.Passages.{Passage, silent, finished, nothing, Unbroken, Sub}
use Rattle.frames.specs.Words.{silence, line_words}
use Rattle.wire.specs.Line.{letter_of, marked_of, size_by}
use Rattle.wire.specs.Digits.{among}
use Rattle.wire.specs.Numbers.{success, bad_state, bad_word, RefusesRightly}
use Rattle.wire.specs.Holds.{carried}
use Rattle.wire.specs.Messages.{Latched, Message, report, finished_reports}
use Rattle.wire.specs.declared.Format.{Format}
use Rattle.reader.specs.Counts.{byte_in, bytes_in, reports_in, dropped_in}
use Rattle.reader.specs.DamagedLines.{Within, EndsAt}
use Rattle.ballbox.specs.Box.{dormant}
use Rattle.ballbox.specs.Good as boxes
use Rattle.ballbox.specs.Commands.{letterf, lettert, ack, command_of}
use Rattle.ballbox.specs.Commands as box
use Rattle.ballbox.specs.Promises as box_promises
use Rattle.ballbox.specs.declared.BallBox.{BallBox}
use Rattle.ballbox.specs.declared.Stepped.{Stepped}
use Rattle.ballbox.specs.declared.Event.{Event}
use Rattle.ballbox.specs.declared.Event.TheVariants.{Host}
use Rattle.history.specs.Runs.{RunPromise, words_given}
use Rattle.history.specs.Asked.{all_hosts}
use Rattle.history.specs.Presses.{no_host}
use Rattle.history.specs.Carried.{SetWith}
use Rattle.history.proofs.Asking.{hosted_sound}
use Rattle.history.proofs.Setting.{set_to}
use Rattle.replies.specs.Replying.{came, none, is_none, size_of, letter_of_code}
use Rattle.replies.specs.Accepted.{seven_bytes, seven_letters, mode_letters}
use Rattle.replies.specs.Good.{good}
use Rattle.replies.specs.Rules.{Heard, kind_of, refusing, heard_in}
use Rattle.fold.specs.Calls.{stopped, unused, as_one, with_refusal, after}
use Rattle.replies.specs.Line.{HeardLine, Long, whole, hears_line, Bounds, heard_line_in}
use Rattle.replies.specs.Counts.{whole_bytes, broken_bytes}
use Rattle.replies.specs.Promises.{Telling, NewToldReader, FreshPromise, GoodPromise, TellPromise, StepPromise, ReadPromise, no_reply, telling_of, before_bad, new_in, telling_in}
use Rattle.tellings.specs.Items.{Item, telling, as_items, words_in, Done, ItemsPromise}
use Rattle.tellings.specs.Clear.{Clear}
use Rattle.tellings.specs.Lines.{line_items, part_items, replies_sent, HandsOutAt, HandsOut, TellsReplies, InReport, ReadsReply}
use Rattle.tellings.specs.Runs.{has_reply, answer_of, only_asks_or_tells, items_given, sends_in}
use Rattle.replies.specs.declared.Asked.{Asked}
use Rattle.replies.specs.declared.Asked.TheVariants.{Command, Waking}
use Rattle.replies.specs.declared.Reply.TheVariants as reply
use Rattle.replies.specs.declared.ToldReader.{ToldReader}
use Rattle.replies.proofs.Permitted as permitted
use Rattle.replies.proofs.Refusals as refusals
use Rattle.replies.proofs.Goodness as goodness
use Rattle.replies.proofs.Counting as counting
use Rattle.replies.proofs.Joining as joining
use Rattle.replies.proofs.Room as room
use Rattle.replies.proofs.Accepted as accepted
use Rattle.tellings.proofs.There as there
use Rattle.tellings.proofs.Passed.{IsReply}
use Rattle.tellings.proofs.Damaged as damaged
use Rattle.tellings.proofs.Answering.{with_replies}
use Rattle.tellings.proofs.Runs.{run_items}
use Rattle.demands.specs.Demand1.{One, OneWith, one_by, one_with_by}
use Rattle.demands.specs.Demand3 as narrow
use Rattle.demands.specs.Demand3.{Front, sent, still_going}

-- Demand 1: one answer of `ToldReader::fresh`, `good`, `tell`, `step` and `read`, and with it every number of the lent slice
pub fresh_one : (letter : ℕ) → One (FreshPromise letter)
fresh_one = permitted.one_fresh

pub good_one : (s : ToldReader) → One (GoodPromise s)
good_one = permitted.one_good

pub tell_one : (s : ToldReader) (asked : Asked) → One (TellPromise s asked)
tell_one = permitted.one_tell

pub step_one : (s : ToldReader) (w : ℕ) → One (StepPromise s w)
step_one = permitted.one_step

pub read_one : (s : ToldReader) (words : List ℕ) (out : List ℤ) → OneWith (ReadPromise s words out)
read_one = permitted.one_read

-- and of what they give
pub fresh_given_one : (letter : ℕ) → One (λ n. FreshPromise letter (new_in n))
fresh_given_one letter = one_by new_in permitted.new_apart (fresh_one letter)

pub tell_given_one : (s : ToldReader) (asked : Asked) → One (λ t. TellPromise s asked (telling_in s t))
tell_given_one s asked = one_by (telling_in s) (permitted.telling_apart s) (tell_one s asked)

pub step_given_one : (s : ToldReader) (w : ℕ) → One (λ h. StepPromise s w (heard_in s h))
step_given_one s w = one_by (heard_in s) (permitted.heard_apart s) (step_one s w)

pub read_given_one : (s : ToldReader) (words : List ℕ) (out : List ℤ) → OneWith (λ a. ReadPromise s words out (heard_line_in a))
read_given_one s words out = one_with_by heard_line_in permitted.heard_line_apart (read_one s words out)

-- "Refusals: 12 for a command that has no reply, tested after 6"; of words 6 and 4
pub tell_refusals : (s : ToldReader) (asked : Asked) (t : Telling)
    → TellPromise s asked t
    → RefusesRightly (λ (t : Telling). t.refusal) (telling_of bad_state s 0 ∷ telling_of no_reply s 0 ∷ []) t
tell_refusals = refusals.tell_refusals

pub tell_bad_state : (s : ToldReader) (asked : Asked) (t : Telling)
    → good s ≡ false
    → TellPromise s asked t
    → t ≡ telling_of bad_state s 0
tell_bad_state = refusals.bad_state_tell

pub tell_no_reply : (s : ToldReader) (asked : Asked) (t : Telling)
    → good s ≡ true
    → is_none (kind_of asked) ≡ true
    → TellPromise s asked t
    → t ≡ telling_of no_reply s 0
tell_no_reply = refusals.no_reply_tell

pub step_refusals : (s : ToldReader) (w : ℕ) (h : Heard)
    → StepPromise s w h
    → RefusesRightly (λ (h : Heard). h.refusal) (refusing bad_state s ∷ refusing bad_word s ∷ []) h
step_refusals = refusals.step_refusals

pub step_bad_state : (s : ToldReader) (w : ℕ) (h : Heard)
    → good s ≡ false
    → StepPromise s w h
    → h ≡ refusing bad_state s
step_bad_state = refusals.bad_state_lem

pub step_bad_word : (s : ToldReader) (w : ℕ) (h : Heard)
    → good s ≡ true
    → silence < w
    → StepPromise s w h
    → h ≡ refusing bad_word s
step_bad_word = refusals.bad_word_lem

pub read_refusals : (s : ToldReader) (words : List ℕ) (out : List ℤ) (a : HeardLine) (after : List ℤ)
    → ReadPromise s words out a after
    → RefusesRightly (λ (l : Long). l.refusal) (stopped hears_line bad_state s out ∷ before_bad s words out a ∷ []) (whole a after)
read_refusals = refusals.read_refusals

pub read_bad_state : (s : ToldReader) (words : List ℕ) (out : List ℤ) (a : HeardLine) (after : List ℤ)
    → good s ≡ false
    → ReadPromise s words out a after
    → whole a after ≡ stopped hears_line bad_state s out
read_bad_state = refusals.bad_state_read

pub read_bad_word : (s : ToldReader) (p q : List ℕ) (w : ℕ) (out : List ℤ) (a b : HeardLine) (x y : List ℤ)
    → good s ≡ true
    → silence < w
    → ReadPromise s p out b y
    → b.taken ≡ length p
    → ReadPromise s (p ++ w ∷ q) out a x
    → whole a x ≡ with_refusal bad_word (whole b y)
read_bad_word = refusals.bad_word_read

-- no state that these entries give is ever refused
pub fresh_good : (letter : ℕ) (a : NewToldReader) → FreshPromise letter a → good a.reader ≡ true
fresh_good = goodness.fresh_is_good

pub tell_stays_good : (s : ToldReader) (asked : Asked) (t : Telling)
    → good s ≡ true
    → TellPromise s asked t
    → (good t.next ≡ true) × (t.next.reader.format ≡ s.reader.format)
tell_stays_good = goodness.tell_stays_good

pub step_stays_good : (s : ToldReader) (w : ℕ) (h : Heard)
    → good s ≡ true
    → StepPromise s w h
    → (good h.next ≡ true) × (h.next.reader.format ≡ s.reader.format)
step_stays_good = goodness.step_stays_good

pub read_stays_good : (s : ToldReader) (words : List ℕ) (out : List ℤ) (a : HeardLine) (after : List ℤ)
    → good s ≡ true
    → ReadPromise s words out a after
    → (good a.next ≡ true) × (a.next.reader.format ≡ s.reader.format)
read_stays_good = goodness.read_stays_good

-- Demand 2: a reply of a good box, read by a reader that was told of the command, comes back as the format, mode or
-- buttons that the box had at the command; and the ACK of a box that was woken by any byte.
pub reply_read : (b : BallBox) (byte : ℕ) (s : ToldReader) (done : List Done)
    → boxes.good b ≡ true
    → has_reply byte ≡ true
    → good s ≡ true
    → ItemsPromise s (telling (Command byte) ∷ as_items (box.reply_to b (command_of byte))) done
    → ReadsReply s (box.reply_to b (command_of byte)) (answer_of b byte) done
reply_read = there.there

pub waking_read : (s : ToldReader) (done : List Done)
    → good s ≡ true
    → ItemsPromise s (telling Waking ∷ as_items ack) done
    → ReadsReply s ack reply.Ack done
waking_read = there.woken

-- The same over the public step. The box is awake and whatever is going is broken off, or it is dormant; the events
-- that follow have no byte of the host's and just so many Sends as the reply has bytes. Any permitted answers send the
-- reply: a reader in any good state, so behind the command's own 256 too, that is told and handed their words reads it
-- whole.
pub sent_reply_read : (b : BallBox) (byte : ℕ) (a : Stepped) (events : List Event) (answers : List Stepped) (s : ToldReader) (done : List Done)
    → boxes.good b ≡ true
    → dormant b ≡ false
    → has_reply byte ≡ true
    → box_promises.StepPromise b (Host byte) a
    → no_host events ≡ true
    → sends_in events ≡ size_of (kind_of (Command byte))
    → RunPromise a.next events answers
    → good s ≡ true
    → ItemsPromise s (telling (Command byte) ∷ as_items (words_given answers)) done
    → ReadsReply s (words_given answers) (answer_of b byte) done
sent_reply_read = there.there_sent

pub sent_waking_read : (b : BallBox) (byte : ℕ) (a : Stepped) (events : List Event) (answers : List Stepped) (s : ToldReader) (done : List Done)
    → boxes.good b ≡ true
    → dormant b ≡ true
    → box_promises.StepPromise b (Host byte) a
    → no_host events ≡ true
    → sends_in events ≡ size_of (kind_of Waking)
    → RunPromise a.next events answers
    → good s ≡ true
    → ItemsPromise s (telling Waking ∷ as_items (words_given answers)) done
    → ReadsReply s (words_given answers) reply.Ack done
sent_waking_read = there.woken_sent

-- the account of bytes names those of whole replies, of broken ones, and those that a new telling discards
pub tell_counts : (s : ToldReader) (asked : Asked) (t : Telling)
    → TellPromise s asked t
    → t.refusal ≡ success
    → (s.awaited.came.count ≡ t.discarded) × (t.next.awaited.came.count ≡ 0) × (t.next.reader ≡ s.reader)
tell_counts = counting.tell_counts

pub word_counts : (s : ToldReader) (w : ℕ) (h : Heard)
    → good s ≡ true
    → StepPromise s w h
    → h.refusal ≡ success
    → byte_in w + (s.reader.count + s.awaited.came.count)
    ≡ size_by s.reader.format * reports_in h.answer + dropped_in h.answer + whole_bytes h.reply + broken_bytes h.reply +
    (h.next.reader.count + h.next.awaited.came.count)
word_counts = counting.step_counts

pub line_counts : (s : ToldReader) (words : List ℕ) (out : List ℤ) (a : HeardLine) (after : List ℤ)
    → good s ≡ true
    → ReadPromise s words out a after
    → bytes_in (take a.taken words) + (s.reader.count + s.awaited.came.count)
    ≡ size_by s.reader.format * a.reports + a.dropped + whole_bytes a.reply + broken_bytes a.reply +
    (a.next.reader.count + a.next.awaited.came.count)
line_counts = counting.read_counts

-- "if the words before it were all taken, the results join as one"
pub joins : (s : ToldReader) (p q : List ℕ) (out : List ℤ) (a b c : HeardLine) (x y z : List ℤ)
    → ReadPromise s p out b y
    → b.taken ≡ length p
    → ReadPromise b.next q (unused hears_line (whole b y)) c z
    → ReadPromise s (p ++ q) out a x
    → whole a x ≡ as_one hears_line (whole b y) (whole c z)
joins = joining.joining

-- "It stops, with answer 0, before a word that would finish a report when fewer than five places are left", the reply
-- still pending; any other word is taken, and the rest is read by the reader that came back, with the places that are
-- left
pub stops_for_room : (s : ToldReader) (w : ℕ) (q : List ℕ) (out : List ℤ) (h : Heard) (a : HeardLine) (after : List ℤ)
    → good s ≡ true
    → StepPromise s w h
    → ReadPromise s (w ∷ q) out a after
    → h.refusal ≡ success
    → length out < 5 * reports_in h.answer
    → whole a after ≡ stopped hears_line success s out
stops_for_room = room.stops_for_room

pub goes_on : (s : ToldReader) (w : ℕ) (q : List ℕ) (out : List ℤ) (h : Heard) (a b : HeardLine) (x y : List ℤ)
    → good s ≡ true
    → StepPromise s w h
    → ReadPromise s (w ∷ q) out a x
    → h.refusal ≡ success
    → 5 * reports_in h.answer ≤ length out
    → ReadPromise h.next q (drop (5 * reports_in h.answer) out) b y
    → whole a x ≡ after hears_line (record { reply = h.reply; answer = h.answer }) (whole b y)
goes_on = room.goes_on

-- "a bad word behind a stop for room is not reached": where words are left, what follows them changes nothing
pub not_reached : (s : ToldReader) (p q : List ℕ) (out : List ℤ) (a b : HeardLine) (x y : List ℤ)
    → good s ≡ true
    → ReadPromise s p out b y
    → b.taken < length p
    → ReadPromise s (p ++ q) out a x
    → (a ≡ b) × (x ≡ y)
not_reached = refusals.not_reached

-- no further than the words, the places and the bytes that there are
pub within : (s : ToldReader) (words : List ℕ) (out : List ℤ) (a : HeardLine) (after : List ℤ)
    → ReadPromise s words out a after
    → Bounds s words out a
within = room.within

-- "Only the seven `f` bytes and the `t` pairs of a known format and mode are accepted", and all of them are; any other
-- word breaks the reply
pub code_exactly : (s : ToldReader) (t : Telling) (w : ℕ) (h : Heard)
    → good s ≡ true
    → TellPromise s (Command letterf) t
    → w ≤ silence
    → StepPromise t.next w h
    → h.reply ≡ cond (among seven_bytes w) (Some (reply.Format (letter_of_code w))) (Some (reply.Broken none))
code_exactly = accepted.code_exactly

pub seven_formats : map letter_of_code seven_bytes ≡ seven_letters
seven_formats = accepted.seven_formats

pub letters_exactly : (s : ToldReader) (t : Telling) (f m : ℕ) (h k : Heard)
    → good s ≡ true
    → TellPromise s (Command lettert) t
    → f ≤ silence
    → StepPromise t.next f h
    → m ≤ silence
    → StepPromise h.next m k
    → (h.reply ≡ cond (among seven_letters f) None (Some (reply.Broken none)))
    × (among seven_letters f ≡ true → k.reply ≡ cond (among mode_letters m) (Some (reply.Letters f m)) (Some (reply.Broken (came 1 f 0))))
letters_exactly = accepted.letters_exactly

-- Demand 3: "Demand 3 now also covers runs with `f` and `t` when the reader is told of each and the stretch stays clear
-- of everything from a telling to the reply's last byte or break."
pub record Run (f : Format) (b : BallBox) (a : Stepped) (events : List Event) (answers : List Stepped) : Type 0 where
  pub good : boxes.good b ≡ true
  pub awake : dormant b ≡ false
  pub set : box_promises.StepPromise b (Host (letter_of f)) a
  pub asked : only_asks_or_tells events ≡ true
  pub permitted : RunPromise a.next events answers

module _ {f : Format} {b : BallBox} {a : Stepped} {events : List Event} {answers : List Stepped} (run : Run f b a events answers) where
  pub set_box : SetWith IsReply f a.next nothing
  set_box =
      let s = set_to f b a run.good run.awake run.set in
      record { good = s.good; awake = s.awake; format = s.format; carries = s.carries; sound = tt }

  -- the setting by itself is a run of the narrower theorem
  pub setting : narrow.Run f b a [] []
  unfolding all_hosts RunPromise
  setting = record { good = run.good; awake = run.awake; set = run.set; asked = refl; permitted = tt }

  -- what reaches the host's half: the items of the run's passages
  pub as_told : items_given events answers ≡ line_items (sent a events) ++ part_items (still_going a events)
  as_told = run_items f events a.next nothing answers run.asked set_box run.permitted

  -- "Replace one stretch of its line words", `old`, "by any other legal words, or none", `new`; no reply is awaited where it begins
  module _ {front : List ℕ} (in_front : Front a front)
      (pre : List Item) (old new : List ℕ) (post : List Item)
      (line : items_given events answers ≡ pre ++ (as_items old ++ post))
      (clear : Clear pre)
      (legal : line_words new ≡ true) where
    abbrev heard : List Item
    heard = as_items front ++ (pre ++ (as_items new ++ post))

    replaced : damaged.Replaced f (sent a events) (still_going a events) front pre old new post
    replaced =
        let s = hosted_sound with_replies f a.next nothing events run.asked set_box in
        record { sound = s.0; sound_going = s.1; in_front = narrow.front_given setting in_front; as_sent_lem = sym as_told ∙ line; clear = clear; legal = legal }

    -- each whole reply is answered as sent, and each broken one as broken, in their order
    pub replies_as_sent : TellsReplies f heard (replies_sent (sent a events))
    replies_as_sent = damaged.replies_as_sent f (sent a events) (still_going a events) front pre old new post replaced

    -- "If the stretch only removed bytes of a single report of a marked format, exactly the finished reports other than that one are handed out, in
    -- the order sent."
    pub exactly : {others : List (Passage Message)}
        → marked_of f ≡ true
        → InReport (words_in pre) old (sent a events) (still_going a events) others
        → Sub new old
        → length new < length old
        → HandsOut f heard (finished_reports f others)
    exactly = damaged.exactly f (sent a events) (still_going a events) front pre old new post replaced

    -- a finished report r, and the place i of the word that ends it, counted among the words
    module _ (before : List (Passage Message)) (r : Latched) (after : List (Passage Message))
        (is : sent a events ≡ before ++ (finished (report r) ∷ after))
        (i : ℕ)
        (place : EndsAt f before front old new i) where
      -- "In the four formats with a marked first byte, each finished report that begins after the stretch is handed out as the box sent it."
      pub marked : marked_of f ≡ true
          → Within before (words_in pre) old
          → HandsOutAt f heard i (carried f r.report)
      marked = damaged.marked f (sent a events) (still_going a events) front pre old new post replaced before r after is i place

      -- "In the other three this holds for each finished report that begins after a silence following the stretch, with no broken-off report between."
      -- "a broken reply counts in demand 3 as a broken-off report": it is none of `quietly` either
      pub unmarked : (quietly ahead : List (Passage Message))
          → before ≡ ahead ++ (silent ∷ quietly)
          → Unbroken quietly
          → Within ahead (words_in pre) old
          → HandsOutAt f heard i (carried f r.report)
      unmarked = damaged.unmarked f (sent a events) (still_going a events) front pre old new post replaced before r after is i place
