-- Demand 3: "Let an awake box be set to one format and then asked only for reports, over every sequence of events, its words from then on going
-- to a fresh reader with room for all it finds. Replace one stretch of its line words by any other legal words, or none."
use Rattle.std.specs.Prelude.{ℕ, ◌<◌, ◌≡◌, Bool, true, false, cond, List, [], ◌∷◌, ◌++◌, length}
use Rattle.std.proofs.Common.{sym, ◌∙◌}
use Rattle.frames.specs.Passages.{Passage, silent, finished, UnderWay, nothing, Unbroken, passage_words, part_words, Lost, InOne, Sub}
use Rattle.frames.proofs.Replaced.{in_one}
use Rattle.frames.specs.Words.{break, line_words}
use Rattle.wire.specs.Line.{letter_of, marked_of}
use Rattle.wire.specs.Holds.{carried}
use Rattle.wire.specs.Messages.{Latched, Message, report, message_bytes, finished_reports}
use Rattle.wire.specs.declared.Format.{Format}
use Rattle.reader.specs.DamagedLines.{Given, no_word, a_break, Within, EndsAt, HandsOut, HandsOutAt, Replaced}
use Rattle.reader.proofs.Damaged as damaged
use Rattle.ballbox.specs.Box.{dormant}
use Rattle.ballbox.specs.Good.{good}
use Rattle.ballbox.specs.Events.{bytes_left}
use Rattle.ballbox.specs.Promises.{sent_words, StepPromise}
use Rattle.ballbox.specs.declared.BallBox.{BallBox}
use Rattle.ballbox.specs.declared.Stepped.{Stepped}
use Rattle.ballbox.specs.declared.Event.{Event}
use Rattle.ballbox.specs.declared.Event.TheVariants.{Host}
use Rattle.history.specs.Runs.{RunPromise, words_given}
use Rattle.history.specs.History.{passages_of, going_after}
use Rattle.history.specs.Asked.{only_asks}
use Rattle.history.specs.Carried.{SetTo}
use Rattle.history.proofs.Bridge.{run_passages}
use Rattle.history.proofs.Asking.{asked_sound}
use Rattle.history.proofs.Setting.{set_to, set_words}

-- "an awake box", any good one, is "set to one format", f, by its letter, and "then asked only for reports, over every sequence of events": a is the
-- answer to the letter, and `answers` are those to the events, any that the promise of the public step permits
pub record Run (f : Format) (b : BallBox) (a : Stepped) (events : List Event) (answers : List Stepped) : Type 0 where
  pub good : good b ≡ true
  pub awake : dormant b ≡ false
  pub set : StepPromise b (Host (letter_of f)) a
  pub asked : only_asks events ≡ true
  pub permitted : RunPromise a.next events answers

-- what it sent, as the box's own history tells it: passages, and what is going at the end
abbrev pub sent : Stepped → List Event → List (Passage Message)
sent a events = passages_of a.next nothing events

abbrev pub still_going : Stepped → List Event → UnderWay Message
still_going a events = going_after a.next nothing events

-- "its words from then on": those of the events; or, in front of them, the word too that the letter itself gave, 256 or none
pub data Front (a : Stepped) : List ℕ → Type 0 where
  from_then_on : Front a []
  from_the_letter_on : Front a (sent_words a)

given_by : (t : Bool) → Given (cond t (break ∷ []) [])
given_by true = a_break
given_by false = no_word

module _ {f : Format} {b : BallBox} {a : Stepped} {events : List Event} {answers : List Stepped} (run : Run f b a events answers) where
  pub set_box : SetTo f a.next nothing
  set_box = set_to f b a run.good run.awake run.set

  pub front_given : {front : List ℕ} → Front a front → Given front
  front_given from_then_on = no_word
  front_given from_the_letter_on = rw (set_words f b a run.good run.awake run.set) (given_by (bytes_left b))

  -- the words that the run gave are those of its passages
  pub as_sent_lem : words_given answers ≡ passage_words message_bytes (sent a events) ++ part_words message_bytes (still_going a events)
  as_sent_lem = run_passages a.next events answers set_box.good set_box.carries run.permitted

  -- "Replace one stretch of its line words", `old`, "by any other legal words, or none", `new`
  module _ {front : List ℕ} (in_front : Front a front)
      (pre old new post : List ℕ)
      (line : words_given answers ≡ pre ++ (old ++ post))
      (legal : line_words new ≡ true)
      -- a finished report r, and the place i of the word that ends it
      (before : List (Passage Message)) (r : Latched) (after : List (Passage Message))
      (is : sent a events ≡ before ++ (finished (report r) ∷ after))
      (i : ℕ)
      (place : EndsAt f before front old new i) where
    replaced : Replaced f (sent a events) (still_going a events) front pre old new post
    replaced =
        let s = asked_sound f a.next nothing events run.asked set_box in
        record { sound = s.0; sound_going = s.1; in_front = front_given in_front; as_sent_lem = sym as_sent_lem ∙ line; legal = legal }

    -- "In the four formats with a marked first byte, each finished report that begins after the stretch is handed out as the box sent it."
    pub marked : marked_of f ≡ true
        → Within before pre old
        → HandsOutAt f (front ++ (pre ++ (new ++ post))) i (carried f r.report)
    marked = damaged.marked f (sent a events) (still_going a events) front pre old new post replaced before r after is i place

    -- "In the other three this holds for each finished report that begins after a silence following the stretch, with no broken-off report between."
    pub unmarked : (quietly ahead : List (Passage Message))
        → before ≡ ahead ++ (silent ∷ quietly)
        → Unbroken quietly
        → Within ahead pre old
        → HandsOutAt f (front ++ (pre ++ (new ++ post))) i (carried f r.report)
    unmarked quietly ahead = damaged.unmarked f (sent a events) (still_going a events) front pre old new post replaced before r after is i place ahead quietly

  -- Wherever one report lost bytes, by the words that are left; of a broken-off one, or of the one that is going, none need be missing.
  pub exactly_lost : {front words : List ℕ} {others : List (Passage Message)}
      → Front a front
      → marked_of f ≡ true
      → Lost message_bytes (sent a events) (still_going a events) words others
      → HandsOut f (front ++ words) (finished_reports f others)
  exactly_lost in_front m lost =
      let s = asked_sound f a.next nothing events run.asked set_box in
      damaged.exactly f m s.0 s.1 (front_given in_front) lost

  -- "If the stretch only removed bytes of a single report of a marked format, exactly the finished reports other than that one are handed out, in
  -- the order sent."
  -- The stretch `old` lies within the bytes of one report, and `new` is what is left of it, one byte or more being gone; `others` are the other
  -- passages.
  pub exactly : {front pre old : List ℕ} {others : List (Passage Message)} (new post : List ℕ)
      → Front a front
      → marked_of f ≡ true
      → words_given answers ≡ pre ++ (old ++ post)
      → InOne message_bytes pre old (sent a events) (still_going a events) others
      → Sub new old
      → length new < length old
      → HandsOut f (front ++ (pre ++ (new ++ post))) (finished_reports f others)
  exactly new post in_front m line one d less = exactly_lost in_front m (in_one message_bytes post new (sym as_sent_lem ∙ line) one d less)
