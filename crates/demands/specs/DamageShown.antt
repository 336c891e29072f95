-- Damage that shows: "Let an awake box be set to one format and then asked only for reports, over every sequence of
-- events" (demand 3's Run), in any of the seven formats. Any number of stretches of its line words, of any words, are
-- lost, each with at least one 256 in its place; besides, any silences are left out and, in a marked format, any come
-- in. Then whatever a reader hands out is a finished report as the box sent it, in the order sent; and a finished
-- report that stays whole is handed out: in a marked format each, in the other three each behind a silence that stays.
use Rattle.std.specs.Prelude.{ℕ, suc, ◌+◌, ◌≡◌, true, List, ◌∷◌, ◌++◌, length}
use Rattle.frames.specs.Words.{silence}
use Rattle.frames.specs.Passages.{Passage, silent, finished, nothing, Unbroken, Sub, passage_words, part_words}
use Rattle.frames.specs.Damage.{Shown}
use Rattle.wire.specs.Line.{letter_of, size_of, marked_of}
use Rattle.wire.specs.Holds.{carried}
use Rattle.wire.specs.Messages.{Latched, Message, report, message_bytes, finished_reports}
use Rattle.wire.specs.Buttons.{Button, is_down, CarriedBy}
use Rattle.wire.specs.declared.Format.{Format}
use Rattle.reader.specs.Counts.{handed_out}
use Rattle.reader.specs.Promises.{FreshPromise}
use Rattle.reader.specs.DamagedLines.{HandsOutAt, TrueBy, AtStart}
use Rattle.reader.specs.Runs as reading
use Rattle.reader.specs.declared.Reader.{Reader}
use Rattle.reader.specs.State.{NewReader, Read}
use Rattle.reader.proofs.Shown as shown
use Rattle.reader.proofs.Spared as spared
use Rattle.ballbox.specs.declared.BallBox.{BallBox}
use Rattle.ballbox.specs.declared.Event.{Event}
use Rattle.ballbox.specs.declared.Stepped.{Stepped}
use Rattle.history.specs.Runs.{words_given}
use Rattle.history.specs.Presses.{made}
use Rattle.history.proofs.Asking.{asked_sound}
use Rattle.demands.specs.Demand3.{Run, sent, still_going, Front, set_box, front_given, as_sent_lem}
use Rattle.demands.specs.Saves.{TellsAtMost, of_demand_3, asked_unanswered, never_a_second_save_where_damage_shows}

module _ {f : Format} {b : BallBox} {a : Stepped} {events : List Event} {answers : List Stepped} (run : Run f b a events answers)
    {front : List ℕ} (in_front : Front a front) where
  -- A fresh reader, or a ready one, is given what is left of the words: every report that it hands out, by steps and by
  -- a long read, is a finished report as the box sent it, as the format carries it, in the order sent.
  pub true_where_damage_shows : {r : Reader} {left : List ℕ} → AtStart f r
      → Shown (marked_of f) left (front ++ words_given answers)
      → TrueBy r left (finished_reports f (sent a events))
  true_where_damage_shows start d =
      let s = asked_sound f a.next nothing events run.asked (set_box run) in
      shown.shown_true f (sent a events) (still_going a events) s.0 s.1 (front_given run in_front) start (rw (as_sent_lem run) at d)

  -- so that by steps: what is handed out is some of what was sent
  pub by_steps : {r : Reader} {left : List ℕ} → AtStart f r
      → Shown (marked_of f) left (front ++ words_given answers)
      → (steps : List Read) → reading.StepsPromise r left steps
      → Sub (handed_out (reading.answers steps)) (finished_reports f (sent a events))
  by_steps start d steps q =
      let t = true_where_damage_shows start d in
      rw (t.hands_out.by_steps steps q) t.among

  -- And so by a fresh reader that comes late, whatever words it missed, in the middle of a report or not.
  pub true_when_late : {left : List ℕ} (missed words : List ℕ) → front ++ words_given answers ≡ missed ++ words
      → Shown (marked_of f) left words
      → (c : NewReader) → FreshPromise (letter_of f) c
      → TrueBy c.reader left (finished_reports f (sent a events))
  true_when_late missed words is d =
      let s = asked_sound f a.next nothing events run.asked (set_box run) in
      shown.late_true f (sent a events) (still_going a events) s.0 s.1 (front_given run in_front) missed words (rw (as_sent_lem run) at is) d

  -- Nor is a save made where nobody pressed: a watch tells that a button went down no more often than it was pressed,
  -- in all formats that carry the button.
  pub never_a_second_save : {r : Reader} {left : List ℕ} → AtStart f r
      → Shown (marked_of f) left (front ++ words_given answers)
      → (button : Button) → CarriedBy f (is_down button)
      → (steps : List Read) → reading.StepsPromise r left steps
      → TellsAtMost (made (is_down button) a.next events) button a.next.settings.buttons (handed_out (reading.answers steps))
  never_a_second_save start d button c =
      never_a_second_save_where_damage_shows (of_demand_3 run) events (asked_unanswered events run.asked) answers run.permitted
      (front_given run in_front) d button c start

  -- A finished report r of which every byte stays, whatever is left of the words before it, `early`, and behind it,
  -- `late`; i is the place of the word that ends it.
  module _ (before : List (Passage Message)) (r : Latched) (after : List (Passage Message)) (is : sent a events ≡ before ++ (finished (report r) ∷ after))
      {late : List ℕ} (behind : Shown (marked_of f) late (passage_words message_bytes after ++ part_words message_bytes (still_going a events))) where
    -- in the four formats with a marked first byte it is handed out
    pub stays_marked : {early : List ℕ} → marked_of f ≡ true → Shown (marked_of f) early (front ++ passage_words message_bytes before)
        → (i : ℕ) → suc i ≡ length early + size_of f
        → HandsOutAt f (early ++ (message_bytes (report r) ++ late)) i (carried f r.report)
    stays_marked =
        let s = asked_sound f a.next nothing events run.asked (set_box run) in
        spared.spared_marked f before r after (still_going a events) (rw is at s.0) s.1 (front_given run in_front) behind

    -- in every format it is, where a silence before it stays, and what stands between, with no broken-off report
    pub stays_behind_a_silence : {early : List ℕ} (ahead quietly : List (Passage Message)) → before ≡ ahead ++ (silent ∷ quietly) → Unbroken quietly
        → Shown (marked_of f) early (front ++ passage_words message_bytes ahead)
        → (i : ℕ) → suc i ≡ length early + suc (length (passage_words message_bytes quietly)) + size_of f
        → HandsOutAt f (early ++ (silence ∷ passage_words message_bytes quietly ++ (message_bytes (report r) ++ late))) i (carried f r.report)
    stays_behind_a_silence =
        let s = asked_sound f a.next nothing events run.asked (set_box run) in
        spared.spared_unmarked f before r after (still_going a events) (rw is at s.0) s.1 (front_given run in_front) behind
