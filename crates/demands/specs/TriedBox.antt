-- A box to try, through to the end: lines of events to a recording, and the recording to its listing. "Listed by the
-- lister, a run that is asked only for reports has an `R` line for each finished report as it was sent, in order (in U,
-- T and W from the first silence on, with no broken-off report between), and no other."
use Rattle.std.specs.Prelude.{ℕ, ◌+◌, ◌-◌, ◌≤◌, ◌<◌, ◌≡◌, true, false, List, [], ◌∷◌, ◌++◌, map, length, take}
use Rattle.std.proofs.Math.Path.{refl}
use Rattle.std.proofs.Common.{◌∙◌, ap, append-nil}
use Rattle.frames.specs.Passages.{Passage, silent, nothing, Unbroken, Unpaused}
use Rattle.frames.specs.Words.{line_words}
use Rattle.wire.specs.Line.{letter_of, marked_of, marked_by, known}
use Rattle.wire.specs.Messages.{Message, SoundIn, SoundEnd, finished_reports}
use Rattle.wire.specs.declared.Report.{Report}
use Rattle.wire.specs.declared.Format.{Format}
use Rattle.wire.proofs.Letters.{letter_named}
use Rattle.reader.specs.Counts.{handed_out}
use Rattle.reader.specs.Promises.{fresh_of}
use Rattle.reader.specs.Runs.{steps_of, answers, reader_after, has_silence}
use Rattle.reader.specs.DamagedLines.{HandsOut}
use Rattle.reader.specs.declared.Reader.{Reader}
use Rattle.reader.proofs.Awaiting.{nothing_before_silence}
use Rattle.reader.proofs.AsSent.{sent_legal}
use Rattle.reader.proofs.Lines.{line_sent}
use Rattle.reader.proofs.Followed.{fresh_followed_marked, fresh_followed}
use Rattle.reader.proofs.Framed.{fresh_of_lem}
use Rattle.reader.proofs.Handed.{permitted}
use Rattle.listing.specs.Scanning.{width, most_lines}
use Rattle.listing.specs.Items.{report_item, gave_of, items_from}
use Rattle.listing.specs.Listing.{items_at, printed_at, listing_of}
use Rattle.listing.specs.declared.Found.{Found}
use Rattle.listing.specs.declared.Found.TheVariants as found
use Rattle.listing.specs.declared.Item.{Item}
use Rattle.listing.specs.declared.Item.TheVariants as item
use Rattle.ballbox.specs.Box.{fresh_box}
use Rattle.ballbox.specs.Promises.{StepPromise}
use Rattle.ballbox.specs.declared.Stepped.{Stepped}
use Rattle.ballbox.specs.declared.Event.TheVariants.{Host}
use Rattle.ballbox.proofs.Goodness.{fresh_is_good}
use Rattle.history.specs.Runs.{RunPromise, words_given}
use Rattle.history.specs.Asked.{only_asks}
use Rattle.history.proofs.Asking.{asked_sound}
use Rattle.driver.specs.Lines.{said_by}
use Rattle.driver.specs.Driving.{recording_of}
use Rattle.driver.specs.Events.{events_of, passes, Tries}
use Rattle.driver.specs.Listed.{reports_in, ends_in}
use Rattle.driver.proofs.Listed.{numbered, words_shown}
use Rattle.driver.proofs.Tried.{Finds, whole_found, long_found, bad_found, over_found}
use Rattle.demands.specs.Demand3.{Run, sent, still_going, set_box, as_sent_lem}

-- an input whose first line says f and whose next lines pass and ask only for reports; a is the answer of the public step to the letter, and `given` are
-- those to the events, any that its promise permits
pub record Tried (f : Format) (input : List ℕ) (lines rest : List (List ℕ)) (a : Stepped) (given : List Stepped) : Type 0 where
  pub tries : Tries input (letter_of f) lines rest
  pub set : StepPromise fresh_box (Host (letter_of f)) a
  pub asked : only_asks (events_of lines) ≡ true
  pub permitted : RunPromise a.next (events_of lines) given

-- the reports that its listing has: in S, V, A and B all that were finished; in U, T and W those behind the first silence, with no broken-off report
-- there, and none where there is no silence
pub data Seen (f : Format) (words : List ℕ) (passages : List (Passage Message)) : List Report → Type 0 where
  marked : marked_of f ≡ true → Seen f words passages (finished_reports f passages)
  from_silence : (front later : List (Passage Message)) → marked_of f ≡ false → passages ≡ front ++ (silent ∷ later) → Unpaused front → Unbroken later
      → Seen f words passages (finished_reports f later)
  no_silence : marked_of f ≡ false → has_silence words ≡ false → Seen f words passages []

-- a fresh reader of f, and what it is behind words
abbrev pub fresh_reader : Format → Reader
fresh_reader f = (fresh_of (letter_of f)).reader

abbrev pub kept_after : Format → List ℕ → Reader
kept_after f words = reader_after (fresh_reader f) (steps_of (fresh_reader f) words)

-- a listing whose `R` lines, line numbers left out, are those of these reports, in order, and no others, and whose one `H` or `E` line is this
pub record Lists (f : Format) (recording : List ℕ) (reports : List Report) (last : Item) : Type 0 where
  pub items : List Item
  pub listing : listing_of recording ≡ printed_at width items
  pub shows : reports_in items ≡ map (report_item (letter_of f) 0) reports
  pub ends : ends_in items ≡ last ∷ []

letter_known : (f : Format) → known (letter_of f) ≡ true
unfolding known
letter_known f = rw (letter_named f)

letter_marked : (f : Format) → marked_by (letter_of f) ≡ marked_of f
unfolding marked_by
letter_marked f = rw (letter_named f)

-- what is listed of words that a reader hands reports out of, and then of an end
listed : (f : Format) (input words : List ℕ) (reports : List Report) (end : Found) (last : Item) → Finds input (letter_of f) words end
    → handed_out (answers (steps_of (fresh_reader f) words)) ≡ reports
    → items_from (kept_after f words) (end ∷ []) ≡ last ∷ []
    → reports_in (last ∷ []) ≡ [] → ends_in (last ∷ []) ≡ last ∷ []
    → Lists f (recording_of input) reports last
unfolding items_from gave_of listing_of
listed f input words reports end last finds hands is none one =
    let r = fresh_reader f in
    let o = fresh_of_lem f (fresh_of (letter_of f)) refl in
    let shown = words_shown words 1 r (end ∷ []) o.is_good in
    let items : items_at width (recording_of input) ≡ items_from r (numbered 1 words ++ end ∷ []) = ap (items_from _) finds in
    record {
      items = items_at width (recording_of input);
      listing = refl;
      shows = ap reports_in items ∙ shown.0 ∙ rw (is, none, o.letter, hands, append-nil);
      ends = ap ends_in items ∙ shown.1 ∙ rw (is, one);
    }

module _ {f : Format} {input : List ℕ} {lines rest : List (List ℕ)} {a : Stepped} {given : List Stepped} (tried : Tried f input lines rest a given) where
  run_of : Run f fresh_box a (events_of lines) given
  unfolding fresh_box
  run_of = record { good = fresh_is_good fresh_box refl; awake = refl; set = tried.set; asked = tried.asked; permitted = tried.permitted }

  sound : SoundIn f (sent a (events_of lines)) × SoundEnd f (still_going a (events_of lines))
  sound = asked_sound f a.next nothing (events_of lines) tried.asked (set_box run_of)

  legal : line_words (words_given given) ≡ true
  legal = rw (as_sent_lem run_of) (sent_legal f _ (line_sent f (sent a (events_of lines)) (still_going a (events_of lines)) sound.0 sound.1))

  by_steps : {reports : List Report} → HandsOut f (words_given given) reports → handed_out (answers (steps_of (fresh_reader f) (words_given given))) ≡ reports
  by_steps hands = (hands (fresh_of (letter_of f)) refl).by_steps (steps_of (fresh_reader f) (words_given given)) (permitted (fresh_reader f) (words_given given))

  handed : {reports : List Report} → Seen f (words_given given) (sent a (events_of lines)) reports
      → handed_out (answers (steps_of (fresh_reader f) (words_given given))) ≡ reports
  handed (marked m) = by_steps (rw (as_sent_lem run_of) (fresh_followed_marked f (sent a (events_of lines)) (still_going a (events_of lines)) sound.0 sound.1 m))
  handed (from_silence front later m is p u) =
      by_steps (rw (as_sent_lem run_of) (fresh_followed f (sent a (events_of lines)) (still_going a (events_of lines)) sound.0 sound.1 front later is m p u))
  handed (no_silence m h) =
      nothing_before_silence (letter_of f) (fresh_of (letter_of f)) (words_given given) (steps_of (fresh_reader f) (words_given given)) (letter_marked f
      ∙ m) refl h (permitted (fresh_reader f) (words_given given))

-- An input that is good to its end: the reports that were seen, and at the end `H` and the bytes kept. The recording
-- has a line for the format and one for each word, no more than 999,999.
pub listed_whole : {f : Format} {input : List ℕ} {lines : List (List ℕ)} {a : Stepped} {given : List Stepped} {reports : List Report}
    → Tried f input lines [] a given
    → Seen f (words_given given) (sent a (events_of lines)) reports
    → length (words_given given) < most_lines
    → Lists f (recording_of input) reports (item.H (kept_after f (words_given given)).count)
unfolding items_from gave_of
listed_whole {f} {input} {a = a} {given = given} {reports = reports} tried seen few =
    listed f input (words_given given) reports found.End _
    (whole_found tried.tries a given tried.set tried.permitted (letter_known f) (legal tried) few) (handed tried seen) refl refl refl

-- With more lines it has the reports that a fresh reader hands out of the first 999,998 words, and ends in `over`.
pub listed_too_long : {f : Format} {input : List ℕ} {lines : List (List ℕ)} {a : Stepped} {given : List Stepped}
    → Tried f input lines [] a given
    → most_lines ≤ length (words_given given)
    → Lists f (recording_of input) (handed_out (answers (steps_of (fresh_reader f) (take (most_lines - 1) (words_given given))))) item.Over
unfolding items_from gave_of
listed_too_long {f} {input} {a = a} {given = given} tried many =
    listed f input (take (most_lines - 1) (words_given given)) _ found.Over _
    (long_found tried.tries a given tried.set tried.permitted (letter_known f) (legal tried) many) refl refl refl refl

-- "A line that is bad, or an event that the box refuses, ends it with `E` and the line's number, which `mlist` in turn lists as a bad line": the reports of the
-- events before it, and at the end `E` and the number of the recording's line behind the words, without `H`
module _ {f : Format} {input : List ℕ} {lines rest : List (List ℕ)} {l : List ℕ} {a : Stepped} {given : List Stepped} {reports : List Report}
    (tried : Tried f input lines (l ∷ rest) a given)
    (seen : Seen f (words_given given) (sent a (events_of lines)) reports)
    (few : length (words_given given) + 1 < most_lines) where
  ends : Finds input (letter_of f) (words_given given) (found.Bad (length (words_given given) + 2))
      → Lists f (recording_of input) reports (item.E (length (words_given given) + 2))
  unfolding items_from gave_of
  ends finds = listed f input (words_given given) reports (found.Bad (length (words_given given) + 2)) _ finds (handed tried seen) refl refl refl

  pub listed_bad : passes (said_by l) ≡ false → length lines + 1 < most_lines → Lists f (recording_of input) reports (item.E (length (words_given given) + 2))
  listed_bad fails some = ends (bad_found tried.tries a given tried.set tried.permitted (letter_known f) (legal tried) few fails some)

  -- and so where there is a line of events too many
  pub listed_over : length lines + 1 ≡ most_lines → Lists f (recording_of input) reports (item.E (length (words_given given) + 2))
  listed_over all = ends (over_found tried.tries a given tried.set tried.permitted (letter_known f) (legal tried) few all)
