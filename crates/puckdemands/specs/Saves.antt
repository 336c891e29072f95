-- From the press to the save, of a device: "for a device over its words from power-up on", over every sequence of
-- events from its making (demand 3's Run), any byte of the host's among them, self-tests included. Its words are
-- damaged in any number of places, and what is left goes to a fresh reader. For all answers that the promises permit.
use Rattle.std.specs.Prelude.{ℕ, suc, ◌+◌, ◌-◌, ◌%◌, ◌≤◌, ◌≡◌, refl, true, false, List, [], ◌∷◌, ◌++◌, map, length}
use Rattle.std.proofs.Common.{sym, ◌∙◌, ap, append_assoc, arith, length-append, ne_eqb}
use Rattle.std.proofs.lemmas.Bool.{lt-leb}
use Rattle.frames.specs.Words.{line_words}
use Rattle.frames.specs.Passages.{Passage, finished, nothing, Sub, passage_words, part_words, begun_by, going_by}
use Rattle.frames.specs.Damage.{Shown, Scarred}
use Rattle.frames.proofs.Sub.{sub_more}
use Rattle.frames.proofs.Passages.{passages_append, finished_append}
use Rattle.wire.specs.Holds.{carried}
use Rattle.wire.specs.Messages.{report}
use Rattle.wire.specs.Buttons.{Button, is_down, presses, buttons_of, presses_from}
use Rattle.wire.specs.declared.Report.{Report}
use Rattle.wire.specs.declared.Format.TheVariants.{Mm}
use Rattle.wire.proofs.Codec.{bytes_length}
use Rattle.wire.proofs.Front.{size_between}
use Rattle.wire.proofs.Buttons.{fewer}
use Rattle.ballbox.specs.Presses.{remembered}
use Rattle.ballbox.specs.Commands.{is_stream}
use Rattle.ballbox.specs.Events.{bytes_left}
use Rattle.ballbox.specs.declared.Event.{Event}
use Rattle.ballbox.specs.declared.Event.TheVariants.{Buttons}
use Rattle.ballbox.proofs.Remembering.{remembered_length}
use Rattle.ballbox.proofs.Parts.{parts}
use Rattle.history.specs.Presses.{buttons_told, never_ninth}
use Rattle.vsxxx.specs.Reports.{PuckReport, movement, PuckMessage, of_box_lem, puck_bytes, shown_by_puck}
use Rattle.vsxxx.specs.Buttons.{movements_in, movement_buttons}
use Rattle.puck.specs.Rules.{as_box}
use Rattle.puck.specs.Good.{good}
use Rattle.puck.specs.declared.Puck.{Puck}
use Rattle.puck.specs.declared.PuckStepped.{PuckStepped}
use Rattle.puck.proofs.Parts as device
use Rattle.puckreader.specs.Line.{handed_out}
use Rattle.puckreader.specs.Promises.{FreshPromise}
use Rattle.puckreader.specs.Runs as reading
use Rattle.puckreader.specs.HandedOut.{TrueBy, HandsOutBy, HandsOutAt, finished_reports, Within}
use Rattle.puckreader.specs.declared.PuckReader.{PuckReader}
use Rattle.puckreader.specs.State.{PuckRead}
use Rattle.puckreader.proofs.Handed.{followed}
use Rattle.puckreader.proofs.Shown as shown
use Rattle.puckreader.proofs.Scars as scars
use Rattle.puckhistory.specs.Runs.{RunPromise, words_given, puck_after}
use Rattle.puckhistory.specs.History.{passages_of, going_after, at_power_up}
use Rattle.puckhistory.specs.Presses.{all_leave}
use Rattle.puckhistory.proofs.Bridge.{run_passages, run_sound}
use Rattle.puckhistory.proofs.Ever.{begun_made, finished_begun, Stands, made_stands, stands_after}
use Rattle.puckhistory.proofs.Survives.{Outlives, outlives}
use Rattle.puckhistory.proofs.Counts.{rests_so, as_many}
use Rattle.saves.specs.State.{watching, unaware}
use Rattle.saves.specs.Promises.{HeardAll, times_down}
use Rattle.saves.specs.declared.Told.{Told}
use Rattle.saves.proofs.Hearing as hearing
use Rattle.demands.specs.Saves.{Press, TellsAtMost}
use Rattle.puckdemands.specs.Demand3.{Run, sent, still_going, as_sent_lem, sound, marked}

module _ {buttons revision maker : ℕ} {p : Puck} {events : List Event} {answers : List PuckStepped} (run : Run buttons revision maker p events answers) where
  -- Damage that shows: any stretches of the words are lost, each with at least one 256 in its place, and any silences
  -- are left out or come in. A fresh reader may come late, whatever words it missed, in the middle of a report or not.
  -- Every report that it hands out, by steps and by a long read, movement or self-test, is a finished one as the device
  -- sent it, in the order sent.
  pub true_when_late : {left : List ℕ} (missed words : List ℕ) → words_given answers ≡ missed ++ words
      → Shown true left words
      → (r : PuckReader) → FreshPromise r
      → TrueBy r left (finished_reports (sent run))
  true_when_late missed words is = shown.late_true (sent run) (still_going run) (sound run).0 (sound run).1 missed words (sym (as_sent_lem run) ∙ is)

  -- and so from the first word on
  pub true_where_damage_shows : {left : List ℕ} → Shown true left (words_given answers)
      → (r : PuckReader) → FreshPromise r
      → TrueBy r left (finished_reports (sent run))
  true_where_damage_shows = true_when_late [] (words_given answers) refl

  -- so that by steps: what is handed out is some of what was sent
  pub by_steps : {left : List ℕ} → Shown true left (words_given answers)
      → (r : PuckReader) → FreshPromise r
      → (steps : List PuckRead) → reading.StepsPromise r left steps
      → Sub (handed_out (reading.answers steps)) (finished_reports (sent run))
  by_steps d r f steps q =
      let t = true_where_damage_shows d r f in
      rw (t.hands_out.by_steps steps q) t.among

  -- And a finished report m of which every byte stays is handed out, whatever is left of the words before it, `early`,
  -- and behind it, `late`; i is the place of the word that ends it.
  pub stays_marked : (before : List (Passage PuckMessage)) (m : PuckMessage) (after : List (Passage PuckMessage))
      → sent run ≡ before ++ (finished m ∷ after)
      → (r : PuckReport)
      → shown_by_puck m ≡ r ∷ []
      → {early late : List ℕ}
      → Shown true early (passage_words puck_bytes before)
      → Shown true late (passage_words puck_bytes after ++ part_words puck_bytes (still_going run))
      → (i : ℕ)
      → suc i ≡ length early + length (puck_bytes m)
      → HandsOutAt (early ++ (puck_bytes m ++ late)) i r
  stays_marked before m after is r one ahead behind i at =
      shown.spared before m after (still_going run) (rw is at (sound run).0) (sound run).1 ahead behind r one i at

  -- The presses of a button that were made: how often it goes down in what the device is told, behind the buttons that
  -- were handed in at its making.
  abbrev pub pressed : Button → ℕ
  pressed button = presses (is_down button) (is_down button (buttons % 8)) (buttons_told events)

  few : (button : Button) (states : List ℕ) → Sub states (begun_by movement_buttons (sent run) ++ going_by movement_buttons (still_going run))
      → presses (is_down button) (is_down button (buttons % 8)) states ≤ pressed button
  few button states some =
      omega (arith, fewer (is_down button) (is_down button (buttons % 8)) some, begun_made buttons revision maker p events run.made (is_down button))

  -- No press is seen that was not made: L, M and R go down in the movement reports that were finished no more often
  -- than they were pressed.
  pub no_press_unmade : (button : Button) → presses_from (is_down button) (buttons % 8) (movements_in (finished_reports (sent run))) ≤ pressed button
  no_press_unmade button =
      let whole = few button (begun_by movement_buttons (sent run)) (sub_more (begun_by movement_buttons (sent run)) (going_by movement_buttons (still_going run))) in
      omega (arith, fewer (is_down button) (is_down button (buttons % 8)) (finished_begun (sent run)), whole)

  -- Never a second save: any words of the device's may be lost, anywhere and however many, without a trace, and breaks
  -- and silences may come in. A watch is handed the movements that a fresh reader hands out of what is left, and tells
  -- that the button went down no more often than it was pressed.
  pub never_a_second_save : {rest : List ℕ} → Scarred rest (words_given answers)
      → (button : Button)
      → (r : PuckReader) → FreshPromise r
      → (steps : List PuckRead) → reading.StepsPromise r rest steps
      → TellsAtMost (pressed button) button (buttons % 8) (movements_in (handed_out (reading.answers steps)))
  never_a_second_save {rest} scarred button r f steps q told =
      let d : Scarred rest (passage_words puck_bytes (sent run) ++ part_words puck_bytes (still_going run)) = rw (as_sent_lem run) at scarred in
      let found = (scars.scarred_out (sent run) (still_going run) (sound run).0 (sound run).1 d r f).by_steps steps q in
      let reports = movements_in (handed_out (reading.answers steps)) in
      let some : Sub (buttons_of reports) (begun_by movement_buttons (sent run) ++ going_by movement_buttons (still_going run)) =
      rw found (scars.scarred_some (sent run) (still_going run) (sound run).0 (sound run).1 d) in
      let most = few button (buttons_of reports) some in (
        λ h. omega (arith, most, hearing.heard_known button (buttons % 8) reports told h),
        λ h. omega (arith, most, hearing.heard_fresh button reports told h, (hearing.fresh_near (is_down button) (buttons % 8) reports).0),
      )

-- the reader r, given the words, hands out the reports `before` and then others, of which the movements show these
-- states, in order
pub record ShowsStates (r : PuckReader) (words : List ℕ) (before : List PuckReport) (states : List ℕ) : Type 0 where
  pub since : List PuckReport
  pub hands_out : HandsOutBy r words (before ++ since)
  pub in_order : Sub states (buttons_of (movements_in since))

-- a fresh reader, given the words, answers one of them by a movement with these buttons, and a long read writes it
pub record SeenAt (words : List ℕ) (state : ℕ) : Type 0 where
  pub place : ℕ
  pub handed : Report
  pub at : HandsOutAt words place (movement handed)
  pub buttons : handed.buttons ≡ state

-- A press. The device has run from its making over `front`, whatever the host sent, and is in the middle of a report or
-- not, whatever it remembers; the press is one as at the box in S, which streams (so that no self-test is going).
module _ {buttons revision maker : ℕ} {p : Puck} (front : List Event) (n : ℕ) (back : List Event) {answers : List PuckStepped}
    (run : Run buttons revision maker p (front ++ (Buttons n ∷ back)) answers) (press : Press Mm (puck_after p front).ball n back) where
  abbrev pub ahead : List (Passage PuckMessage)
  ahead = passages_of p (at_power_up (buttons % 8) (revision % 16) (maker % 8)) front

  stands : Stands p (at_power_up (buttons % 8) (revision % 16) (maker % 8))
  stands = made_stands buttons revision maker p (front ++ (Buttons n ∷ back)) run.made

  outlived : Outlives p (at_power_up (buttons % 8) (revision % 16) (maker % 8)) front n back
  outlived =
      let g = at_power_up (buttons % 8) (revision % 16) (maker % 8) in
      let c = (puck_after p front).ball in
      let good_box = (device.parts (puck_after p front) (stands_after p g front stands).good).ball in
      outlives p g front n back stands press.quiet
      (record {
        stream = press.stream;
        known = press.known;
        changes = ne_eqb n c.settings.buttons press.changes;
        room = lt-leb 8 c.memory.count (omega (arith, press.room, remembered_length c.memory (parts c good_box).memory));
        kept = press.kept;
      })
      press.slots

  -- A press survives a busy line: a fresh reader of all the words hands out, behind what was finished before, reports
  -- whose movements show the states remembered at the press and then the press.
  pub a_press_survives : (r : PuckReader) → FreshPromise r
      → ShowsStates r (words_given answers) (finished_reports ahead) (remembered (puck_after p front).ball.memory ++ (n ∷ []))
  a_press_survives r f =
      let o = outlived in
      record {
        since = finished_reports o.later;
        hands_out = rw (
          ← (finished_append shown_by_puck ahead o.later),
          ← o.is,
          as_sent_lem run,
        ) (followed (sent run) (still_going run) (sound run).0 (sound run).1 r f);
        in_order = o.shown;
      }

  -- And one that is made after a damaged stretch is seen: of the same words the stretch `old`, which lies in what was
  -- over at the press, was replaced by any legal words.
  pub seen_after_the_stretch : (pre old new post : List ℕ)
      → words_given answers ≡ pre ++ (old ++ post)
      → line_words new ≡ true
      → Within ahead pre old
      → SeenAt (pre ++ (new ++ post)) n
  seen_after_the_stretch pre old new post line legal w =
      let o = outlived in
      let a = o.at in
      let m = of_box_lem (report a.latched) in
      let before = ahead ++ a.before in
      let is : sent run ≡ before ++ (finished m ∷ a.after) =
      o.is ∙ (ap (λ (l : List (Passage PuckMessage)). ahead ++ l) a.is ∙ sym (append_assoc ahead a.before (finished m ∷ a.after))) in
      let longer : length (passage_words puck_bytes ahead) ≤ length (passage_words puck_bytes before) =
      rw (passages_append puck_bytes, length-append) (omega arith) in
      let some = bytes_length a.latched.format a.latched.report in
      let place = length (passage_words puck_bytes before) + length (puck_bytes m) + length new - suc (length old) in
      record {
        place = place;
        handed = carried Mm a.latched.report;
        at = marked run pre old new post line legal before m a.after is (movement (carried Mm a.latched.report)) refl place
            (omega (arith, some, (size_between a.latched.format).0)) (omega arith);
        buttons = a.buttons;
      }

-- A good device that streams, with nothing going and nothing remembered, over events of which no byte of the host's is
-- D, P or T: its memory is not emptied, no ninth change comes, and all states have been shown at the end.
pub record Steady (p : Puck) (events : List Event) (answers : List PuckStepped) : Type 0 where
  pub good : good p ≡ true
  pub stream : is_stream p.ball.settings.mode ≡ true
  pub idle : bytes_left p.ball ≡ false
  pub none : remembered p.ball.memory ≡ []
  pub keeps : all_leave events ≡ true
  pub never : never_ninth p.ball (map as_box events) ≡ true
  pub shown : remembered (puck_after p events).ball.memory ≡ []
  pub permitted : RunPromise p events answers

-- As many saves as presses. The words since go to a fresh reader, and its movements to a watch.
module _ {p : Puck} {events : List Event} {answers : List PuckStepped} (run : Steady p events answers) (button : Button) (r : PuckReader) (f : FreshPromise r)
    (steps : List PuckRead) (q : reading.StepsPromise r (words_given answers) steps) (told : List Told) where
  abbrev pub made_since : ℕ
  made_since = presses (is_down button) (is_down button p.ball.settings.buttons) (buttons_told events)

  found : handed_out (reading.answers steps) ≡ finished_reports (passages_of p nothing events)
  found =
      let h = rests_so p run.good run.stream run.idle in
      let s = run_sound p nothing events run.good h in
      let line : words_given answers ≡ passage_words puck_bytes (passages_of p nothing events) ++ part_words puck_bytes (going_after p nothing events) =
      run_passages p nothing events answers run.good h run.permitted in
      (followed (passages_of p nothing events) (going_after p nothing events) s.0 s.1 r f).by_steps steps (rw line at q)

  seen_is : presses_from (is_down button) p.ball.settings.buttons (movements_in (handed_out (reading.answers steps))) ≡ made_since
  seen_is =
      rw found
      (as_many p run.good run.stream run.idle events run.none run.keeps run.never run.shown (is_down button))

  -- one that was told the buttons at the start tells that a button went down exactly as often as it was pressed
  pub as_many_saves : HeardAll (watching p.ball.settings.buttons) (movements_in (handed_out (reading.answers steps))) told
      → times_down button told ≡ made_since
  as_many_saves h = hearing.heard_known button p.ball.settings.buttons (movements_in (handed_out (reading.answers steps))) told h ∙ seen_is

  -- one that was not told them misses one press at most, that of the first report
  pub one_missed_at_most : HeardAll unaware (movements_in (handed_out (reading.answers steps))) told → made_since ≤ suc (times_down button told)
  one_missed_at_most h =
      let reports = movements_in (handed_out (reading.answers steps)) in
      omega (arith, seen_is, hearing.heard_fresh button reports told h, (hearing.fresh_near (is_down button) p.ball.settings.buttons reports).1)
