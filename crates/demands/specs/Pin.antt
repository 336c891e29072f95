-- From the pin to the save: "Let an awake box be set to one format and then asked only for reports, over every sequence of
-- events" (demand 3's Run). Its words come at a tty, sound or harmed (Arrives); a program hands what the tty delivers, its
-- waits and its losses to a port that was just opened, the words to a reader of the format, and the reports to a watch.
-- Each may answer whatever its promise permits.
use Rattle.std.specs.Prelude.{ℕ, ◌≡◌, false, List, [], ◌++◌}
use Rattle.std.proofs.Common.{sym}
use Rattle.frames.specs.Passages.{nothing, Unbroken, Sub}
use Rattle.frames.specs.Damage.{Shown, whole}
use Rattle.wire.specs.Line.{letter_of, marked_of}
use Rattle.wire.specs.Messages.{finished_reports}
use Rattle.wire.specs.Buttons.{Button, is_down, CarriedBy}
use Rattle.wire.specs.declared.Format.{Format}
use Rattle.port.specs.Marks.{opened}
use Rattle.port.specs.Sessions.{Alike}
use Rattle.port.specs.Sessions as port
use Rattle.port.specs.Hearing.{Arrival, events_from, stood_from, SureFrom}
use Rattle.port.specs.Arriving.{Arrives}
use Rattle.port.specs.Promises.{Calls}
use Rattle.port.specs.declared.Port.{Port}
use Rattle.port.proofs.Rightly.{promised_rightly, calls_alike}
use Rattle.port.proofs.Arriving.{port_shows}
use Rattle.reader.specs.Counts.{handed_out}
use Rattle.reader.specs.Promises as reader
use Rattle.reader.specs.State.{ready, NewReader, Read}
use Rattle.reader.specs.DamagedLines.{HandsOutBy, TrueBy, AtStart}
use Rattle.reader.specs.Follows.{ready_unbroken}
use Rattle.reader.specs.Runs as reading
use Rattle.reader.specs.declared.Reader.{Reader}
use Rattle.reader.proofs.Follows.{as_if_told}
use Rattle.ballbox.specs.declared.BallBox.{BallBox}
use Rattle.ballbox.specs.declared.Event.{Event}
use Rattle.ballbox.specs.declared.Stepped.{Stepped}
use Rattle.history.specs.Runs.{words_given}
use Rattle.history.specs.Presses.{made}
use Rattle.history.proofs.Asking.{asked_sound}
use Rattle.demands.specs.Demand3.{Run, sent, still_going, Front, set_box}
use Rattle.demands.specs.Demand3 as demand3
use Rattle.demands.specs.Saves.{TellsAtMost}
use Rattle.demands.specs.DamageShown.{true_where_damage_shows, by_steps, true_when_late, never_a_second_save}

-- What comes of it, where the reader's steps over the port's words are these: the reports that are handed out are finished
-- reports as the box sent them, in their order; and a watch over them, told the buttons at the start or not, tells of no
-- button that the format carries that it went down more often than it was pressed.
pub record NothingUntrue (f : Format) (a : Stepped) (events : List Event) (steps : List Read) : Type 0 where
  pub as_sent_lem : Sub (handed_out (reading.answers steps)) (finished_reports f (sent a events))
  pub no_save_unmade : (button : Button) → CarriedBy f (is_down button)
      → TellsAtMost (made (is_down button) a.next events) button a.next.settings.buttons (handed_out (reading.answers steps))

-- The port is fresh (c is 0) or clears bit 7 (c is 1), with silences of any length q. Where the format is unmarked, the
-- program is sure of them. It hands things over in bytes and lots of any cut, and these are the words that come back.
module _ {f : Format} {b : BallBox} {a : Stepped} {events : List Event} {answers : List Stepped} (run : Run f b a events answers)
    {front : List ℕ} (in_front : Front a front)
    (c q : ℕ) {p : Port} (just_opened : p ≡ opened c q)
    (arrival : Arrival) (sure : marked_of f ≡ false → SureFrom q arrival)
    {handed : List port.Event} (alike : Alike p handed (events_from arrival)) {words : List ℕ} (calls : Calls p handed words) where
  -- the words that come back show all damage
  shows : {line : List ℕ} → Arrives c arrival line → Shown (marked_of f) words line
  shows come = port_shows (marked_of f) c q just_opened come sure alike calls

  pub from_the_pin_to_the_save : Arrives c arrival (front ++ words_given answers)
      → {r : Reader} → AtStart f r
      → (steps : List Read) → reading.StepsPromise r words steps
      → NothingUntrue f a events steps
  from_the_pin_to_the_save come start steps i =
      record {
        as_sent_lem = by_steps run in_front start (shows come) steps i;
        no_save_unmade = λ button carried. never_a_second_save run in_front start (shows come) button carried steps i;
      }

  -- by a long read too
  pub from_the_pin_to_the_report : Arrives c arrival (front ++ words_given answers)
      → {r : Reader} → AtStart f r
      → TrueBy r words (finished_reports f (sent a events))
  from_the_pin_to_the_report come start = true_where_damage_shows run in_front start (shows come)

  -- and by a port and a fresh reader that are opened late, whatever words they missed
  pub opened_late : (missed later : List ℕ) → front ++ words_given answers ≡ missed ++ later
      → Arrives c arrival later
      → (n : NewReader) → reader.FreshPromise (letter_of f) n
      → TrueBy n.reader words (finished_reports f (sent a events))
  opened_late missed later is come = true_when_late run in_front missed later is (shows come)

  -- Nothing is missed where nothing is harmed: the words came as they were sent, none of them a broken-off report, and the
  -- program is sure. Whichever silences are told, a ready reader hands out every finished report.
  pub every_report : stood_from c arrival ≡ words_given answers → SureFrom q arrival → Unbroken (sent a events)
      → HandsOutBy (ready (letter_of f)) words (finished_reports f (sent a events))
  every_report as_stood certain unbroken =
      let s = asked_sound f a.next nothing events run.asked (set_box run) in
      let few = rw as_stood at (promised_rightly c q just_opened arrival certain (calls_alike alike calls)) in
      let all = sym (demand3.as_sent_lem run) in
      as_if_told f [] (sent a events) (still_going a events) s.0 s.1 unbroken whole (ready_unbroken tt) (words_given answers) all few
