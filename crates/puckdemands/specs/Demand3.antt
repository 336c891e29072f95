-- Demand 3, "proved once over the two report sizes, self-tests included, for a device over its words from power-up on":
-- over every sequence of events from its making, any byte of the host's among them, its words going to a fresh reader
-- with room for all it finds.
use Rattle.std.specs.Prelude.{ℕ, ◌%◌, ◌<◌, ◌≡◌, true, List, [], ◌∷◌, ◌++◌, length}
use Rattle.std.proofs.Common.{sym, ◌∙◌}
use Rattle.frames.specs.Passages.{Passage, finished, UnderWay, passage_words, part_words, Lost, InOne, Sub}
use Rattle.frames.specs.Words.{line_words}
use Rattle.frames.proofs.Replaced.{in_one}
use Rattle.ballbox.specs.declared.Event.{Event}
use Rattle.vsxxx.specs.Reports.{PuckReport, PuckMessage, puck_bytes, shown_by_puck}
use Rattle.puck.specs.Promises.{MadePromise}
use Rattle.puck.specs.declared.Puck.{Puck}
use Rattle.puck.specs.declared.PuckStepped.{PuckStepped}
use Rattle.puck.proofs.Goodness.{made_is_good}
use Rattle.puckreader.specs.HandedOut.{HandsOut, HandsOutAt, SoundLine, SoundGoing, finished_reports, Within, EndsAt}
use Rattle.puckreader.proofs.Handed as handed
use Rattle.puckhistory.specs.Runs.{RunPromise, words_given}
use Rattle.puckhistory.specs.History.{passages_of, going_after, at_power_up}
use Rattle.puckhistory.proofs.Bridge.{run_passages, run_sound, made_holds}

-- a device is made, and a run of it: any events, and any answers that the promise of the public step permits
pub record Run (buttons revision maker : ℕ) (p : Puck) (events : List Event) (answers : List PuckStepped) : Type 0 where
  pub made : MadePromise buttons revision maker p
  pub permitted : RunPromise p events answers

module _ {buttons revision maker : ℕ} {p : Puck} {events : List Event} {answers : List PuckStepped} (run : Run buttons revision maker p events answers) where
  -- what it sent, as its own history tells it, the self-test of power-up first
  abbrev pub powered : UnderWay PuckMessage
  powered = at_power_up (buttons % 8) (revision % 16) (maker % 8)

  abbrev pub sent : List (Passage PuckMessage)
  sent = passages_of p powered events

  abbrev pub still_going : UnderWay PuckMessage
  still_going = going_after p powered events

  -- the words that the run gave are those of its passages
  pub as_sent_lem : words_given answers ≡ passage_words puck_bytes sent ++ part_words puck_bytes still_going
  as_sent_lem = run_passages p powered events answers (made_is_good buttons revision maker p run.made)
      (made_holds buttons revision maker p run.made) run.permitted

  -- which are sound
  pub sound : SoundLine sent × SoundGoing still_going
  sound = run_sound p powered events (made_is_good buttons revision maker p run.made) (made_holds buttons revision maker p run.made)

  -- "Replace one stretch of its line words", `old`, "by any other legal words, or none", `new`: "each finished report
  -- that begins after the stretch is handed out as the box sent it", be it a movement or a self-test. The finished
  -- report m hands out r, and i is the place of the word that ends it.
  pub marked : (pre old new post : List ℕ)
      → words_given answers ≡ pre ++ (old ++ post)
      → line_words new ≡ true
      → (before : List (Passage PuckMessage)) (m : PuckMessage) (after : List (Passage PuckMessage))
      → sent ≡ before ++ (finished m ∷ after)
      → (r : PuckReport)
      → shown_by_puck m ≡ r ∷ []
      → (i : ℕ)
      → EndsAt before m old new i
      → Within before pre old
      → HandsOutAt (pre ++ (new ++ post)) i r
  marked pre old new post line legal before m after is r shown i place within =
      handed.marked sent still_going pre old new post
      (record { sound = sound.0; sound_going = sound.1; as_sent_lem = sym as_sent_lem ∙ line; legal = legal }) before m after is i place r shown within

  -- wherever one report lost bytes, by the words that are left; of a broken-off one, or of the one that is going, none need be missing
  pub exactly_lost : {words : List ℕ} {others : List (Passage PuckMessage)}
      → Lost puck_bytes sent still_going words others
      → HandsOut words (finished_reports others)
  exactly_lost lost = handed.exactly sound.0 sound.1 lost

  -- "If the stretch only removed bytes of a single report of a marked format, exactly the finished reports other than
  -- that one are handed out, in the order sent."
  pub exactly : {pre old : List ℕ} {others : List (Passage PuckMessage)} (new post : List ℕ)
      → words_given answers ≡ pre ++ (old ++ post)
      → InOne puck_bytes pre old sent still_going others
      → Sub new old
      → length new < length old
      → HandsOut (pre ++ (new ++ post)) (finished_reports others)
  exactly new post line one d less = exactly_lost (in_one puck_bytes post new (sym as_sent_lem ∙ line) one d less)
