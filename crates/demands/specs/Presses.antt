-- Presses that outlive a busy line: "In stream modes the box shall remember button states in order, up to eight, each shown by a report of its own."
-- Over the public step, for every good box that is awake in a stream mode, in the middle of a report or not, whatever it remembers, and every list of
-- events: motion, periods, buttons, Latch and Send in any order, and any byte of the host's but D, P, `d` and the formats. From the press to the save: Saves.
use Rattle.std.specs.Prelude.{ℕ, suc, ◌*◌, ◌≤◌, ◌≡◌, refl, true, false, List, [], ◌∷◌, ◌++◌, map, length, take}
use Rattle.std.proofs.Common.{sym, ◌∙◌, ap, append-nil, arith, length-append, take_at}
use Rattle.std.proofs.lemmas.List.{take-append-le}
use Rattle.frames.specs.Passages.{Passage, silent, UnderWay, nothing, Unbroken, Unpaused, Sub, passage_words, part_words}
use Rattle.wire.specs.Line.{letter_of, size_by, marked_of}
use Rattle.wire.specs.Messages.{Message, message_bytes, finished_reports, SoundIn, SoundEnd}
use Rattle.wire.specs.Buttons.{buttons_of, buttons_in}
use Rattle.wire.specs.declared.Format.{Format}
use Rattle.reader.specs.State.{ready}
use Rattle.reader.specs.DamagedLines.{HandsOut, HandsOutBy}
use Rattle.reader.proofs.Followed as followed
use Rattle.ballbox.specs.Box.{dormant}
use Rattle.ballbox.specs.Presses.{remembered}
use Rattle.ballbox.specs.Commands.{is_stream, asks_for_reports}
use Rattle.ballbox.specs.declared.BallBox.{BallBox}
use Rattle.ballbox.specs.declared.Event.{Event}
use Rattle.ballbox.specs.declared.Stepped.{Stepped}
use Rattle.history.specs.Runs.{RunPromise, words_given}
use Rattle.history.specs.History.{passages_of, going_after}
use Rattle.history.specs.Carried.{Carrying}
use Rattle.history.specs.Presses.{none_empties, no_host, only_streams, changes_in, states_over, never_ninth, shown_by, ShownAgain, slots_in, last_box}
use Rattle.history.proofs.Bridge.{run_passages}
use Rattle.history.proofs.Asking.{asked_sound, hosts_by}
use Rattle.history.proofs.Presses as presses
use Rattle.history.proofs.Within as within
use Rattle.history.proofs.Again as again
use Rattle.history.proofs.Survives.{shown_seen}

-- such a box, and a run of it: any answers that the promise of the public step permits
pub record Streaming (b : BallBox) (going : UnderWay Message) (events : List Event) (answers : List Stepped) : Type 0 where
  pub box : Carrying b going
  pub awake : dormant b ≡ false
  pub stream : is_stream b.settings.mode ≡ true
  pub keeps : none_empties events ≡ true
  pub permitted : RunPromise b events answers

-- what the k states that a box remembered have become: all have been shown, in order; the newest of eight may have been replaced by a later change
pub record AllShown (b : BallBox) (events : List Event) (shown : List ℕ) (last : BallBox) : Type 0 where
  pub all : length (remembered b.memory) ≤ length shown
  pub first_seven : (j : ℕ) → j ≤ 7 → j ≤ length (remembered b.memory) → take j shown ≡ take j (remembered b.memory)
  pub unreplaced : never_ninth b events ≡ true → take (length (remembered b.memory)) shown ≡ remembered b.memory
  pub unchanged : changes_in b events ≡ [] → (shown ≡ remembered b.memory) × (remembered last.memory ≡ [])

module _ {b : BallBox} {going : UnderWay Message} {events : List Event} {answers : List Stepped} (run : Streaming b going events answers) where
  streams : presses.Streams b going
  streams = presses.streams_from b going run.box run.awake run.stream

  -- what it sent, the states that its finished reports showed, and the box after it
  abbrev pub sent : List (Passage Message)
  sent = passages_of b going events

  abbrev pub shown : List ℕ
  shown = shown_by sent

  abbrev pub last : BallBox
  last = last_box b answers

  after_all : states_over b (remembered b.memory) events ≡ shown ++ remembered last.memory
  after_all = rw (presses.last_box_lem b events answers run.permitted) (presses.in_order b going events streams run.keeps)

  -- "in order, [..] each shown by a report of its own. [..] A ninth change replaces the newest": the states remembered at the start and then the
  -- changes of the run, each ninth one in place of the one before it, are the states that finished reports showed and then those still remembered
  pub in_order : states_over b (remembered b.memory) events ≡ shown ++ remembered last.memory
  in_order = after_all

  -- and where no ninth change came, they are just the states remembered and then the changes
  pub in_order_plainly : never_ninth b events ≡ true
      → remembered b.memory ++ changes_in b events ≡ shown ++ remembered last.memory
  in_order_plainly never = sym (presses.no_ninth_lem b (remembered b.memory) events never) ∙ after_all

  -- "so a broken-off report is followed by another with the same buttons"
  pub shown_again : ShownAgain sent (going_after b going events)
  shown_again = again.shown_again b going events streams run.keeps

  -- Within so many slots, each a Send with a Latch since the Send before: with k remembered, whatever else happens in between but a byte of the host's,
  -- after (k + 1) reports' worth of slots those k have been shown; in the middle of a report too
  pub within_slots : no_host events ≡ true
      → suc (length (remembered b.memory)) * size_by b.settings.format ≤ slots_in events
      → AllShown b events shown last
  within_slots quiet slots =
      let k = length (remembered b.memory) in
      let enough = within.enough_slots b going k streams in
      let most : k ≤ length shown = within.shown_within b going false events quiet k streams tt (omega arith) (omega arith) in
      record {
        all = most;
        first_seven = λ j few l.
            sym (take-append-le j shown (remembered last.memory) (omega arith))
            ∙ (ap (take j) (sym after_all) ∙ presses.first_stay b going events [] j streams run.keeps few l);
        unreplaced = λ never.
            sym (take-append-le k shown (remembered last.memory) most)
            ∙ (ap (take k) (sym (in_order_plainly never)) ∙ take_at (remembered b.memory) (changes_in b events) k refl);
        unchanged = λ none. split shown (remembered last.memory) (rw (none, append-nil) at (in_order_plainly (presses.unchanged_never b events none))) most;
      }
    where
      -- states of which as many have been shown as there are
      split : (x y : List ℕ) → remembered b.memory ≡ x ++ y → length (remembered b.memory) ≤ length x → (x ≡ remembered b.memory) × (y ≡ [])
      split x [] e l = (sym (append-nil x) ∙ sym e, refl)
      split x (s ∷ y) e l = absurd (omega (arith, ap length e, length-append x (s ∷ y)))

-- The recorder sees it: its reader is handed the words of a run that begins where nothing is going, of a box in the format f; the host sends no byte
-- but J K L R M Q N O.
module _ {b : BallBox} {events : List Event} {answers : List Stepped} (run : Streaming b nothing events answers)
    (f : Format) (set : b.settings.format ≡ letter_of f) (hosts : only_streams events ≡ true) where
  sound : SoundIn f (sent run) × SoundEnd f (going_after b nothing events)
  sound =
      asked_sound f b nothing events (hosts_by is_stream asks_for_reports (λ byte h. rw h) events hosts)
      (record { good = run.box.good; awake = run.awake; format = set; carries = run.box.carries; sound = tt })

  line : words_given answers ≡ passage_words message_bytes (sent run) ++ part_words message_bytes (going_after b nothing events)
  line = run_passages b events answers run.box.good run.box.carries run.permitted

  -- a reader that is ready hands out exactly the finished reports, as the format carries them, in order, by steps and by a long read with room: in a
  -- marked format whatever is broken off
  pub seen_marked : marked_of f ≡ true
      → HandsOutBy (ready (letter_of f)) (words_given answers) (finished_reports f (sent run))
  seen_marked m = rw line (followed.followed_marked f (sent run) (going_after b nothing events) sound.0 sound.1 m)

  -- and in every format where nothing is, as when the host sends no byte
  pub seen_unbroken : Unbroken (sent run)
      → HandsOutBy (ready (letter_of f)) (words_given answers) (finished_reports f (sent run))
  seen_unbroken u = rw line (followed.followed_unbroken f (sent run) (going_after b nothing events) sound.0 sound.1 u)

  pub seen_without_host : no_host events ≡ true
      → HandsOutBy (ready (letter_of f)) (words_given answers) (finished_reports f (sent run))
  seen_without_host quiet = seen_unbroken (again.no_host_unbroken b nothing events (streams run) quiet)

  -- a fresh reader likewise, in U, T and W from the first silence on
  pub fresh_seen_marked : marked_of f ≡ true
      → HandsOut f (words_given answers) (finished_reports f (sent run))
  fresh_seen_marked m = rw line (followed.fresh_followed_marked f (sent run) (going_after b nothing events) sound.0 sound.1 m)

  pub fresh_seen : (front rest : List (Passage Message))
      → sent run ≡ front ++ (silent ∷ rest)
      → marked_of f ≡ false
      → Unpaused front
      → Unbroken rest
      → HandsOut f (words_given answers) (finished_reports f rest)
  fresh_seen front rest is m p u = rw line (followed.fresh_followed f (sent run) (going_after b nothing events) sound.0 sound.1 front rest is m p u)

  -- so each state that was shown is seen, in order, as the format carries it: in V without M
  pub each_seen : Sub (map (buttons_in f) (shown run)) (buttons_of (finished_reports f (sent run)))
  each_seen = shown_seen f (sent run)
