-- From the press to the save where the host polls: it asks the box with space, `f`, `t` and 05H too, and the reader is
-- told of each. From the public step of the box, over the line, through the public told reader, to the public watch;
-- for all answers that their promises permit.
use Rattle.std.specs.Prelude.{ℕ, suc, ◌+◌, ◌≤◌, ◌≡◌, true, List, [], ◌∷◌, ◌++◌, length}
use Rattle.std.proofs.Common.{◌∙◌, arith}
use Rattle.frames.specs.Words.{silence}
use Rattle.frames.specs.Passages.{Passage, silent, finished, Unbroken, passage_words}
use Rattle.wire.specs.Line.{letter_of, size_of, marked_of}
use Rattle.wire.specs.Holds.{carried}
use Rattle.wire.specs.Messages.{Latched, Message, report, message_bytes, finished_reports}
use Rattle.wire.specs.Buttons.{Button, is_down, CarriedBy}
use Rattle.wire.specs.declared.Report.{Report}
use Rattle.wire.specs.declared.Format.{Format}
use Rattle.reader.specs.Counts.{handed_out}
use Rattle.ballbox.specs.Presses.{remembered}
use Rattle.ballbox.specs.Commands.{is_stream}
use Rattle.ballbox.specs.declared.BallBox.{BallBox}
use Rattle.ballbox.specs.declared.Event.{Event}
use Rattle.ballbox.specs.declared.Stepped.{Stepped}
use Rattle.history.specs.Presses.{made, none_empties, never_ninth, box_after}
use Rattle.replies.specs.Promises.{NewToldReader, FreshPromise}
use Rattle.tellings.specs.Items.{Item, word, as_items, words_in, Done, ItemsPromise, own_answers_of}
use Rattle.tellings.specs.Lines.{line_items, part_items, HandsOut, HandsOutAt}
use Rattle.tellings.specs.Damage.{ShownItems, Followed, TrueOf}
use Rattle.tellings.specs.Runs.{items_given}
use Rattle.tellings.proofs.Shown.{followed_some}
use Rattle.tellings.proofs.Polled as polled
use Rattle.saves.specs.State.{watching, unaware}
use Rattle.saves.specs.Promises.{HeardAll, times_down}
use Rattle.saves.specs.declared.Told.{Told}
use Rattle.saves.proofs.Hearing as hearing
use Rattle.demands.specs.Demand3.{sent, still_going, Front, front_given}
use Rattle.demands.specs.Replies.{Run, set_box, setting}
use Rattle.demands.specs.Saves.{Begins, behind_a_letter, TellsAtMost, some_made, all_seen}

module _ {f : Format} {b : BallBox} {a : Stepped} {events : List Event} {answers : List Stepped} (run : Run f b a events answers) where
  begins : Begins f a.next
  begins = behind_a_letter f b a run.good run.awake run.set

  -- A fresh reader that is told of each reply hands out, one by one and in calls, in a marked format the finished
  -- reports; in U, T and W those behind the first silence, where nothing was broken off since.
  pub handed_out_lem : {found : List Report} → Followed f (sent a events) found → HandsOut f (items_given events answers) found
  handed_out_lem = polled.handed_out_lem f a.next events answers (set_box run) run.asked run.permitted

  -- Where all damage shows, in replies too: every report that it hands out is a finished report as the box sent it, in
  -- the order sent.
  pub true_where_damage_shows : {front : List ℕ} {left : List Item} → Front a front
      → ShownItems (marked_of f) left (as_items front ++ items_given events answers)
      → TrueOf f left (finished_reports f (sent a events))
  true_where_damage_shows in_front = polled.true_where_damage_shows f a.next events answers (set_box run) run.asked run.permitted
      (front_given (setting run) in_front)

  -- And a finished report r of which every byte stays is handed out, whatever is left of the items before it, `early`,
  -- and behind it, `late`; i is the place of the word that ends it, counted among the words.
  module _ {front : List ℕ} (in_front : Front a front)
      (before : List (Passage Message)) (r : Latched) (after : List (Passage Message)) (is : sent a events ≡ before ++ (finished (report r) ∷ after))
      {late : List Item} (behind : ShownItems (marked_of f) late (line_items after ++ part_items (still_going a events))) where
    -- in the four formats with a marked first byte
    pub stays_marked : {early : List Item} → marked_of f ≡ true
        → ShownItems (marked_of f) early (as_items front ++ line_items before)
        → (i : ℕ) → suc i ≡ length (words_in early) + size_of f
        → HandsOutAt f (early ++ (as_items (message_bytes (report r)) ++ late)) i (carried f r.report)
    stays_marked =
        polled.stays_marked f a.next events answers (set_box run) run.asked run.permitted (front_given (setting run) in_front) before r after is behind

    -- in every format, where a silence before it stays, and what stands between, with nothing broken off
    pub stays_behind_a_silence : {early : List Item} (ahead quietly : List (Passage Message)) → before ≡ ahead ++ (silent ∷ quietly) → Unbroken quietly
        → ShownItems (marked_of f) early (as_items front ++ line_items ahead)
        → (i : ℕ) → suc i ≡ length (words_in early) + suc (length (passage_words message_bytes quietly)) + size_of f
        → HandsOutAt f (early ++ (word silence ∷ line_items quietly ++ (as_items (message_bytes (report r)) ++ late))) i (carried f r.report)
    stays_behind_a_silence =
        polled.stays_behind_a_silence f a.next events answers (set_box run) run.asked run.permitted
        (front_given (setting run) in_front) before r after is behind

  module _ (button : Button) (c : CarriedBy f (is_down button)) (n : NewToldReader) (fresh : FreshPromise (letter_of f) n) (done : List Done) where
    -- Never a save that nobody made: its reports go to a watch, which tells that a button went down no more often than
    -- it was pressed.
    pub no_save_unmade : {found : List Report} → Followed f (sent a events) found
        → ItemsPromise n.reader (items_given events answers) done
        → TellsAtMost (made (is_down button) a.next events) button a.next.settings.buttons (handed_out (own_answers_of done))
    no_save_unmade {found} follows q = rw ((handed_out_lem follows).by_steps n done fresh q) (some_made begins events button c found (followed_some follows))

    -- nor a second one where all damage shows
    pub never_a_second_save : {front : List ℕ} {left : List Item} → Front a front
        → ShownItems (marked_of f) left (as_items front ++ items_given events answers)
        → ItemsPromise n.reader left done
        → TellsAtMost (made (is_down button) a.next events) button a.next.settings.buttons (handed_out (own_answers_of done))
    never_a_second_save in_front d q =
        let t = true_where_damage_shows in_front d in
        rw (t.hands_out.by_steps n done fresh q) (some_made begins events button c t.found t.among)

    -- As many saves as presses: the box is in a stream mode, nothing empties the memory, no ninth change comes, and all
    -- states have been shown. The watch was told the buttons at the start.
    module _ (stream : is_stream a.next.settings.mode ≡ true) (keeps : none_empties events ≡ true) (never : never_ninth a.next events ≡ true)
        (shown : remembered (box_after a.next events).memory ≡ [])
        (follows : Followed f (sent a events) (finished_reports f (sent a events)))
        (q : ItemsPromise n.reader (items_given events answers) done) (told : List Told) where
      pub as_many_saves : HeardAll (watching a.next.settings.buttons) (handed_out (own_answers_of done)) told
          → times_down button told ≡ made (is_down button) a.next events
      as_many_saves h =
          let is = (handed_out_lem follows).by_steps n done fresh q in
          hearing.heard_known button a.next.settings.buttons (finished_reports f (sent a events)) told (rw is at h)
          ∙ all_seen begins events button c stream keeps never shown

      -- one that was not told them misses one press at most, that of the first report
      pub one_missed_at_most : HeardAll unaware (handed_out (own_answers_of done)) told → made (is_down button) a.next events ≤ suc (times_down button told)
      one_missed_at_most h =
          let is = (handed_out_lem follows).by_steps n done fresh q in
          let near = (hearing.fresh_near (is_down button) a.next.settings.buttons (finished_reports f (sent a events))).1 in
          omega (
            arith,
            near,
            hearing.heard_fresh button (finished_reports f (sent a events)) told (rw is at h),
            all_seen begins events button c stream keeps never shown,
          )
