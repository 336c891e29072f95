-- A box that is polled, with space, `f`, `t` and 05H: what a fresh reader that is told of each reply hands out of what
-- it sends.
use Prim.Native.Nat.{ℕ, suc, ◌+◌}
use mathlib.Core.Path.{◌≡◌}
use mathlib.Core.Bool.{true}
use mathlib.Core.List.{List, ◌∷◌, ◌++◌}
use lib.ListN.{length}
use Rattle.frames.specs.Words.{silence}
use Rattle.frames.specs.Passages.{Passage, silent, finished, UnderWay, nothing, Unbroken, passage_words, Sound, SoundPart}
use Rattle.wire.specs.Line.{size_of, marked_of}
use Rattle.wire.specs.Holds.{carried}
use Rattle.wire.specs.Messages.{Latched, Message, report, message_bytes, finished_reports}
use Rattle.wire.specs.declared.Report.{Report}
use Rattle.wire.specs.declared.Format.{Format}
use Rattle.reader.specs.DamagedLines.{Given}
use Rattle.ballbox.specs.declared.BallBox.{BallBox}
use Rattle.ballbox.specs.declared.Event.{Event}
use Rattle.ballbox.specs.declared.Stepped.{Stepped}
use Rattle.history.specs.Runs.{RunPromise}
use Rattle.history.specs.History.{passages_of, going_after}
use Rattle.history.specs.Carried.{SetWith}
use Rattle.history.proofs.Asking.{hosted_sound}
use Rattle.tellings.specs.Items.{Item, word, as_items, words_in}
use Rattle.tellings.specs.Lines.{line_items, part_items, HandsOut, HandsOutAt}
use Rattle.tellings.specs.Damage.{ShownItems, Followed, TrueOf}
use Rattle.tellings.specs.Runs.{only_asks_or_tells, items_given}
use Rattle.tellings.proofs.Passed.{IsReply, HeldOrReply}
use Rattle.tellings.proofs.Answering.{with_replies}
use Rattle.tellings.proofs.Runs.{run_items}
use Rattle.tellings.proofs.Shown as shown
use Rattle.tellings.proofs.Spared as spared

module _ (f : Format) (b : BallBox) (events : List Event) (answers : List Stepped) (set : SetWith IsReply f b nothing) (asked : only_asks_or_tells events ≡ true)
    (permitted : RunPromise b events answers) where
  abbrev sent : List (Passage Message)
  sent = passages_of b nothing events

  abbrev going : UnderWay Message
  going = going_after b nothing events

  sound : Sound message_bytes (HeldOrReply f) sent × SoundPart message_bytes (HeldOrReply f) going
  sound = hosted_sound with_replies f b nothing events asked set

  as_told : items_given events answers ≡ line_items sent ++ part_items going
  as_told = run_items f events b nothing answers asked set permitted

  -- as it was sent
  pub handed_out_lem : {found : List Report} → Followed f sent found → HandsOut f (items_given events answers) found
  handed_out_lem follows = rw as_told (shown.followed f sent going sound.0 sound.1 follows)

  -- and where all damage shows
  pub true_where_damage_shows : {front : List ℕ} {rest : List Item} → Given front → ShownItems (marked_of f) rest (as_items front ++ items_given events answers)
      → TrueOf f rest (finished_reports f sent)
  true_where_damage_shows {front} in_front d = shown.shown_true f sent going sound.0 sound.1 in_front (rw as_told at d)

  -- where a finished report r of which every byte stays is handed out, whatever is left before it and behind it; i is
  -- the place of the word that ends it, among the words
  module _ {front : List ℕ} (in_front : Given front) (before : List (Passage Message)) (r : Latched) (after : List (Passage Message)) (is : sent ≡ before ++ (finished (report r) ∷ after))
      {late : List Item} (behind : ShownItems (marked_of f) late (line_items after ++ part_items going)) where
    pub stays_marked : {early : List Item} → marked_of f ≡ true → ShownItems (marked_of f) early (as_items front ++ line_items before)
        → (i : ℕ) → suc i ≡ length (words_in early) + size_of f
        → HandsOutAt f (early ++ (as_items (message_bytes (report r)) ++ late)) i (carried f r.report)
    stays_marked = spared.spared_marked f before r after going (rw is at sound.0) sound.1 in_front behind

    pub stays_behind_a_silence : {early : List Item} (ahead quietly : List (Passage Message)) → before ≡ ahead ++ (silent ∷ quietly) → Unbroken quietly
        → ShownItems (marked_of f) early (as_items front ++ line_items ahead)
        → (i : ℕ) → suc i ≡ length (words_in early) + suc (length (passage_words message_bytes quietly)) + size_of f
        → HandsOutAt f (early ++ (word silence ∷ line_items quietly ++ (as_items (message_bytes (report r)) ++ late))) i (carried f r.report)
    stays_behind_a_silence = spared.spared_unmarked f before r after going (rw is at sound.0) sound.1 in_front behind
