-- Lines with replies in any number of places damaged, and what a fresh reader that is told of each reply hands out:
-- all, the last, or some of the finished reports.
use Rattle.std.specs.Prelude.{ℕ, ◌≡◌, Bool, true, false, List, [], ◌∷◌, ◌++◌}
use Rattle.frames.specs.Words.{break, silence}
use Rattle.frames.specs.Passages.{Passage, silent, Unbroken, Unpaused, Sub}
use Rattle.wire.specs.Line.{marked_of}
use Rattle.wire.specs.Messages.{Message, finished_reports}
use Rattle.wire.specs.declared.Report.{Report}
use Rattle.wire.specs.declared.Format.{Format}
use Rattle.tellings.specs.Items.{Item, word, as_items}
use Rattle.tellings.specs.Lines.{HandsOut}

-- `ShownItems marked left items`: what is left of items on which all damage shows, in a format with a marked first byte
-- or without. An item stays; or a silence is left out; or a stretch of any words is lost, with a 256 in its place. The
-- stretch may be empty, so that a break may come in anywhere, in the middle of a reply too. No byte comes in, and no
-- byte and no break goes without a 256. A silence comes in only in a marked format. Tellings are the host's own: all
-- stay, and none comes in.
pub data ShownItems (marked : Bool) : List Item → List Item → Type 0 where
  whole : ShownItems marked [] []
  stays : {i : Item} {left items : List Item} → ShownItems marked left items → ShownItems marked (i ∷ left) (i ∷ items)
  unheard : {left items : List Item} → ShownItems marked left items → ShownItems marked left (word silence ∷ items)
  scar : (lost : List ℕ) {left items : List Item} → ShownItems marked left items → ShownItems marked (word break ∷ left) (as_items lost ++ items)
  comes_in : {left items : List Item} → marked ≡ true → ShownItems marked left items → ShownItems marked (word silence ∷ left) items

-- What a fresh reader hands out of the passages of a line that is not damaged: in a marked format the finished reports;
-- in U, T and W those behind the first silence, where nothing was broken off since. "A broken reply counts [..] as a
-- broken-off report".
pub data Followed (f : Format) (passages : List (Passage Message)) : List Report → Type 0 where
  marked : marked_of f ≡ true → Followed f passages (finished_reports f passages)
  since : (front rest : List (Passage Message)) → marked_of f ≡ false
      → passages ≡ front ++ (silent ∷ rest)
      → Unpaused front
      → Unbroken rest
      → Followed f passages (finished_reports f rest)

-- a fresh reader of f, given the items, hands out, one by one and in calls, reports that are some of these, or all, in
-- their order
pub record TrueOf (f : Format) (items : List Item) (sent : List Report) : Type 0 where
  pub found : List Report
  pub hands_out : HandsOut f items found
  pub among : Sub found sent
