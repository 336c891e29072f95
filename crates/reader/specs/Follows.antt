-- A reader that follows a line, and the states of the buttons that it has seen.
use Rattle.std.specs.Prelude.{ℕ, ◌≡◌, true, false, List, ◌∷◌, ◌++◌, map}
use Rattle.frames.specs.Passages.{Passage, silent, Unbroken, Unpaused, Sub}
use Rattle.wire.specs.Line.{letter_of, marked_of}
use Rattle.wire.specs.Messages.{Message, finished_reports}
use Rattle.wire.specs.Buttons.{buttons_of, buttons_in}
use Rattle.wire.specs.declared.Report.{Report}
use Rattle.wire.specs.declared.Format.{Format}
use Rattle.reader.specs.State.{ready, NewReader}
use Rattle.reader.specs.Promises.{FreshPromise}
use Rattle.reader.specs.DamagedLines.{HandsOutBy, HandsOutAt}
use Rattle.reader.specs.declared.Reader.{Reader}

-- A reader that has followed a line of f, and what it has handed out of these passages. It was ready, or fresh in a
-- marked format; where nothing was broken off, it was ready, or fresh and has heard a silence since.
pub data Follows (f : Format) (passages : List (Passage Message)) : Reader → List Report → Type 0 where
  ready_marked : marked_of f ≡ true → Follows f passages (ready (letter_of f)) (finished_reports f passages)
  ready_unbroken : Unbroken passages → Follows f passages (ready (letter_of f)) (finished_reports f passages)
  fresh_marked : (a : NewReader) → FreshPromise (letter_of f) a → marked_of f ≡ true → Follows f passages a.reader (finished_reports f passages)
  fresh_since : (a : NewReader) (front rest : List (Passage Message)) → FreshPromise (letter_of f) a → marked_of f ≡ false
      → passages ≡ front ++ (silent ∷ rest)
      → Unpaused front
      → Unbroken rest
      → Follows f passages a.reader (finished_reports f rest)

-- the reader r, given the words, hands out the reports `before` and then others, which show these states, in order, as
-- f carries them
pub record ShowsStates (f : Format) (r : Reader) (words : List ℕ) (before : List Report) (states : List ℕ) : Type 0 where
  pub since : List Report
  pub hands_out : HandsOutBy r words (before ++ since)
  pub in_order : Sub (map (buttons_in f) states) (buttons_of since)

-- a fresh reader of f, given the words, answers one of them by a report with these buttons, and a long read writes it
pub record SeenAt (f : Format) (words : List ℕ) (state : ℕ) : Type 0 where
  pub place : ℕ
  pub handed : Report
  pub at : HandsOutAt f words place handed
  pub buttons : handed.buttons ≡ state
