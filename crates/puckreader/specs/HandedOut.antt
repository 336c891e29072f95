-- What is handed out of a line of the VSXXX, as sent or with a stretch replaced: by steps, and by a long read with room.
use Rattle.std.specs.Prelude.{ℕ, suc, ◌+◌, ◌*◌, ◌≤◌, ◌≡◌, true, List, ◌++◌, length, take, drop, get_or, ℤ}
use Rattle.frames.specs.Passages.{Passage, UnderWay, Sub, passage_words, part_words, finished_by, Sound, SoundPart}
use Rattle.frames.specs.Words.{line_words}
use Rattle.wire.specs.Numbers.{success}
use Rattle.vsxxx.specs.Reports.{PuckReport, movement, self_test, six_of, PuckMessage, puck_bytes, HeldByPuck, shown_by_puck}
use Rattle.puckreader.specs.State.{PuckRead}
use Rattle.puckreader.specs.Line.{PuckReading, handed_out, numbers}
use Rattle.puckreader.specs.Promises.{FreshPromise, ReadPromise}
use Rattle.puckreader.specs.Runs.{StepsPromise, answers}
use Rattle.puckreader.specs.declared.PuckReader.{PuckReader}
use Rattle.puckreader.specs.declared.PuckAnswer.{PuckAnswer}
use Rattle.puckreader.specs.declared.PuckAnswer.TheVariants.{Nothing, Movement, Test}

-- the answer that hands out a report
abbrev pub handing : PuckReport → PuckAnswer
handing (movement r) = Movement r
handing (self_test t) = Test t

-- a long read that took every word of a line and wrote the reports found
pub record Took (words : List ℕ) (found : List PuckReport) (before : List ℤ) (b : PuckReading) (after : List ℤ) : Type 0 where
  pub refusal : b.refusal ≡ success
  pub taken : b.taken ≡ length words
  pub reports : b.reports ≡ length found
  pub written : after ≡ numbers found ++ drop (6 * length found) before

-- The reader r, given the words, hands out these reports, in this order, and no others: by steps, and by a long read with room for them.
pub record HandsOutBy (r : PuckReader) (words : List ℕ) (found : List PuckReport) : Type 0 where
  pub by_steps : (steps : List PuckRead) → StepsPromise r words steps → handed_out (answers steps) ≡ found
  pub by_read : (before after : List ℤ) (b : PuckReading) → ReadPromise r words before b after → 6 * length found ≤ length before
      → Took words found before b after

-- a fresh reader does
abbrev pub HandsOut : List ℕ → List PuckReport → Type 0
HandsOut words found = (r : PuckReader) → FreshPromise r → HandsOutBy r words found

-- the reader r, given the words, hands out, by steps and by a long read, reports that are some of these, or all, in their order
pub record TrueBy (r : PuckReader) (words : List ℕ) (sent : List PuckReport) : Type 0 where
  pub found : List PuckReport
  pub hands_out : HandsOutBy r words found
  pub among : Sub found sent

-- A fresh reader, given the words, answers word i (the first being 0) by the report p; and a long read with room for
-- all that is found takes every word and writes what is found, p's six numbers behind those of the reports found before
-- word i.
pub record HandsOutAt (words : List ℕ) (i : ℕ) (p : PuckReport) : Type 0 where
  pub by_steps : (r : PuckReader) (steps : List PuckRead) → FreshPromise r → StepsPromise r words steps → get_or (answers steps) i Nothing ≡ handing p
  pub by_read : (r : PuckReader) (steps : List PuckRead) (before after : List ℤ) (b : PuckReading)
      → FreshPromise r
      → StepsPromise r words steps
      → ReadPromise r words before b after
      → 6 * length (handed_out (answers steps)) ≤ length before
      → Took words (handed_out (answers steps)) before b after
      × (take 6 (drop (6 * length (handed_out (take i (answers steps)))) after) ≡ six_of p)

-- passages of the device's messages, and what is under way behind them
abbrev pub SoundLine : List (Passage PuckMessage) → Type 0
SoundLine passages = Sound puck_bytes HeldByPuck passages

abbrev pub SoundGoing : UnderWay PuckMessage → Type 0
SoundGoing going = SoundPart puck_bytes HeldByPuck going

-- the finished reports of passages, of either kind, in the order sent
abbrev pub finished_reports : List (Passage PuckMessage) → List PuckReport
finished_reports passages = finished_by shown_by_puck passages

-- A line, `passages` and then `going`; of its words the stretch `old` was replaced by the legal words `new`.
pub record Replaced (passages : List (Passage PuckMessage)) (going : UnderWay PuckMessage) (pre old new post : List ℕ) : Type 0 where
  pub sound : SoundLine passages
  pub sound_going : SoundGoing going
  pub as_sent_lem : passage_words puck_bytes passages ++ part_words puck_bytes going ≡ pre ++ (old ++ post)
  pub legal : line_words new ≡ true

-- the stretch `old`, behind `pre`, ends before the words of what stands behind these passages
abbrev pub Within : List (Passage PuckMessage) → List ℕ → List ℕ → Type 0
Within before pre old = length pre + length old ≤ length (passage_words puck_bytes before)

-- i is the place of the word that ends the report m behind these passages, when `old` was replaced by `new`
abbrev pub EndsAt : List (Passage PuckMessage) → PuckMessage → List ℕ → List ℕ → ℕ → Type 0
EndsAt before m old new i = suc i + length old ≡ length (passage_words puck_bytes before) + length (puck_bytes m) + length new
