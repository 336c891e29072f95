-- What the theorems on lines speak of, as sent and damaged: lines of one format, what is sent on them, what is lost, and what is handed out.
use Rattle.std.specs.Prelude.{ℕ, suc, ◌+◌, ◌*◌, ◌≤◌, ◌≡◌, true, List, [], ◌∷◌, ◌++◌, length, take, drop, get_or, ℤ}
use Rattle.frames.specs.Passages.{Passage, UnderWay, Sub, passage_words, part_words}
use Rattle.frames.specs.Words.{break, line_words}
use Rattle.wire.specs.Line.{letter_of, size_of}
use Rattle.wire.specs.Messages.{Message, message_bytes, SoundIn, SoundEnd}
use Rattle.wire.specs.Numbers.{success}
use Rattle.wire.specs.declared.Report.{Report}
use Rattle.wire.specs.declared.Format.{Format}
use Rattle.reader.specs.State.{ready, five_of, NewReader, Read}
use Rattle.reader.specs.Counts.{handed_out, numbers}
use Rattle.reader.specs.Promises.{FreshPromise, ReadPromise}
use Rattle.reader.specs.Runs.{StepsPromise, answers}
use Rattle.reader.specs.declared.Reader.{Reader}
use Rattle.reader.specs.declared.Answer.TheVariants as answer
use Rattle.reader.specs.Line.{Reading}

-- what the command that sets a box's format itself gives, in front of the line: no word, or 256
pub data Given : List ℕ → Type 0 where
  no_word : Given []
  a_break : Given (break ∷ [])

-- a long read that took every word of a line and wrote the reports found: no refusal, the counts, and every number of the lent slice after it,
-- those of the reports and then its old ones
pub record Took (words : List ℕ) (found : List Report) (before : List ℤ) (b : Reading) (after : List ℤ) : Type 0 where
  pub refusal : b.refusal ≡ success
  pub taken : b.taken ≡ length words
  pub reports : b.reports ≡ length found
  pub written : after ≡ numbers found ++ drop (5 * length found) before

-- The reader r, given the words, hands out these reports, in this order, and no others: by steps, and by a long read with room for them.
pub record HandsOutBy (r : Reader) (words : List ℕ) (found : List Report) : Type 0 where
  pub by_steps : (steps : List Read) → StepsPromise r words steps → handed_out (answers steps) ≡ found
  pub by_read : (before after : List ℤ) (b : Reading) → ReadPromise r words before b after → 5 * length found ≤ length before → Took words found before b after

-- a fresh reader of f does
abbrev pub HandsOut : Format → List ℕ → List Report → Type 0
HandsOut f words found = (a : NewReader) → FreshPromise (letter_of f) a → HandsOutBy a.reader words found

-- A fresh reader of f, given the words, answers word i (the first being 0) by the report p; and a long read with room for all that is found takes
-- every word and writes what is found, p's five numbers behind those of the reports found before word i.
pub record HandsOutAt (f : Format) (words : List ℕ) (i : ℕ) (p : Report) : Type 0 where
  pub by_steps : (a : NewReader) (steps : List Read) → FreshPromise (letter_of f) a → StepsPromise a.reader words steps
      → get_or (answers steps) i answer.Nothing ≡ answer.Report p
  pub by_read : (a : NewReader) (steps : List Read) (before after : List ℤ) (b : Reading)
      → FreshPromise (letter_of f) a
      → StepsPromise a.reader words steps
      → ReadPromise a.reader words before b after
      → 5 * length (handed_out (answers steps)) ≤ length before
      → Took words (handed_out (answers steps)) before b after
      × (take 5 (drop (5 * length (handed_out (take i (answers steps)))) after) ≡ five_of p)

-- A line of the format f, `passages` and then `going`; of its words the stretch `old` was replaced by the legal words `new`; `given` stands in front.
pub record Replaced (f : Format) (passages : List (Passage Message)) (going : UnderWay Message) (given pre old new post : List ℕ) : Type 0 where
  pub sound : SoundIn f passages
  pub sound_going : SoundEnd f going
  pub in_front : Given given
  pub as_sent_lem : passage_words message_bytes passages ++ part_words message_bytes going ≡ pre ++ (old ++ post)
  pub legal : line_words new ≡ true

-- the stretch `old`, behind `pre`, ends before the words of what stands behind these passages
abbrev pub Within : List (Passage Message) → List ℕ → List ℕ → Type 0
Within before pre old = length pre + length old ≤ length (passage_words message_bytes before)

-- i is the place of the word that ends a report of f behind these passages, when `old` was replaced by `new`, with `given` in front of all
abbrev pub EndsAt : Format → List (Passage Message) → List ℕ → List ℕ → List ℕ → ℕ → Type 0
EndsAt f before given old new i = suc i + length old ≡ length given + length (passage_words message_bytes before) + size_of f + length new

-- a reader of f where a line begins: a fresh one, or one that is ready
pub data AtStart (f : Format) : Reader → Type 0 where
  is_fresh : (a : NewReader) → FreshPromise (letter_of f) a → AtStart f a.reader
  is_ready : AtStart f (ready (letter_of f))

-- the reader r, given the words, hands out, by steps and by a long read, reports that are some of these, or all, in their order
pub record TrueBy (r : Reader) (words : List ℕ) (sent : List Report) : Type 0 where
  pub found : List Report
  pub hands_out : HandsOutBy r words found
  pub among : Sub found sent
