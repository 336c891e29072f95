-- Runs of the reader's C functions, with whatever answers their promises permit: what a reader hands out. A run of the box's is a run of the box.
use Rattle.std.specs.Prelude.{ℕ, ◌*◌, ◌≤◌, ◌≡◌, cond, List, [], ◌∷◌, ◌++◌, eqb, ℤ, length, take, drop}
use Rattle.wire.specs.Line.{letter_of}
use Rattle.wire.specs.Numbers.{success}
use Rattle.wire.specs.declared.Report.{Report}
use Rattle.wire.specs.declared.Format.{Format}
use Rattle.reader.specs.State.{five_of}
use Rattle.reader.specs.Counts.{numbers}
use Rattle.istrolf.specs.Promises.{FreshReaderPromise, ReaderStepPromise, ReadPromise}
use Rattle.istrolf.specs.declared.HeldReader.{HeldReader}
use Rattle.istrolf.specs.declared.FreshReader.{FreshReader}
use Rattle.istrolf.specs.declared.ReadWord.{ReadWord}
use Rattle.istrolf.specs.declared.ReadWords.{ReadWords}

-- words to a reader, one after the other
unfoldable pub StepsPromise : HeldReader → List ℕ → List ReadWord → Type 0
StepsPromise h [] [] = Unit
StepsPromise h [] (s ∷ steps) = ⊥
StepsPromise h (w ∷ words) [] = ⊥
StepsPromise h (w ∷ words) (s ∷ steps) = ReaderStepPromise h w s × StepsPromise s.next words steps

-- the reports that they hand out
abbrev pub handed_out : List ReadWord → List Report
handed_out [] = []
handed_out (s ∷ steps) = cond (eqb s.reports 1) (s.report ∷ handed_out steps) (handed_out steps)

-- a long read that took every word and wrote the reports found: no refusal, the counts, and every number of the lent slice after it
pub record Took (words : List ℕ) (found : List Report) (before : List ℤ) (b : ReadWords) (after : List ℤ) : Type 0 where
  pub refusal : b.refusal ≡ success
  pub taken : b.taken ≡ length words
  pub reports : b.reports ≡ length found
  pub written : after ≡ numbers found ++ drop (5 * length found) before

-- A reader, given the words, hands out these reports, in this order, and no others: by steps, and by a long read with room for them.
pub record HandsOutBy (h : HeldReader) (words : List ℕ) (found : List Report) : Type 0 where
  pub by_steps : (steps : List ReadWord) → StepsPromise h words steps → handed_out steps ≡ found
  pub by_read : (before after : List ℤ) (b : ReadWords) → ReadPromise h words before b after → 5 * length found ≤ length before
      → Took words found before b after

-- a fresh reader of f does
abbrev pub HandsOut : Format → List ℕ → List Report → Type 0
HandsOut f words found = (a : FreshReader) → FreshReaderPromise (letter_of f) a → HandsOutBy a.reader words found

-- the report that answers word i, if one does
abbrev pub handed_out_at : ℕ → List ReadWord → List Report
handed_out_at i steps = handed_out (take 1 (drop i steps))

-- A fresh reader of f, given the words, answers word i (the first being 0) by the report p; and a long read with room for all that is found takes
-- every word and writes what is found, p's five numbers behind those of the reports found before word i.
pub record HandsOutAt (f : Format) (words : List ℕ) (i : ℕ) (p : Report) : Type 0 where
  pub by_steps : (a : FreshReader) (steps : List ReadWord) → FreshReaderPromise (letter_of f) a → StepsPromise a.reader words steps
      → handed_out_at i steps ≡ p ∷ []
  pub by_read : (a : FreshReader) (steps : List ReadWord) (before after : List ℤ) (b : ReadWords)
      → FreshReaderPromise (letter_of f) a
      → StepsPromise a.reader words steps
      → ReadPromise a.reader words before b after
      → 5 * length (handed_out steps) ≤ length before
      → Took words (handed_out steps) before b after
      × (take 5 (drop (5 * length (handed_out (take i steps))) after) ≡ five_of p)
