-- What stands on a line: silences, and reports of any kind K, each whole or broken off; and at the end what is under way.
use Rattle.std.specs.Prelude.{ℕ, ◌+◌, ◌<◌, ◌≤◌, List, [], ◌∷◌, ◌++◌, length, take}
use Rattle.frames.specs.Words.{break, silence}

-- a silence; a report whose last byte has gone; a report of which n bytes, from 0, had gone when 256 went out
pub data Passage (K : Type 0) : Type 0 where
  silent : Passage K
  finished : K → Passage K
  broken : ℕ → K → Passage K

-- at the end of a line: nothing, or the first n bytes of a report
pub data UnderWay (K : Type 0) : Type 0 where
  nothing : UnderWay K
  first : ℕ → K → UnderWay K

-- no passage is broken off
abbrev pub Unbroken : {K : Type 0} → List (Passage K) → Type 0
Unbroken [] = Unit {0}
Unbroken (silent ∷ passages) = Unbroken passages
Unbroken (finished k ∷ passages) = Unbroken passages
Unbroken (broken n k ∷ passages) = ⊥

-- no silence is among the passages
abbrev pub Unpaused : {K : Type 0} → List (Passage K) → Type 0
Unpaused [] = Unit {0}
Unpaused (silent ∷ passages) = ⊥
Unpaused (finished k ∷ passages) = Unpaused passages
Unpaused (broken n k ∷ passages) = Unpaused passages

-- the finished reports of passages, in the order sent, each as `shows` has it
abbrev pub finished_in : {K R : Type 0} → (K → List R) → Passage K → List R
finished_in shows silent = []
finished_in shows (finished k) = shows k
finished_in shows (broken n k) = []

abbrev pub finished_by : {K R : Type 0} → (K → List R) → List (Passage K) → List R
finished_by shows [] = []
finished_by shows (p ∷ passages) = finished_in shows p ++ finished_by shows passages

-- what the reports tell of which a byte may have gone, finished or broken off; and what the one tells that is under way
abbrev pub begun_in : {K X : Type 0} → (K → List X) → Passage K → List X
begun_in tells silent = []
begun_in tells (finished k) = tells k
begun_in tells (broken n k) = tells k

abbrev pub begun_by : {K X : Type 0} → (K → List X) → List (Passage K) → List X
begun_by tells [] = []
begun_by tells (p ∷ passages) = begun_in tells p ++ begun_by tells passages

abbrev pub going_by : {K X : Type 0} → (K → List X) → UnderWay K → List X
going_by tells nothing = []
going_by tells (first n k) = tells k

-- `Sub left all`: what is left, in its order, of bytes, reports or states of which some, neighbours or not, or none, were taken out
pub data Sub {A : Type 0} : List A → List A → Type 0 where
  none : Sub [] []
  gone : {a : A} {left all : List A} → Sub left all → Sub left (a ∷ all)
  stays : {a : A} {left all : List A} → Sub left all → Sub (a ∷ left) (a ∷ all)

-- the bytes of each kind of report
module _ {K : Type 0} (bytes : K → List ℕ) where
  -- the words of a passage, of passages one after the other, and of what is under way
  abbrev pub words_of : Passage K → List ℕ
  words_of silent = silence ∷ []
  words_of (finished k) = bytes k
  words_of (broken n k) = take n (bytes k) ++ (break ∷ [])

  abbrev pub passage_words : List (Passage K) → List ℕ
  passage_words [] = []
  passage_words (p ∷ passages) = words_of p ++ passage_words passages

  abbrev pub part_words : UnderWay K → List ℕ
  part_words nothing = []
  part_words (first n k) = take n (bytes k)

  -- A line of which one report lost bytes, neighbours or not, and nothing else: what was sent, the words that are left, and the passages other than
  -- that report. Of a finished report one byte or more is missing; of a broken-off one, or of the one that is under way, any number is, or none.
  pub data Lost : List (Passage K) → UnderWay K → List ℕ → List (Passage K) → Type 0 where
    of_finished : (before after : List (Passage K)) (going : UnderWay K) (k : K) (left : List ℕ) → Sub left (bytes k) → length left < length (bytes k)
        → Lost (before ++ (finished k ∷ after)) going (passage_words before ++ (left ++ (passage_words after ++ part_words going))) (before ++ after)
    of_broken : (before after : List (Passage K)) (going : UnderWay K) (n : ℕ) (k : K) (left : List ℕ) → Sub left (take n (bytes k))
        → Lost (before ++ (broken n k ∷ after)) going (passage_words before ++ (left ++ (break ∷ (passage_words after ++ part_words going)))) (before ++ after)
    of_going : (passages : List (Passage K)) (n : ℕ) (k : K) (left : List ℕ) → Sub left (take n (bytes k))
        → Lost passages (first n k) (passage_words passages ++ left) passages

  -- The stretch `old`, behind the words `pre`, lies within the bytes of one report of a line, a finished one, one that was broken off, or the one
  -- that is under way; and the passages other than that report.
  pub data InOne (pre old : List ℕ) : List (Passage K) → UnderWay K → List (Passage K) → Type 0 where
    in_finished_lem : (before after : List (Passage K)) (going : UnderWay K) (k : K)
        → length (passage_words before) ≤ length pre
        → length pre + length old ≤ length (passage_words before) + length (bytes k)
        → InOne pre old (before ++ (finished k ∷ after)) going (before ++ after)
    in_broken_lem : (before after : List (Passage K)) (going : UnderWay K) (n : ℕ) (k : K)
        → length (passage_words before) ≤ length pre
        → length pre + length old ≤ length (passage_words before) + length (take n (bytes k))
        → InOne pre old (before ++ (broken n k ∷ after)) going (before ++ after)
    in_going_lem : (passages : List (Passage K)) (n : ℕ) (k : K)
        → length (passage_words passages) ≤ length pre
        → InOne pre old passages (first n k) passages

  -- a line of which each report passes a test; a broken-off one, and the one under way, lack their last byte
  module _ (Test : K → Type 0) where
    abbrev pub Unfinished : ℕ → K → Type 0
    Unfinished n k = Test k × (n < length (bytes k))

    abbrev pub SoundOf : Passage K → Type 0
    SoundOf silent = Unit {0}
    SoundOf (finished k) = Test k
    SoundOf (broken n k) = Unfinished n k

    abbrev pub Sound : List (Passage K) → Type 0
    Sound [] = Unit {0}
    Sound (p ∷ passages) = SoundOf p × Sound passages

    abbrev pub SoundPart : UnderWay K → Type 0
    SoundPart nothing = Unit {0}
    SoundPart (first n k) = Unfinished n k
