-- What is promised of `fresh`, `good`, `step` and `read`. "Tested in that order, where they apply; 0 is success."
use Rattle.std.specs.Prelude.{ℕ, ◌≡◌, Bool, cond, List, [], ◌∷◌, take, ℤ}
use Rattle.fold.specs.Calls.{stopped, with_refusal, call}
use Rattle.wire.specs.Numbers.{bad_state, bad_word, RefusesRightly}
use Rattle.puckreader.specs.State.{PuckRead, fresh, numbers_of}
use Rattle.puckreader.specs.Rules.{refusing, word_of}
use Rattle.puckreader.specs.Good as readers
use Rattle.puckreader.specs.Line.{PuckReading, Long, whole, reads_line}
use Rattle.puckreader.specs.declared.PuckReader.{PuckReader}

abbrev pub FreshPromise : PuckReader → Type 0
FreshPromise r = r ≡ fresh

abbrev pub GoodPromise : PuckReader → Bool → Type 0
GoodPromise r answer = answer ≡ readers.good r

-- "a state that breaks the rules below", 6, before "a line word above 257", 4
unfoldable pub step_of : PuckReader → ℕ → PuckRead
step_of r w = cond (readers.good r) (word_of r w) (refusing bad_state r)

abbrev pub StepRefusal : PuckReader → PuckRead → Type 0
StepRefusal r answer = RefusesRightly (λ (s : PuckRead). s.refusal) (refusing bad_state r ∷ refusing bad_word r ∷ []) answer

-- what a step leaves behind: the number given back, the reader, and the numbers of the answer
pub record Step : Type 0 where
  pub refusal : ℕ
  pub next : PuckReader
  pub numbers : List ℤ

abbrev pub outcome : PuckRead → Step
outcome s = record { refusal = s.refusal; next = s.next; numbers = numbers_of s.answer }

abbrev pub StepPromise : PuckReader → ℕ → PuckRead → Type 0
StepPromise r w answer = outcome answer ≡ outcome (step_of r w)

-- a long read: 6 before all, and then the line
abbrev pub read_of : PuckReader → List ℕ → List ℤ → Long
read_of r words out = call reads_line r words out

abbrev pub ReadPromise : PuckReader → List ℕ → List ℤ → PuckReading → List ℤ → Type 0
ReadPromise r words before answer after = whole answer after ≡ read_of r words before

-- 6 leaves all as it was, with counts of 0; "except 4 in a long read, which returns the reader, reports and counts as they stand before the bad word"
abbrev pub before_bad : PuckReader → List ℕ → List ℤ → PuckReading → Long
before_bad r words out answer = with_refusal bad_word (read_of r (take answer.taken words) out)

abbrev pub ReadRefusal : PuckReader → List ℕ → List ℤ → PuckReading → List ℤ → Type 0
ReadRefusal r words before answer after =
    RefusesRightly (λ (l : Long). l.refusal) (stopped reads_line bad_state r before ∷ before_bad r words before answer ∷ []) (whole answer after)
