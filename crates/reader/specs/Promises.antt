-- What is promised of `Reader::fresh`, `Reader::good`, `Reader::step`, `Reader::read` and `Reader::answers`. "Tested in that order, where they apply; 0 is
-- success."
use Rattle.std.specs.Prelude.{ℕ, ◌≡◌, Bool, cond, List, [], ◌∷◌, take, ℤ}
use Rattle.wire.specs.Line.{letter_of, known}
use Rattle.wire.specs.Numbers.{success, bad_state, bad_letter, bad_word, RefusesRightly}
use Rattle.wire.specs.declared.Format.TheVariants.{FiveByte}
use Rattle.reader.specs.State.{fresh, numbers_of, NewReader, Read}
use Rattle.reader.specs.Good.{good}
use Rattle.reader.specs.Rules.{refusing, word_of}
use Rattle.fold.specs.Calls.{stopped, with_refusal, call}
use Rattle.reader.specs.Line.{Reading, Long, whole, reads_line}
use Rattle.reader.specs.Telling.{Answers, Told, told, tells_line}
use Rattle.reader.specs.declared.Reader.{Reader}

-- "a format letter not in the table", 1; "(1 for a new reader: a fresh one of U)"
abbrev pub new_reader : ℕ → Reader → NewReader
new_reader n r = record { refusal = n; reader = r }

unfoldable pub fresh_of : ℕ → NewReader
fresh_of letter = cond (known letter) (new_reader success (fresh letter)) (new_reader bad_letter (fresh (letter_of FiveByte)))

abbrev pub FreshRefusal : NewReader → Type 0
FreshRefusal answer = RefusesRightly (λ (n : NewReader). n.refusal) (new_reader bad_letter (fresh (letter_of FiveByte)) ∷ []) answer

abbrev pub FreshPromise : ℕ → NewReader → Type 0
FreshPromise letter answer = answer ≡ fresh_of letter

-- `good(self)`
abbrev pub GoodPromise : Reader → Bool → Type 0
GoodPromise r answer = answer ≡ good r

-- "a state that breaks the rules below", 6, before "a line word above 257", 4
unfoldable pub step_of : Reader → ℕ → Read
step_of r w = cond (good r) (word_of r w) (refusing bad_state r)

-- "A refusal returns the old state", and answers nothing
abbrev pub StepRefusal : Reader → Read → Type 0
StepRefusal r answer = RefusesRightly (λ (s : Read). s.refusal) (refusing bad_state r ∷ refusing bad_word r ∷ []) answer

-- what a step leaves behind: the number given back, the reader, and the numbers of the answer
pub record Step : Type 0 where
  pub refusal : ℕ
  pub next : Reader
  pub numbers : List ℤ

abbrev pub outcome : Read → Step
outcome s = record { refusal = s.refusal; next = s.next; numbers = numbers_of s.answer }

abbrev pub StepPromise : Reader → ℕ → Read → Type 0
StepPromise r w answer = outcome answer ≡ outcome (step_of r w)

-- a long read: 6 before all, and then the line
abbrev pub read_of : Reader → List ℕ → List ℤ → Long
read_of r words out = call reads_line r words out

-- 6 leaves all as it was, with counts of 0; "except 4 in a long read, which returns the reader, reports and counts as they stand before the bad word":
-- what the words before it gave, but for the number
abbrev pub before_bad : Reader → List ℕ → List ℤ → Reading → Long
before_bad r words out answer = with_refusal bad_word (read_of r (take answer.taken words) out)

abbrev pub ReadRefusal : Reader → List ℕ → List ℤ → Reading → List ℤ → Type 0
ReadRefusal r words before answer after =
    RefusesRightly (λ (l : Long). l.refusal) (stopped reads_line bad_state r before ∷ before_bad r words before answer ∷ []) (whole answer after)

abbrev pub ReadPromise : Reader → List ℕ → List ℤ → Reading → List ℤ → Type 0
ReadPromise r words before answer after = whole answer after ≡ read_of r words before

-- the answers to a line's words: 6 before all, and then the line
abbrev pub answers_of : Reader → List ℕ → List ℤ → Told
answers_of r words out = call tells_line r words out

-- 6 leaves all as it was, with counts of 0; 4 leaves what the words before it gave, but for the number
abbrev pub told_before_bad : Reader → List ℕ → List ℤ → Answers → Told
told_before_bad r words out answer = with_refusal bad_word (answers_of r (take answer.taken words) out)

abbrev pub AnswersRefusal : Reader → List ℕ → List ℤ → Answers → List ℤ → Type 0
AnswersRefusal r words before answer after =
    RefusesRightly (λ (t : Told). t.refusal) (stopped tells_line bad_state r before ∷ told_before_bad r words before answer ∷ []) (told answer after)

abbrev pub AnswersPromise : Reader → List ℕ → List ℤ → Answers → List ℤ → Type 0
AnswersPromise r words before answer after = told answer after ≡ answers_of r words before
