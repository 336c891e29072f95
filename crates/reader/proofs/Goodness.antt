-- No reader that we make is ever refused: a fresh one is good, and every step, read and telling of a good one gives a good one of the same format.
use Prim.Native.Nat.{ℕ}
use mathlib.Core.Path.{◌≡◌, refl, ◌∙◌, ap}
use mathlib.Core.Bool.{true}
use mathlib.Core.List.{List}
use lib.ListN.{length}
use lib.IntN.{ℤ}
use Rattle.fold.specs.Fold.{Machine, run}
use Rattle.fold.specs.Calls.{line}
use Rattle.fold.proofs.Laws.{stays}
use Rattle.fold.proofs.Calls.{call_line}
use Rattle.wire.specs.Line.{letter_of, named_by, known}
use Rattle.wire.specs.declared.Format.TheVariants.{FiveByte}
use Rattle.reader.specs.Good.{good}
use Rattle.reader.specs.Rules.{word_of}
use Rattle.reader.specs.Counts.{written_in}
use Rattle.reader.specs.Line.{Reading, Long, reads_line}
use Rattle.reader.specs.Telling.{Answers, Told, told_in, tells_line}
use Rattle.reader.specs.Promises.{FreshPromise, StepPromise, ReadPromise, AnswersPromise, fresh_of, step_of, read_of, answers_of}
use Rattle.reader.specs.declared.Reader.{Reader}
use Rattle.reader.specs.State.{NewReader, Read}
use Rattle.reader.specs.declared.Answer.{Answer}
use Rattle.numbers.proofs.Choices.{cases}
use Rattle.reader.proofs.Word.{word_format}
use Rattle.reader.proofs.Keeps.{fresh_good, word_good}
use Rattle.reader.proofs.Counted.{lawful, told_lawful}
use Rattle.reader.proofs.Permitted.{step_is}

-- to a good reader a step is the word
pub step_word : (r : Reader) (w : ℕ) → good r ≡ true → step_of r w ≡ word_of r w
unfolding step_of
step_word r w g = rw g

-- and a read is the line
pub read_line : (r : Reader) (words : List ℕ) (out : List ℤ) → good r ≡ true → read_of r words out ≡ line reads_line r words out
read_line = call_line reads_line lawful

pub answers_line : (r : Reader) (words : List ℕ) (out : List ℤ) → good r ≡ true → answers_of r words out ≡ line tells_line r words out
answers_line = call_line tells_line told_lawful

pub fresh_is_good : (letter : ℕ) (a : NewReader) → FreshPromise letter a → good a.reader ≡ true
unfolding fresh_of known named_by
fresh_is_good letter a e =
    rw e
    (cases (λ (n : NewReader). good n.reader ≡ true) (known letter)
    (fresh_good letter) (λ _. fresh_good (letter_of FiveByte) refl))

pub step_stays_good : (r : Reader) (w : ℕ) (s : Read) → good r ≡ true → StepPromise r w s → (good s.next ≡ true) × (s.next.format ≡ r.format)
step_stays_good r w s g e = let i = step_is r w s e ∙ step_word r w g in (rw i (word_good r g w), rw i (word_format r w))

-- over a line, whatever the answers write
abbrev pub writing : (Answer → List ℤ) → Machine Reader Answer ℤ
writing writes = record { refusal = λ r w. (word_of r w).refusal; next = λ r w. (word_of r w).next; answer = λ r w. (word_of r w).answer; writes = writes }

run_stays_good : (writes : Answer → List ℤ) (words : List ℕ) (r : Reader) (room : ℕ) → good r ≡ true → let next = (run (writing writes) r words room).next in (good next ≡ true) × (next.format ≡ r.format)
run_stays_good writes words r room g =
    stays (writing writes) (λ (q : Reader). (good q ≡ true) × (q.format ≡ r.format)) (λ q w h. (word_good q h.0 w, word_format q w ∙ h.1)) words r room (g, refl)

pub read_stays_good : (r : Reader) (words : List ℕ) (out : List ℤ) (a : Reading) (after : List ℤ) → good r ≡ true → ReadPromise r words out a after → (good a.next ≡ true) × (a.next.format ≡ r.format)
unfolding line
read_stays_good r words out a after g e = rw (ap (λ (l : Long). l.next) (e ∙ read_line r words out g)) (run_stays_good written_in words r (length out) g)

pub answers_stay_good : (r : Reader) (words : List ℕ) (out : List ℤ) (a : Answers) (after : List ℤ) → good r ≡ true → AnswersPromise r words out a after → (good a.next ≡ true) × (a.next.format ≡ r.format)
unfolding line
answers_stay_good r words out a after g e = rw (ap (λ (t : Told). t.next) (e ∙ answers_line r words out g)) (run_stays_good told_in words r (length out) g)
