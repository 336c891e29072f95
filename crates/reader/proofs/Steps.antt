-- A long read does exactly what the words one by one would do: it takes all line words where the slice has room for their reports. And so does a telling, where it has
-- room for their answers.
use Prim.Native.Nat.{ℕ, suc, ◌*◌, ◌≤◌}
use mathlib.Core.Path.{◌≡◌, refl, sym, ◌∙◌, ap}
use mathlib.Core.Bool.{true}
use mathlib.Core.Logic.{⊎_elim}
use mathlib.Core.List.{List, [], ◌∷◌, ◌++◌}
use native.Mathlib.Omega.{arith}
use lib.ListN.{length, get_or, take, drop, length-map, get_or-eq_default}
use lib.Seq.{take_all}
use lib.Dec.{leb}
use lib.IntN.{ℤ}
use borrow.Author.Tests.{leb-true}
use Rattle.fold.specs.Fold.{ran, written, run, answers_over, state_over}
use Rattle.fold.specs.Calls.{counted, line, UpTo}
use Rattle.fold.proofs.Laws.{over_taken}
use Rattle.fold.proofs.Calls.{places_sum, took_all_lem}
use Rattle.numbers.proofs.Tested.{left, right}
use Rattle.frames.specs.Words.{silence, line_words}
use Rattle.wire.specs.Numbers.{success}
use Rattle.reader.specs.Good.{good}
use Rattle.reader.specs.Rules.{word_of}
use Rattle.reader.specs.Line.{Reading, Long, whole, reads, reads_line}
use Rattle.reader.specs.Telling.{Answers, Told, told_in, tells, tells_line, told}
use Rattle.reader.specs.Counts.{written_in, handed_out, numbers, dropped_among}
use Rattle.reader.specs.Promises.{step_of, ReadPromise, AnswersPromise}
use Rattle.reader.specs.DamagedLines.{Took}
use Rattle.reader.specs.Runs.{steps_of, StepsPromise, answers, reader_after}
use Rattle.reader.specs.declared.Reader.{Reader}
use Rattle.reader.specs.State.{Read}
use Rattle.reader.specs.declared.Answer.{Answer}
use Rattle.reader.proofs.Counted.{lawful, told_lawful, sum_is, numbers_written}
use Rattle.reader.proofs.Keeps.{word_good}
use Rattle.reader.proofs.Permitted.{steps_are}
use Rattle.reader.proofs.Goodness.{step_word, answers_line, writing}
use Rattle.reader.proofs.Refusals.{refuses, told_refuses, answers_end}

-- what steps have done: all words taken, their reports written to the front of the slice
abbrev pub done : Reader → List Read → List ℤ → Long
done r steps out =
    whole
    (record {
      refusal = success;
      next = reader_after r steps;
      taken = length steps;
      reports = length (handed_out (answers steps));
      dropped = dropped_among (answers steps);
    })
    (numbers (handed_out (answers steps)) ++ drop (5 * length (handed_out (answers steps))) out)

-- the answers to words, and the reader behind them, are those of the steps, whatever the answers write
steps_over : (writes : Answer → List ℤ) (words : List ℕ) (r : Reader) → good r ≡ true
    → (answers (steps_of r words) ≡ answers_over (writing writes) r words) × (reader_after r (steps_of r words) ≡ state_over (writing writes) r words)
unfolding steps_of answers_over state_over
steps_over writes [] r g = (refl, refl)
steps_over writes (w ∷ words) r g =
    let n = steps_over writes words (word_of r w).next (word_good r g w) in
    rw (step_word r w g) (ap (λ (l : List Answer). (word_of r w).answer ∷ l) n.0, n.1)

-- a step for each word
pub step_each : (r : Reader) (words : List ℕ) → length (steps_of r words) ≡ length words
unfolding steps_of
step_each r [] = refl
step_each r (w ∷ words) = ap suc (step_each (step_of r w).next words)

each_legal : (words : List ℕ) → line_words words ≡ true → UpTo silence words
unfolding line_words
each_legal [] l = tt
each_legal (w ∷ words) l = (leb-true w silence (left (leb w silence) (line_words words) l), each_legal words (right (leb w silence) (line_words words) l))

-- a long read with room takes all
pub word_by_word : (r : Reader) (words : List ℕ) (out written : List ℤ) (steps : List Read) (a : Reading)
    → good r ≡ true
    → line_words words ≡ true
    → StepsPromise r words steps
    → 5 * length (handed_out (answers steps)) ≤ length out
    → ReadPromise r words out a written
    → whole a written ≡ done r steps out
word_by_word r words out written steps a g l p room e =
    let i = steps_are r words steps p in
    let o = steps_over written_in words r g in
    let all = answers_over reads r words in
    took_all_lem reads_line lawful refuses r words out g (each_legal words l) (rw (sum_is all) (rw (i, o.0) at room)) e ∙ rw (i, o.0, o.1, step_each r words, sum_is all, numbers_written all)

pub took : (r : Reader) (words : List ℕ) (steps : List Read) (out after : List ℤ) (b : Reading)
    → good r ≡ true
    → line_words words ≡ true
    → StepsPromise r words steps
    → 5 * length (handed_out (answers steps)) ≤ length out
    → ReadPromise r words out b after
    → Took words (handed_out (answers steps)) out b after
took r words steps out after b g l p room q =
    let is = word_by_word r words out after steps b g l p room q in
    record {
      refusal = ap (λ (x : Long). x.refusal) is;
      taken = ap (λ (x : Long). x.taken) is ∙ ap length (steps_are r words steps p) ∙ step_each r words;
      reports = ap (λ (x : Long). x.counts.reports) is;
      written = ap (λ (x : Long). x.out) is;
    }

-- the words that a telling takes are answered as the public steps answer them, one after the other
steps_taken : (words : List ℕ) (r : Reader) (room : ℕ) → good r ≡ true → let f = run tells r words room in
    let steps = steps_of r (take (length f.answers) words) in
    (f.next ≡ reader_after r steps) × (f.answers ≡ answers steps)
unfolding steps_of
steps_taken =
    over_taken tells (λ r words l next. good r ≡ true → (next ≡ reader_after r (steps_of r words)) × (l ≡ answers (steps_of r words))) (λ r g. (refl, refl))
    (λ r w words l next z ih g. let i = ih (word_good r g w) in rw (step_word r w g) (i.0, ap (λ (k : List Answer). (word_of r w).answer ∷ k) i.1))

pub told_as_steps : (r : Reader) (words : List ℕ) (out after : List ℤ) (steps : List Read) (a : Answers)
    → good r ≡ true
    → AnswersPromise r words out a after
    → StepsPromise r (take a.taken words) steps
    → told a after ≡ counted tells_line (ran a.refusal (reader_after r steps) (answers steps)) out
unfolding line
told_as_steps r words out after steps a g e p =
    let i = e ∙ answers_line r words out g in
    let k = steps_taken words r (length out) g in
    let j = steps_are r (take a.taken words) steps p ∙ ap (λ n. steps_of r (take n words)) (ap (λ (t : Told). t.taken) i) in
    i ∙ rw (j, ap (λ (t : Told). t.refusal) i, ← k.0, ← k.1)

-- all words, where all are taken
pub all_told_as_steps : (r : Reader) (words : List ℕ) (out after : List ℤ) (steps : List Read) (a : Answers)
    → good r ≡ true
    → AnswersPromise r words out a after
    → a.taken ≡ length words
    → StepsPromise r words steps
    → told a after ≡ counted tells_line (ran success (reader_after r steps) (answers steps)) out
all_told_as_steps r words out after steps a g e t p =
    let none : get_or words a.taken 0 ≡ 0 = get_or-eq_default words 0 (omega arith) in
    let number = ⊎_elim (λ z. z) (λ b. absurd (omega (arith, b.1))) (answers_end r words out a after g e) in
    told_as_steps r words out after steps a g e (rw (take_all a.taken words (omega arith)) p) ∙ ap (λ n. counted tells_line (ran n (reader_after r steps) (answers steps)) out) number

-- and they are, where all are line words and their answers have room
pub told_word_by_word : (r : Reader) (words : List ℕ) (out after : List ℤ) (steps : List Read) (a : Answers)
    → good r ≡ true
    → line_words words ≡ true
    → StepsPromise r words steps
    → length (written tells (answers steps)) ≤ length out
    → AnswersPromise r words out a after
    → told a after ≡ counted tells_line (ran success (reader_after r steps) (answers steps)) out
told_word_by_word r words out after steps a g l p room e =
    let i = steps_are r words steps p in
    let o = steps_over told_in words r g in
    let all = answers_over tells r words in
    let each : length all ≡ length words = ap length (sym o.0) ∙ length-map (steps_of r words) (λ (s : Read). s.answer) ∙ step_each r words in
    let n = places_sum tells_line told_lawful all in
    took_all_lem tells_line told_lawful told_refuses r words out g (each_legal words l) (rw (← n) (rw (i, o.0) at room)) e ∙ rw (i, o.0, o.1, n, each)
