-- "Each public operation's promise determines one answer, and every number in the lent slice after it, refused or not".
use Prim.Native.Nat.{ℕ}
use mathlib.Core.Path.{◌≡◌, refl, sym, ◌∙◌, ap, ap₂}
use mathlib.Core.Bool.{Bool, cond}
use mathlib.Core.List.{List, [], ◌∷◌}
use lib.ListN.{length, get_or}
use lib.Dec.{eqb}
use lib.IntN.{ℤ, pos, nat_abs}
use Rattle.std.specs.Prelude.{Option, Result, Ok, Err}
use Rattle.std.specs.Result.{ResultUnwrapsOrElse}
use Rattle.wire.specs.Line.{letter_of}
use Rattle.wire.specs.declared.refusal.Refusal.{Refusal}
use Rattle.wire.specs.declared.Format.TheVariants.{FiveByte}
use Rattle.wire.proofs.Numbered.{result_apart, if_apart}
use Rattle.reader.specs.State.{fresh, numbers_of, NewReader, Read, new_in, read_in}
use Rattle.reader.specs.Line.{Reading, Long, reading, reading_in}
use Rattle.reader.specs.Telling.{Answers, Told, answers_in, answers_by}
use Rattle.reader.specs.Promises.{Step, FreshPromise, GoodPromise, StepPromise, ReadPromise, AnswersPromise, fresh_of, step_of}
use Rattle.reader.specs.Runs.{steps_of, StepsPromise}
use Rattle.reader.specs.declared.Reader.{Reader}
use Rattle.reader.specs.declared.Answer.{Answer}
use Rattle.reader.specs.declared.Step as steps
use Rattle.reader.specs.declared.Reading as readings
use Rattle.reader.specs.declared.Answers as tellings
use Rattle.reader.specs.declared.Answer.TheVariants as answer

-- a new reader, or a fresh one of U where there is none of a letter
pub fresh_or_default : (letter : ℕ) (n : Result Reader Refusal) {r : Reader} → FreshPromise letter (new_in n) → ResultUnwrapsOrElse n (λ u. u ≡ fresh (letter_of FiveByte)) r
    → r ≡ (fresh_of letter).reader
fresh_or_default letter (Ok u) e d = d ∙ ap (λ (a : NewReader). a.reader) e
fresh_or_default letter (Err refusal) e d = d ∙ ap (λ (a : NewReader). a.reader) e

-- an answer is told by its numbers
abbrev told : List ℤ → Answer
told l =
    cond (eqb (length l) 0) answer.Nothing
    (cond (eqb (length l) 1) (answer.Dropped (nat_abs (get_or l 0 (pos 0))))
    (answer.Report (record { buttons = nat_abs (get_or l 0 (pos 0)); x1 = get_or l 1 (pos 0); y1 = get_or l 2 (pos 0); x2 = get_or l 3 (pos 0); y2 = get_or l 4 (pos 0) })))

told_is : (a : Answer) → told (numbers_of a) ≡ a
told_is answer.Nothing = refl
told_is (answer.Report p) = refl
told_is (answer.Dropped k) = refl

pub by_numbers : (a b : Answer) → numbers_of a ≡ numbers_of b → a ≡ b
by_numbers a b e = sym (told_is a) ∙ ap told e ∙ told_is b

-- so that what a step's promise permits is its definition's answer
same_read : {s t : Read} → s.refusal ≡ t.refusal → s.next ≡ t.next → s.answer ≡ t.answer → s ≡ t
same_read n r a = λ i. record { refusal = n i; next = r i; answer = a i }

pub step_is : (r : Reader) (w : ℕ) (s : Read) → StepPromise r w s → s ≡ step_of r w
step_is r w s e =
    same_read (ap (λ (o : Step). o.refusal) e) (ap (λ (o : Step). o.next) e)
    (by_numbers s.answer (step_of r w).answer (ap (λ (o : Step). o.numbers) e))

pub steps_are : (r : Reader) (words : List ℕ) (steps : List Read) → StepsPromise r words steps → steps ≡ steps_of r words
unfolding steps_of StepsPromise
steps_are r [] [] e = refl
steps_are r [] (s ∷ steps) e = absurd e
steps_are r (w ∷ words) [] e = absurd e
steps_are r (w ∷ words) (s ∷ steps) e = let i = step_is r w s e.0 in let j = steps_are s.next words steps e.1 in cc

-- one answer
pub one_fresh : (letter : ℕ) (a b : NewReader) → FreshPromise letter a → FreshPromise letter b → a ≡ b
one_fresh letter a b e f = e ∙ sym f

pub one_good : (r : Reader) (a b : Bool) → GoodPromise r a → GoodPromise r b → a ≡ b
one_good r a b e f = e ∙ sym f

pub one_step : (r : Reader) (w : ℕ) (a b : Read) → StepPromise r w a → StepPromise r w b → a ≡ b
one_step r w a b e f = step_is r w a e ∙ sym (step_is r w b f)

pub one_read : (r : Reader) (words : List ℕ) (out : List ℤ) (a b : Reading) (x y : List ℤ) → ReadPromise r words out a x → ReadPromise r words out b y → (a ≡ b) × (x ≡ y)
one_read r words out a b x y e f = (ap reading (e ∙ sym f), ap (λ (l : Long). l.out) (e ∙ sym f))

pub one_answers : (r : Reader) (words : List ℕ) (out : List ℤ) (a b : Answers) (x y : List ℤ) → AnswersPromise r words out a x → AnswersPromise r words out b y → (a ≡ b) × (x ≡ y)
one_answers r words out a b x y e f = (ap answers_in (e ∙ sym f), ap (λ (t : Told). t.out) (e ∙ sym f))

-- What `Reader::fresh`, `step`, `read` and `answers` give is told apart by what their promises read of it: so that is one, too.
pub new_apart : (a b : Result Reader Refusal) → new_in a ≡ new_in b → a ≡ b
new_apart = result_apart new_in (λ n. n.refusal) (λ n. n.reader) (λ a. refl) (λ r. refl) (λ a. refl)

pub read_apart : (r : Reader) (a b : Result steps.Step Refusal) → read_in r a ≡ read_in r b → a ≡ b
read_apart r = result_apart (read_in r) (λ s. s.refusal) (λ s. record { next = s.next; answer = s.answer }) (λ a. refl) (λ r. refl) (λ a. refl)

pub reading_apart : (a b : readings.Reading) → reading_in a ≡ reading_in b → a ≡ b
reading_apart a b e =
    let given : Reading → Option Refusal → readings.Reading = λ t why. record { refusal = why; next = t.next; taken = t.taken; reports = t.reports; dropped = t.dropped } in
    ap₂ given e (if_apart a.refusal b.refusal (ap (λ (t : Reading). t.refusal) e))

pub answers_apart : (a b : tellings.Answers) → answers_by a ≡ answers_by b → a ≡ b
answers_apart a b e =
    let given : Answers → Option Refusal → tellings.Answers = λ t why. record { refusal = why; next = t.next; taken = t.taken; written = t.written } in
    ap₂ given e (if_apart a.refusal b.refusal (ap (λ (t : Answers). t.refusal) e))
