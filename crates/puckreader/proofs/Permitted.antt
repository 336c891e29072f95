-- "Each public operation's promise determines one answer, and every number in the lent slice after it, refused or not".
use Prim.Native.Nat.{ℕ}
use mathlib.Core.Path.{◌≡◌, refl, sym, ◌∙◌, ap, ap₂}
use mathlib.Core.Bool.{Bool, true, false, cond}
use mathlib.Core.List.{List}
use lib.ListN.{length, get_or}
use lib.Dec.{eqb}
use lib.IntN.{ℤ, pos, nat_abs}
use Rattle.std.specs.Prelude.{Option, Result}
use Rattle.wire.specs.declared.refusal.Refusal.{Refusal}
use Rattle.wire.proofs.Numbered.{result_apart, if_apart}
use Rattle.vsxxx.specs.SelfTests.{fatal}
use Rattle.puckreader.specs.State.{PuckRead, numbers_of}
use Rattle.puckreader.specs.Rules.{read_in}
use Rattle.puckreader.specs.Line.{PuckReading, Long, reading, reading_in}
use Rattle.puckreader.specs.Promises.{Step, FreshPromise, GoodPromise, StepPromise, ReadPromise, step_of}
use Rattle.puckreader.specs.declared.PuckReader.{PuckReader}
use Rattle.puckreader.specs.declared.PuckAnswer.{PuckAnswer}
use Rattle.puckreader.specs.declared.PuckStep as steps
use Rattle.puckreader.specs.declared.PuckReading as readings
use Rattle.puckreader.specs.declared.PuckAnswer.TheVariants.{Nothing, Movement, Test, Dropped}

-- an answer is told by its numbers
abbrev number : List ℤ → ℕ → ℕ
number l i = nat_abs (get_or l i (pos 0))

abbrev told : List ℤ → PuckAnswer
told l =
    cond (eqb (length l) 0) Nothing
    (cond (eqb (length l) 1) (Dropped (number l 0))
    (cond (eqb (number l 0) 0) (Movement (record { buttons = number l 1; x1 = get_or l 2 (pos 0); y1 = get_or l 3 (pos 0); x2 = get_or l 4 (pos 0); y2 = get_or l 5 (pos 0) }))
    (Test (record { revision = number l 1; maker = number l 2; device = number l 3; error = number l 4; buttons = number l 5 }))))

told_is : (a : PuckAnswer) → told (numbers_of a) ≡ a
told_is Nothing = refl
told_is (Movement r) = refl
told_is (Test t) = go (fatal t)
  where
    go : (f : Bool) → cond (eqb (cond f 2 1) 0) (Movement (record { buttons = t.revision; x1 = pos t.maker; y1 = pos t.device; x2 = pos t.error; y2 = pos t.buttons })) (Test t) ≡ Test t
    go true = refl
    go false = refl
told_is (Dropped k) = refl

by_numbers : (a b : PuckAnswer) → numbers_of a ≡ numbers_of b → a ≡ b
by_numbers a b e = sym (told_is a) ∙ ap told e ∙ told_is b

-- so that what a step's promise permits is its definition's answer
pub step_is : (r : PuckReader) (w : ℕ) (s : PuckRead) → StepPromise r w s → s ≡ step_of r w
step_is r w s e =
    let a = by_numbers s.answer (step_of r w).answer (ap (λ (o : Step). o.numbers) e) in
    λ i. record { refusal = (e i).refusal; next = (e i).next; answer = a i }

-- one answer
pub one_fresh : (a b : PuckReader) → FreshPromise a → FreshPromise b → a ≡ b
one_fresh a b e f = e ∙ sym f

pub one_good : (r : PuckReader) (a b : Bool) → GoodPromise r a → GoodPromise r b → a ≡ b
one_good r a b e f = e ∙ sym f

pub one_step : (r : PuckReader) (w : ℕ) (a b : PuckRead) → StepPromise r w a → StepPromise r w b → a ≡ b
one_step r w a b e f = step_is r w a e ∙ sym (step_is r w b f)

pub one_read : (r : PuckReader) (words : List ℕ) (out : List ℤ) (a b : PuckReading) (x y : List ℤ) → ReadPromise r words out a x → ReadPromise r words out b y → (a ≡ b) × (x ≡ y)
one_read r words out a b x y e f =
    let q = e ∙ sym f in
    (ap reading q, ap (λ (l : Long). l.out) q)

-- What `PuckReader::step` and `read` give is told apart by what their promises read of it: so that is one, too.
pub read_apart : (r : PuckReader) (a b : Result steps.PuckStep Refusal) → read_in r a ≡ read_in r b → a ≡ b
read_apart r = result_apart (read_in r) (λ s. s.refusal) (λ s. record { next = s.next; answer = s.answer }) (λ a. refl) (λ r. refl) (λ a. refl)

pub reading_apart : (a b : readings.PuckReading) → reading_in a ≡ reading_in b → a ≡ b
reading_apart a b e =
    let given : PuckReading → Option Refusal → readings.PuckReading = λ t why. record { refusal = why; next = t.next; taken = t.taken; reports = t.reports; dropped = t.dropped } in
    ap₂ given e (if_apart a.refusal b.refusal (ap (λ (t : PuckReading). t.refusal) e))
