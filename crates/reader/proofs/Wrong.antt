-- Wrong answers, two for each promise, that it does not permit.
use mathlib.Core.Path.{ap, sym}
use mathlib.Core.Bool.{true, false}
use mathlib.Core.List.{List, [], ◌∷◌}
use native.Mathlib.Omega.{arith}
use lib.ListN.{length, get_or, replicate}
use lib.IntN.{ℤ, pos, nat_abs}
use Rattle.numbers.proofs.Tested.{holds}
use Rattle.frames.specs.Words.{break}
use Rattle.reader.specs.State.{reader, fresh, ready, NewReader}
use Rattle.reader.specs.Rules.{answered}
use Rattle.reader.specs.Line.{Long}
use Rattle.reader.specs.Telling.{Told}
use Rattle.reader.specs.Promises.{Step, FreshPromise, GoodPromise, StepPromise, ReadPromise, AnswersPromise, new_reader}
use Rattle.reader.specs.declared.Answer.TheVariants.{Nothing, Dropped}
use Rattle.reader.proofs.Computing.{computing}

-- a reader of U for the letter T; and a letter that is not in the table taken without a word
pub fresh_other_letter : FreshPromise 0x54 (new_reader 0 (fresh 0x55)) → ⊥
unfolding computing
fresh_other_letter e = omega (arith, ap (λ (n : NewReader). n.reader.format) e)

pub fresh_not_refused : FreshPromise 0x58 (new_reader 0 (fresh 0x55)) → ⊥
unfolding computing
fresh_not_refused e = omega (arith, ap (λ (n : NewReader). n.refusal) e)

-- a reader of S that awaits a silence called good; and a fresh one of U not
pub good_awaiting_s : GoodPromise (reader 0x53 (replicate 5 0) 0 true) true → ⊥
unfolding computing
good_awaiting_s e = holds (sym e)

pub good_refuses_fresh : GoodPromise (fresh 0x55) false → ⊥
unfolding computing
good_refuses_fresh e = holds e

-- a fresh reader of U that keeps a header; and a break told as a byte
pub step_without_silence : StepPromise (fresh 0x55) 0x85 (answered (reader 0x55 (0x85 ∷ 0 ∷ 0 ∷ 0 ∷ 0 ∷ []) 1 false) Nothing) → ⊥
unfolding computing
step_without_silence e = omega (arith, ap (λ (o : Step). length o.numbers) e)

pub step_counts_break : StepPromise (reader 0x53 (0x94 ∷ 0 ∷ 0 ∷ 0 ∷ 0 ∷ []) 1 false) break (answered (ready 0x53) (Dropped 2)) → ⊥
unfolding computing
step_counts_break e = omega (arith, ap (λ (o : Step). nat_abs (get_or o.numbers 0 (pos 0))) e)

-- a report counted and not written; and a number behind the report changed
abbrev zero_report : ℤ → List ℤ
zero_report n = pos 0 ∷ pos 0 ∷ pos 0 ∷ pos 0 ∷ pos 0 ∷ n ∷ []

pub read_not_written : ReadPromise (ready 0x53) (0x98 ∷ 0 ∷ 0 ∷ []) (replicate 6 (pos 9)) (record { refusal = 0; next = ready 0x53; taken = 3; reports = 1; dropped = 0 }) (replicate 6 (pos 9)) → ⊥
unfolding computing
read_not_written e = omega (arith, ap (λ (l : Long). nat_abs (get_or l.out 0 (pos 0))) e)

pub read_writes_behind : ReadPromise (ready 0x53) (0x98 ∷ 0 ∷ 0 ∷ []) (replicate 6 (pos 9)) (record { refusal = 0; next = ready 0x53; taken = 3; reports = 1; dropped = 0 }) (zero_report (pos 0)) → ⊥
unfolding computing
read_writes_behind e = omega (arith, ap (λ (l : Long). nat_abs (get_or l.out 5 (pos 0))) e)

-- a dropped byte told as nothing; and a report told without its minus 1
pub answers_drop_nothing : AnswersPromise (fresh 0x55) (0x85 ∷ []) (pos 9 ∷ []) (record { refusal = 0; next = fresh 0x55; taken = 1; written = 1 }) (pos 0 ∷ []) → ⊥
unfolding computing
answers_drop_nothing e = omega (arith, ap (λ (t : Told). nat_abs (get_or t.out 0 (pos 0))) e)

pub answers_bare_report : AnswersPromise (ready 0x53) (0x98 ∷ 0 ∷ 0 ∷ []) (replicate 8 (pos 9)) (record { refusal = 0; next = ready 0x53; taken = 3; written = 7 }) (pos 0 ∷ pos 0 ∷ zero_report (pos 9)) → ⊥
unfolding computing
answers_bare_report e = omega (arith, ap (λ (t : Told). nat_abs (get_or t.out 2 (pos 0))) e)
