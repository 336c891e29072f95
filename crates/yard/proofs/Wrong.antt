-- Wrong answers, two for each promise, that it does not permit.
use mathlib.Core.Path.{ap}
use mathlib.Core.Bool.{false}
use mathlib.Core.List.{[], ◌∷◌}
use native.Mathlib.Omega.{arith}
use Rattle.wire.specs.Line.{letter_of}
use Rattle.wire.specs.declared.Format.TheVariants.{Mm, FiveByte, ThreeByte}
use Rattle.yard.specs.State.{yard, none_gone}
use Rattle.yard.specs.Rules.{can, cannot}
use Rattle.yard.specs.Log.{judgement}
use Rattle.yard.specs.Promises.{new_yard, FreshPromise, StepPromise, CheckPromise}
use Rattle.yard.specs.declared.NewYard.{NewYard}
use Rattle.yard.specs.declared.Judged.{Judged}
use Rattle.yard.specs.declared.Checked.{Checked}
use Rattle.yard.proofs.Computing.{computing}

-- a check of U for the letter T; and a letter that is not in the table taken without a word
pub fresh_other_letter : FreshPromise (letter_of ThreeByte) (new_yard 0 (none_gone (letter_of FiveByte))) → ⊥
unfolding computing
fresh_other_letter e = omega (arith, ap (λ (n : NewYard). n.yard.format) e)

pub fresh_not_refused : FreshPromise 0x58 (new_yard 0 (none_gone (letter_of FiveByte))) → ⊥
unfolding computing
fresh_not_refused e = omega (arith, ap (λ (n : NewYard). n.refusal) e)

-- -128 in T taken; and a break between reports not
pub step_takes_least : StepPromise (yard (letter_of ThreeByte) 0 0 1 false) 128 (can (yard (letter_of ThreeByte) 0 128 2 false)) → ⊥
unfolding computing
step_takes_least e = omega (arith, ap (λ (j : Judged). j.can) e)

pub step_refuses_break : StepPromise (none_gone (letter_of ThreeByte)) 256 (cannot (letter_of ThreeByte)) → ⊥
unfolding computing
step_refuses_break e = omega (arith, ap (λ (j : Judged). j.can) e)

-- a minus zero told at its first byte; and a word above 257 overlooked, behind one that cannot be sent
pub check_tells_early : CheckPromise (letter_of Mm) (0x80 ∷ 0 ∷ []) (judgement 0 2) → ⊥
unfolding computing
check_tells_early e = omega (arith, ap (λ (c : Checked). c.sendable) e)

pub check_overlooks : CheckPromise (letter_of ThreeByte) (8 ∷ 258 ∷ []) (judgement 0 2) → ⊥
unfolding computing
check_overlooks e = omega (arith, ap (λ (c : Checked). c.refusal) e)
