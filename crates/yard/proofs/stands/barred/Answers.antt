-- `barred`: each letter that has such bytes; of another none.
use mathlib.Core.Path.{◌≡◌, refl}
use mathlib.Core.Bool.{false}
use lib.Dec.{eqb}
use Rattle.numbers.proofs.Choices.{cases}
use borrow.Author.Tests.{ne_eqb}
use Rattle.wire.specs.Line.{named_by, of_named}
use Rattle.std.proofs.Common.{Option}
use Rattle.wire.specs.declared.Format.{Format}
use Rattle.yard.specs.Stands.{barred, barred_by}
use Rattle.yard.proofs.stands.barred.Goals as goal

pub returns-in-83 : goal.returns-in-83
unfolding barred_by barred named_by
returns-in-83 c = rw c.in-83.is c.minus_zero.ensures

pub returns-in-86 : goal.returns-in-86
unfolding barred_by barred named_by
returns-in-86 c = rw c.in-86.is c.least_v.ensures

pub returns-in-85 : goal.returns-in-85
unfolding barred_by barred named_by
returns-in-85 c = rw c.in-85.is c.least.ensures

pub returns-in-84 : goal.returns-in-84
unfolding barred_by barred named_by
returns-in-84 c = rw c.in-84.is c.least-in-84.ensures

pub returns-in-87 : goal.returns-in-87
unfolding barred_by barred named_by
returns-in-87 c = rw c.in-87.is c.least_w.ensures

pub returns-in_default : goal.returns-in_default
unfolding barred_by barred named_by
returns-in_default c = let n = c.in_default.in_default-own.rest in
    let a = c.args in
    rw (ne_eqb _ _ n.0.0.0.0.1, ne_eqb _ _ n.0.0.0.1, ne_eqb _ _ n.0.0.1, ne_eqb _ _ n.0.1, ne_eqb _ _ n.1)
    (cases (λ (m : Option Format). false ≡ of_named false (λ f. barred f a.place a.first a.last a.byte) m) (eqb a.letter 0x41) (λ _. refl)
    (λ _. cases (λ (m : Option Format). false ≡ of_named false (λ f. barred f a.place a.first a.last a.byte) m) (eqb a.letter 0x42) (λ _. refl) (λ _. refl)))
