-- A whole line: ended, the last, or one that has passed.
use native.Mathlib.Omega.{arith}
use mathlib.Core.Path.{ap, sym}
use Rattle.driver.specs.Driving.{Leaves}
use Rattle.driver.specs.Feeding.{besides, taken_of}
use Rattle.driver.proofs.Keeps.{goes_on}
use Rattle.driver.proofs.Driver.taken.Goals as goal

pub returns-then-self : goal.returns-then-self
unfolding taken_of
returns-then-self c = rw c.if-self.true (rw (c.at_line.ensures, c.none.ensures), omega arith)

pub overflow_add-self : goal.overflow_add-self
overflow_add-self c = let a = c.args in
    let few = goes_on a.self.line a.self.ball (besides a.order) (sym (ap (λ (l : Leaves). l.ends) c.in-Ok.ensures)) in
    record { fits = omega (arith, few) }

pub returns-in-Ok : goal.returns-in-Ok
unfolding taken_of
returns-in-Ok c = rw (c.if-self.false, ← c.in-Ok.ensures) (rw (c.at_line-in-Ok.ensures, c.owed.ensures, c.line.ensures.0), c.line.ensures.1)

pub returns-in-Err : goal.returns-in-Err
unfolding taken_of
returns-in-Err c = rw (c.if-self.false, ← c.in-Err.ensures) (rw (c.at_line-in-Err.ensures, c.line-in-Err.ensures.0), c.line-in-Err.ensures.1)
