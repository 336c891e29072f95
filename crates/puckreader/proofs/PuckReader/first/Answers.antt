-- `first`: each case of the word's answer.
use mathlib.Core.Path.{refl}
use native.Mathlib.Omega.{arith}
use Rattle.wire.proofs.Numbered.{never_success}
use Rattle.puckreader.proofs.Loop.{stopping, taking}
use Rattle.puckreader.proofs.PuckReader.first.Goals as goal

pub returns-in-Err-clause-begins : goal.returns-in-Err-clause-begins
returns-in-Err-clause-begins c words =
    rw c.reading.ensures (stopping words c.args.out.now c.requires c.in-Err.ensures (λ z. absurd (never_success c.in-Err.refusal z)))

pub returns-then-out-lt6-clause-begins : goal.returns-then-out-lt6-clause-begins
returns-then-out-lt6-clause-begins c words =
    let a = c.in-Movement.is in
    rw c.reading-then-out-lt6.ensures (stopping words c.args.out.now c.requires c.in-Ok.ensures (λ _. rw a c.if-out-lt6.true))

pub returns-then-out-lt6-2-clause-begins : goal.returns-then-out-lt6-2-clause-begins
returns-then-out-lt6-2-clause-begins c words =
    let a = c.in-Test.is in
    rw c.reading-then-out-lt6-2.ensures (stopping words c.args.out.now c.requires c.in-Ok.ensures (λ _. rw a c.if-out-lt6-2.true))

pub returns-in-Nothing-clause-begins : goal.returns-in-Nothing-clause-begins
returns-in-Nothing-clause-begins c words =
    let a = c.in-Nothing.is in
    rw c.reading-in-Nothing.ensures (rw a at (taking words c.args.out.now c.requires c.in-Ok.ensures refl (rw a (omega arith))))

pub returns-in-Dropped-clause-begins : goal.returns-in-Dropped-clause-begins
returns-in-Dropped-clause-begins c words =
    let a = c.in-Dropped.is in
    rw c.reading-in-Dropped.ensures (rw a at (taking words c.args.out.now c.requires c.in-Ok.ensures refl (rw a (omega arith))))

pub returns-else-out-lt6-clause-begins : goal.returns-else-out-lt6-clause-begins
returns-else-out-lt6-clause-begins c words =
    let a = c.in-Movement.is in
    rw (c.reading-in-Movement.ensures, c.put_movement.ensures)
    (rw a at (taking words c.args.out.now c.requires c.in-Ok.ensures refl (rw a c.if-out-lt6.false)))

pub returns-else-out-lt6-2-clause-begins : goal.returns-else-out-lt6-2-clause-begins
returns-else-out-lt6-2-clause-begins c words =
    let a = c.in-Test.is in
    rw (c.reading-in-Test.ensures, c.put_test.ensures)
    (rw a at (taking words c.args.out.now c.requires c.in-Ok.ensures refl (rw a c.if-out-lt6-2.false)))
