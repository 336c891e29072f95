-- The first line: cut off, faulty, without room, or taken.
use mathlib.Core.Path.{refl}
use mathlib.Core.Bool.{true}
use native.Mathlib.Omega.{arith}
use lib.ListN.{take}
use Rattle.text.specs.Lengths.{length_to}
use Rattle.listing.specs.Lines.{newline}
use Rattle.readback.specs.Steps.{Step}
use Rattle.readback.specs.Pieces as pieces
use Rattle.readback.proofs.Goodness.{few_lines, step_leaves}
use Rattle.readback.proofs.Loop.{reading_follows, cut_stop, fault_stop, read_stop, read_taken}
use Rattle.readback.proofs.Readback.first.Goals as goal

pub overflow_add-self : goal.overflow_add-self
overflow_add-self c = record { fits = omega (arith, few_lines c.args.self c.requires.0) }

pub returns-in_default : goal.returns-in_default
returns-in_default c = rw c.back.ensures (fault_stop pieces.reads reading_follows c.args.self c.args.input.now c.args.out.now c.requires.0 c.requires.1 c.in_default.ensures)

pub returns-in_default-front : goal.returns-in_default-front
returns-in_default-front c =
    let cut = rw c.in_default-front.is at c.in-Ok.ensures in
    rw c.back-in_default-front.ensures (cut_stop pieces.reads reading_follows c.args.self c.args.input.now c.args.out.now c.requires.0 c.requires.1 cut.0 cut.1)

pub returns-then-out-lt5 : goal.returns-then-out-lt5
returns-then-out-lt5 c =
    let l = rw c.in-Some.is at c.in-Ok.ensures in
    let st : Step = record { good = true; next = c.in-Some.line.next; given = c.in-Some.line.given } in
    let g = c.in-Some-given.is in
    rw c.back-then-out-lt5.ensures (read_stop c.args.self c.args.input.now c.args.out.now c.requires.0 st l.0 l.1 refl (rw g (omega arith)))

pub put-requires : goal.put-requires
put-requires c =
    let l = rw c.in-Some.is at c.in-Ok.ensures in
    let small = (step_leaves c.args.self (take (length_to newline c.args.input.now) c.args.input.now) c.requires.0).1 in
    (rw c.in-Some-given.is at (rw (← l.1) at small), omega arith)

pub returns-in-None : goal.returns-in-None
returns-in-None c =
    let l = rw c.in-Some.is at c.in-Ok.ensures in
    let st : Step = record { good = true; next = c.in-Some.line.next; given = c.in-Some.line.given } in
    let g = c.in-None.is in
    rw (c.back-in-None.ensures, l.2) (rw g at (read_taken c.args.self c.args.input.now c.args.out.now c.requires.0 st l.0 l.1 refl (rw g (omega arith))))

pub returns-else-out-lt5 : goal.returns-else-out-lt5
returns-else-out-lt5 c =
    let l = rw c.in-Some.is at c.in-Ok.ensures in
    let st : Step = record { good = true; next = c.in-Some.line.next; given = c.in-Some.line.given } in
    let g = c.in-Some-given.is in
    rw (c.back-in-Some-given.ensures, l.2, c.put.ensures) (rw g at (read_taken c.args.self c.args.input.now c.args.out.now c.requires.0 st l.0 l.1 refl (rw g (omega arith))))
