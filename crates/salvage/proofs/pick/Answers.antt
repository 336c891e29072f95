-- A refusal, or the loop of its letter; a log that is taken is of one of the three.
use mathlib.Core.Path.{sym}
use native.Mathlib.Omega.{arith}
use Rattle.salvage.specs.Picking.{pick_of}
use Rattle.salvage.proofs.Refusals.{some_number, taken, sizes, one_of_three}
use Rattle.salvage.proofs.pick.Goals as goal

pub returns-in-Err : goal.returns-in-Err
unfolding pick_of
returns-in-Err c = rw (c.told.ensures, c.number.ensures, ← c.in-Err.ensures, some_number c.in-Err.refusal)

pub pick_runs-requires : goal.pick_runs-requires
pick_runs-requires c = (sym sizes.0, omega arith, (taken c.args.letter c.args.words.now (sym c.in_default.ensures)).few)

pub pick_runs-requires-in-84 : goal.pick_runs-requires-in-84
pick_runs-requires-in-84 c = (sym sizes.1, omega arith, (taken c.args.letter c.args.words.now (sym c.in_default.ensures)).few)

pub pick_runs-requires-in-87 : goal.pick_runs-requires-in-87
pick_runs-requires-in-87 c = (sym sizes.2, omega arith, (taken c.args.letter c.args.words.now (sym c.in_default.ensures)).few)

pub returns-in-85 : goal.returns-in-85
unfolding pick_of
returns-in-85 c = rw (← c.in_default.ensures, c.in-85.is) c.pick_runs.ensures

pub returns-in-84 : goal.returns-in-84
unfolding pick_of
returns-in-84 c = rw (← c.in_default.ensures, c.in-84.is) c.pick_runs-in-84.ensures

pub returns-in-87 : goal.returns-in-87
unfolding pick_of
returns-in-87 c = rw (← c.in_default.ensures, c.in-87.is) c.pick_runs-in-87.ensures

pub returns-in_default-letter : goal.returns-in_default-letter
returns-in_default-letter c =
    let t = taken c.args.letter c.args.words.now (sym c.in_default.ensures) in
    absurd (one_of_three c.args.letter t.is_known t.unmarked (λ e. omega arith) (λ e. omega arith) (λ e. omega arith))
