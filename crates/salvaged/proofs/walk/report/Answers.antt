-- `report`: the bytes of the run, the report that they stand for, and the line of the last.
use native.Mathlib.Omega.{arith}
use Rattle.fold.proofs.Parts.{rest_is}
use Rattle.salvaged.specs.Items.{item_of}
use Rattle.salvaged.proofs.Runs.{within, run_of, report_is}
use Rattle.salvaged.proofs.walk.report.Goals as goal

pub five-bytes-requires : goal.five-bytes-requires
five-bytes-requires c =
    let a = c.args in
    rw (c.requires.0.sized, rest_is a.words.now a.at) (run_of a.letter a.words.now a.at c.requires.1 c.requires.2)

pub overflow_add-line : goal.overflow_add-line
overflow_add-line c = omega (arith, c.requires.0.sized, c.requires.0.few, within c.args.letter c.args.words.now c.args.at c.requires.1 c.requires.2)

pub overflow_add-line-2 : goal.overflow_add-line-2
overflow_add-line-2 c = omega (arith, c.requires.0.sized, c.requires.0.few, within c.args.letter c.args.words.now c.args.at c.requires.1 c.requires.2)

pub overflow_cast-line : goal.overflow_cast-line
overflow_cast-line c = omega (arith, c.requires.0.sized, c.requires.0.few, within c.args.letter c.args.words.now c.args.at c.requires.1 c.requires.2)

pub returns : goal.returns
unfolding item_of
returns c =
    let a = c.args in
    rw (c.reported.ensures, c.report_of.ensures, c.five-bytes.ensures, c.requires.0.sized, rest_is a.words.now a.at, report_is a.letter a.words.now a.at c.requires.1 c.requires.2)
