-- Words and a number.
use native.Mathlib.Omega.{arith}
use lib.IntN.{pos}
use mir.Syntax.{w64}
use mir.Facts.{to_z_pos}
use Rattle.text.specs.Growth.{slice}
use Rattle.text.specs.Decimals.{plain, decimal_of}
use Rattle.hearing.proofs.Steps.{then_more}
use Rattle.mwatch.proofs.part_to.Goals as goal

pub returns : goal.returns
returns c =
    let a = c.args in
    let t = c.bytes_to-behind in
    let n = c.decimal_to in
    let d = rw (to_z_pos w64 {n = a.count} (omega arith)) at n.ensures in
    then_more (slice a.out.now a.at) (slice t.new.out t.result) (slice n.new.out n.result) a.words.now (decimal_of plain (pos a.count)) t.ensures d
