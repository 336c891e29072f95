-- By its answer.
use Rattle.std.proofs.Common.{refl, arith, Err}
use Rattle.mwatch.proofs.Looking.{by_answer}
use Rattle.reader.specs.State.{given, read_in}
use Rattle.reader.specs.declared.Answer.TheVariants as answer
use Rattle.mwatch.proofs.LookTeller.word.Goals as goal

pub returns-in_default : goal.returns-in_default
returns-in_default c =
    let a = c.args in
    by_answer a.self.now a.word a.out.now a.at (read_in a.self.now.reader (Err c.in_default.field-0)) a.self.now a.out.now a.at answer.Nothing c.in_default.ensures refl (record { so = refl; few = omega arith }, refl)

pub returns-in-Nothing : goal.returns-in-Nothing
returns-in-Nothing c =
    let a = c.args in
    by_answer a.self.now a.word a.out.now a.at (given c.in-Ok.step) _ a.out.now a.at answer.Nothing c.in-Ok.ensures c.in-Nothing.is (record { so = refl; few = omega arith }, refl)

pub returns-in-Report : goal.returns-in-Report
returns-in-Report c =
    let a = c.args in
    let r = c.report in
    by_answer a.self.now a.word a.out.now a.at (given c.in-Ok.step) r.new.self r.new.out r.result (answer.Report c.in-Report.report) c.in-Ok.ensures c.in-Report.is r.ensures

pub returns-in-Dropped : goal.returns-in-Dropped
returns-in-Dropped c =
    let a = c.args in
    let r = c.dropped in
    by_answer a.self.now a.word a.out.now a.at (given c.in-Ok.step) r.new.self r.new.out r.result (answer.Dropped c.in-Dropped.lost) c.in-Ok.ensures c.in-Dropped.is r.ensures
