-- Each case of the word's answer.
use Rattle.std.proofs.Common.{Ok, Err}
use mathlib.Core.Path.{refl, ◌∙◌}
use native.Mathlib.Omega.{arith}
use Rattle.wire.proofs.Numbered.{never_success}
use Rattle.reader.specs.State.{read_in}
use Rattle.reader.proofs.Permitted.{step_is}
use Rattle.reader.proofs.Goodness.{step_word}
use Rattle.bridge.proofs.Keeps.{good_reader}
use Rattle.bridge.proofs.Loop.{stopping, taking, reporting}
use Rattle.bridge.proofs.Bridge.first.Goals as goal

pub returns-in-Err-clause-begins : goal.returns-in-Err-clause-begins
returns-in-Err-clause-begins c words =
    let r = c.args.self.reader in
    let word = step_is r c.args.word (read_in r (Err c.in-Err.refusal)) c.in-Err.ensures ∙ step_word r c.args.word (good_reader c.args.self c.requires) in
    rw c.converted.ensures (stopping words c.args.out.now c.requires word (λ z. absurd (never_success c.in-Err.refusal z)))

pub returns-in-Nothing-clause-begins : goal.returns-in-Nothing-clause-begins
returns-in-Nothing-clause-begins c words =
    let r = c.args.self.reader in
    let word = step_is r c.args.word (read_in r (Ok c.in-Ok.step)) c.in-Ok.ensures ∙ step_word r c.args.word (good_reader c.args.self c.requires) in
    let a = c.in-Nothing.is in
    rw (c.converted-in-Nothing.ensures, c.with.ensures)
    (rw a at (taking words c.args.out.now c.requires word refl (rw a (omega arith))))

pub returns-in-Dropped-clause-begins : goal.returns-in-Dropped-clause-begins
returns-in-Dropped-clause-begins c words =
    let r = c.args.self.reader in
    let word = step_is r c.args.word (read_in r (Ok c.in-Ok.step)) c.in-Ok.ensures ∙ step_word r c.args.word (good_reader c.args.self c.requires) in
    let a = c.in-Dropped.is in
    rw (c.converted-in-Dropped.ensures, c.with-in-Dropped.ensures)
    (rw a at (taking words c.args.out.now c.requires word refl (rw a (omega arith))))

pub returns-in-Report-clause-begins : goal.returns-in-Report-clause-begins
returns-in-Report-clause-begins c words =
    let r = c.args.self.reader in
    let word = step_is r c.args.word (read_in r (Ok c.in-Ok.step)) c.in-Ok.ensures ∙ step_word r c.args.word (good_reader c.args.self c.requires) in
    reporting words c.args.out.now c.requires word _ refl c.in-Report.is c.report.ensures.reported
