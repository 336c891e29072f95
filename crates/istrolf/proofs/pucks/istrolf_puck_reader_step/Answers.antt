-- The step below, packed.
use Rattle.std.proofs.Common.{Ok, Err}
use mathlib.Core.Path.{ap, ◌∙◌}
use Rattle.puckreader.specs.Rules.{read_in}
use Rattle.puckreader.proofs.Permitted.{step_is}
use Rattle.istrolf.specs.Pucks.{packed_read}
use Rattle.istrolf.proofs.pucks.istrolf_puck_reader_step.Goals as goal

pub returns-in-Ok : goal.returns-in-Ok
returns-in-Ok c = let r = c.args.reader in c.answered.ensures ∙ ap packed_read (step_is r c.args.word (read_in r (Ok c.in-Ok.step)) c.in-Ok.ensures)

pub returns-in-Err : goal.returns-in-Err
returns-in-Err c =
    let r = c.args.reader in
    rw c.number.ensures at c.answered-in-Err.ensures ∙ ap packed_read (step_is r c.args.word (read_in r (Err c.in-Err.refusal)) c.in-Err.ensures)
