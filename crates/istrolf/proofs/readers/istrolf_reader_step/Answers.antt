-- 6 for what stands for no reader, and then the step below.
use mathlib.Core.Path.{ap, ◌∙◌}
use Rattle.reader.proofs.Permitted.{step_is}
use Rattle.reader.specs.State.{read_in}
use Rattle.reader.specs.Promises.{step_of}
use Rattle.reader.specs.declared.Reader.{Reader}
use Rattle.istrolf.specs.Readers.{packed_read}
use Rattle.istrolf.specs.Promises.{reader_step_of}
use Rattle.istrolf.proofs.readers.istrolf_reader_step.Goals as goal

pub returns-in-Ok : goal.returns-in-Ok
unfolding reader_step_of
returns-in-Ok c = let w = c.args.word in
    let o = c.in-Ok.ensures in
    let r = c.in-Ok.reader in
    let i = step_is r w (read_in r c.step.result) c.step.ensures ∙ ap (λ (r : Reader). step_of r w) o.1 in
    simp o.0 (c.packed_read.ensures ∙ ap packed_read i)

pub returns-in-Err : goal.returns-in-Err
unfolding reader_step_of
returns-in-Err c = simp c.in-Err.ensures.0 c.refused_read.ensures
