-- 6 for what stands for no reader, and then the step below.
use mathlib.Core.Path.{ap, ◌∙◌}
use Rattle.replies.specs.declared.ToldReader.{ToldReader}
use Rattle.replies.proofs.Permitted.{step_is}
use Rattle.replies.specs.Rules.{heard_in}
use Rattle.replies.specs.Promises.{step_of}
use Rattle.istrolf.specs.Told.{packed_heard}
use Rattle.istrolf.specs.Promises.{told_step_of}
use Rattle.istrolf.proofs.told.istrolf_told_step.Goals as goal

pub returns-in-Ok : goal.returns-in-Ok
unfolding told_step_of
returns-in-Ok c = let w = c.args.word in
    let s = c.in-Ok.told in
    let i = step_is s w (heard_in s c.step.result) c.step.ensures ∙ ap (λ (r : ToldReader). step_of r w) c.in-Ok.ensures.1 in
    simp c.in-Ok.ensures.0 (c.packed_heard.ensures ∙ ap packed_heard i)

pub returns-in-Err : goal.returns-in-Err
unfolding told_step_of
returns-in-Err c = simp c.in-Err.ensures.0 c.refused_heard.ensures
