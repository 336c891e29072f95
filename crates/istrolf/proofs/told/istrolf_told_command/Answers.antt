-- 6 for what stands for no reader, and then the telling below.
use mathlib.Core.Path.{ap, ◌∙◌}
use Rattle.replies.specs.declared.ToldReader.{ToldReader}
use Rattle.replies.specs.Promises.{tell_of}
use Rattle.replies.specs.declared.Asked.TheVariants.{Command}
use Rattle.istrolf.specs.Told.{packed_telling}
use Rattle.istrolf.specs.Promises as promises
use Rattle.istrolf.proofs.told.istrolf_told_command.Goals as goal

pub returns-in-Ok : goal.returns-in-Ok
unfolding promises.tell_of
returns-in-Ok c = let i = c.tell.ensures ∙ ap (λ (r : ToldReader). tell_of r (Command c.args.byte)) c.in-Ok.ensures.1 in
    simp c.in-Ok.ensures.0 (c.packed_telling.ensures ∙ ap packed_telling i)

pub returns-in-Err : goal.returns-in-Err
unfolding promises.tell_of
returns-in-Err c = simp c.in-Err.ensures.0 c.refused_telling.ensures
