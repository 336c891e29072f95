-- 6 for what stands for no reader, and then the read below.
use mathlib.Core.Path.{ap, ◌∙◌}
use Rattle.replies.specs.declared.ToldReader.{ToldReader}
use Rattle.replies.specs.Line.{heard_line_in}
use Rattle.replies.specs.Promises as replies
use Rattle.replies.proofs.Permitted.{read_is}
use Rattle.istrolf.specs.Told.{whole, packed_long}
use Rattle.istrolf.specs.Promises.{told_read_of}
use Rattle.istrolf.specs.declared.HeardWords.{HeardWords}
use Rattle.istrolf.proofs.told.istrolf_told_read.Goals as goal

pub returns-in-Ok : goal.returns-in-Ok
unfolding told_read_of
returns-in-Ok c = let a = c.args in
    let i = read_is c.in-Ok.told a.words.now a.out.now (heard_line_in c.read.result) c.read.new.out c.read.ensures ∙ ap (λ (r : ToldReader). replies.read_of r a.words.now a.out.now) c.in-Ok.ensures.1 in
    simp c.in-Ok.ensures.0
    (ap (λ (w : HeardWords). whole w c.read.new.out) c.from.ensures ∙ ap packed_long i)

pub returns-in-Err : goal.returns-in-Err
unfolding told_read_of
returns-in-Err c = let a = c.args in
    simp c.in-Err.ensures.0 (ap (λ (w : HeardWords). whole w a.out.now) c.refused_line.ensures)
