-- By what was refused.
use Rattle.std.proofs.Common.{[], ap, subst}
use Rattle.shell.specs.Standing.{Closes}
use Rattle.shell.proofs.Laws as standing
use Rattle.mwidth.specs.Told.{is_too_wide, is_faulty, tell_of}
use Rattle.mwidth.specs.Program.{mwidth}
use Rattle.mwidth.proofs.Words.{why_wide, why_faulty}
use Rattle.mwidth.proofs.refused.Goals as goal

pub returns-then-refusal-eq15 : goal.returns-then-refusal-eq15
returns-then-refusal-eq15 c =
    let a = c.args in
    let t = a.system.now.turn in
    standing.tells mwidth t c.tell.new.system.turn _ (tell_of a.line is_too_wide) (subst (Closes mwidth t []) (ap (tell_of a.line) (why_wide a.refusal c.if-refusal-eq15.true)) c.requires) c.tell.ensures

pub returns : goal.returns
returns c =
    let a = c.args in
    let t = a.system.now.turn in
    standing.tells mwidth t c.tell-2.new.system.turn _ (tell_of a.line is_faulty) (subst (Closes mwidth t []) (ap (tell_of a.line) (why_faulty a.refusal c.if-refusal-eq15.false)) c.requires) c.tell-2.ensures
