-- The end, or one that is missing.
use Rattle.std.proofs.Common.{[], subst}
use Rattle.shell.specs.Standing.{Closes}
use Rattle.shell.proofs.Laws as standing
use Rattle.mwidth.specs.Told.{is_missing, tell_of}
use Rattle.mwidth.specs.Program.{mwidth}
use Rattle.mwidth.proofs.Words.{end_missing, end_none}
use Rattle.mwidth.proofs.over.Goals as goal

pub returns-then-end-ne0 : goal.returns-then-end-ne0
returns-then-end-ne0 c =
    let p = c.args.place in
    let t = c.args.system.now.turn in
    let e = c.finish-end in
    standing.tells mwidth t c.tell.new.system.turn _ (tell_of e.result.line is_missing) (subst (Closes mwidth t []) (end_missing p.reader p.held e.result e.ensures c.if-end-ne0.true) c.requires) c.tell.ensures

pub returns : goal.returns
returns c =
    let p = c.args.place in
    let t = c.args.system.now.turn in
    let e = c.finish-end in
    standing.ends mwidth t (subst (Closes mwidth t []) (end_none p.reader p.held e.result e.ensures c.if-end-ne0.false) c.requires)
