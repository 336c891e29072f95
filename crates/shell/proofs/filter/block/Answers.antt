-- A read that failed.
use Rattle.std.proofs.Common.{List, ℕ, subst}
use Rattle.std.proofs.lemmas.Result.{err_from_is_err_and}
use Rattle.shell.specs.Outside.{Misses}
use Rattle.shell.specs.Standing.{silent}
use Rattle.shell.proofs.Laws as standing
use Rattle.shell.proofs.filter.block.Goals as goal

pub returns-in_err-n : goal.returns-in_err-n
returns-in_err-n g c =
    let t = c.args.system.now.turn in
    let t' = c.more.new.self.turn in
    let p = err_from_is_err_and c.from_residual.result c.from_residual.ensures.1 in
    λ k.
    let missed = subst (λ (name : List ℕ). Misses name t t') k.named c.in_err-n.ensures.brought in
    rw p.1 (standing.misses g.F.Filter.program t t' (g.F.Filter.rest c.args.filter) silent k.stands missed)
