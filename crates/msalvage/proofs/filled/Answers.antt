-- A read failed, brought more, or brought nothing.
use Rattle.std.proofs.Common.{◌<◌, ◌∙◌, length, arith}
use Rattle.std.proofs.lemmas.Result.{err_from_is_err_and}
use Rattle.shell.specs.Standing.{silent}
use Rattle.shell.proofs.Laws as standing
use Rattle.msalvage.specs.Program.{msalvage}
use Rattle.msalvage.proofs.Turns.{holds, over, full}
use Rattle.msalvage.proofs.filled.Goals as goal

pub returns-in_err-n : goal.returns-in_err-n
returns-in_err-n c =
    let l = c.loop-count in
    let p = err_from_is_err_and c.from_residual.result c.from_residual.ensures.1 in
    rw p.1 (standing.misses msalvage _ c.behind.new.self.turn _ silent l.invariant.holds (c.in_err-n.ensures.behind.brought l.invariant.within))

pub returns-then-n-eq0 : goal.returns-then-n-eq0
returns-then-n-eq0 c =
    let l = c.loop-count in
    let b = c.in_ok-n.ensures.behind in
    let room : l.count < length c.behind.new.input = omega (arith, b.long, c.loop-count-test.true) in
    (omega arith, over l.count l.input c.behind.new.input l.invariant.holds b l.invariant.within c.if-n-eq0.true room)

pub loop-count-preserved : goal.loop-count-preserved
loop-count-preserved c =
    let l = c.loop-count in
    let b = c.in_ok-n.ensures.behind in
    record {
      holds = holds l.count l.input c.behind.new.input l.invariant.holds b l.invariant.within;
      within = b.within l.invariant.within;
      long = b.long ∙ l.invariant.long;
    }

pub returns : goal.returns
returns c =
    let l = c.loop-count in
    (l.invariant.within, full l.system.turn l.count l.input l.invariant.holds l.invariant.within c.loop-count-test.false (omega (arith, l.invariant.long, c.requires.decides_in_bounds)))
