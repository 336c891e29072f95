-- All of the salvage has room, and that much is written.
use Rattle.std.proofs.Common.{ℕ, List, [], sym, subst, take, is_ok}
use lib.Seq.{length-take-le}
use Rattle.shell.specs.Standing.{Closes}
use Rattle.shell.proofs.Laws as standing
use Rattle.msalvage.specs.Program.{msalvage}
use Rattle.msalvage.proofs.Turns.{in_buffer, shows}
use Rattle.msalvage.proofs.whole.Goals as goal

pub slice_bounds-show-end-2 : goal.slice_bounds-show-end-2
slice_bounds-show-end-2 c = let l = c.list-told in in_buffer _ c.args.out.now l.result l.new.out l.ensures c.requires.decides_in_bounds.1

pub slice_bounds-show-end-3 : goal.slice_bounds-show-end-3
slice_bounds-show-end-3 c =
    let l = c.list-told in
    sym (length-take-le _ _ (in_buffer _ c.args.out.now l.result l.new.out l.ensures c.requires.decides_in_bounds.1))

pub returns : goal.returns
returns c =
    let l = c.list-told in
    let t = c.filled.new.system.turn in
    let read = take c.in_ok-count.count c.filled.new.input in
    let all = shows read c.args.out.now l.result l.new.out l.ensures c.requires.decides_in_bounds.1 in
    standing.last msalvage t c.show.new.self.turn (is_ok c.show.result) (take l.result.written l.new.out)
    (subst (λ (text : List ℕ). Closes msalvage t text []) (sym all) c.in_ok-count.ensures.1) c.show.ensures.handed
