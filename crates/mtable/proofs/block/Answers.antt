-- A read that failed, the end of the input, or more.
use Rattle.shell.proofs.Laws as standing
use Rattle.mtable.specs.Blocks.{rest, tells}
use Rattle.mtable.specs.Program.{mtable}
use Rattle.std.proofs.Common.{take}
use Rattle.mtable.proofs.Turns.{ended, stands_behind, broke}
use Rattle.mtable.proofs.block.Goals as goal

pub returns-in_err-count : goal.returns-in_err-count
returns-in_err-count c =
    let a = c.args in
    let p = a.place in
    let t = a.system.now.turn in
    let b = c.behind in
    let front = take p.held a.input.now in
    record {
      leaves = broke b.new.self.turn p.reader p.held c.from_residual.result b.new.input c.from_residual.ensures.0
          (standing.misses mtable t b.new.self.turn (rest p.reader front) (tells p.reader front) c.requires.stands (c.in_err-count.ensures.behind.brought c.requires.held_in_bounds.0));
    }

pub returns-then-count-eq0 : goal.returns-then-count-eq0
returns-then-count-eq0 c =
    let a = c.args in
    let p = a.place in
    let r = c.requires.held_in_bounds in
    let b = c.behind in
    record { leaves = ended a.system.now.turn b.new.self.turn p.reader p.held c.in_ok-count.count a.input.now b.new.input r.0 r.3 c.requires.ready c.requires.stands c.in_ok-count.ensures.behind c.if-count-eq0.true }

pub listed-requires-clause-stands : goal.listed-requires-clause-stands
listed-requires-clause-stands c =
    let a = c.args in
    let p = a.place in
    let r = c.requires.held_in_bounds in
    let b = c.behind in
    stands_behind a.system.now.turn b.new.self.turn p.reader p.held c.in_ok-count.count a.input.now b.new.input r.0 r.3 c.requires.ready c.requires.stands c.in_ok-count.ensures.behind
