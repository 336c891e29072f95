-- The end, or a fault there.
use Rattle.std.proofs.Common.{ℕ, subst}
use Rattle.shell.specs.Standing.{Closes}
use Rattle.shell.proofs.Laws as standing
use Rattle.mtable.specs.Table.{last_row, fault_words}
use Rattle.mtable.specs.Program.{mtable}
use Rattle.mtable.proofs.Faults.{end_is, end_none, end_some}
use Rattle.mtable.proofs.over.Goals as goal

pub faulty-requires : goal.faulty-requires
faulty-requires c =
    let p = c.args.place in
    let t = c.args.system.now.turn in
    let e = c.finish-end in (
      subst (λ (n : ℕ). Closes mtable t (last_row n) (fault_words n)) (end_is p e.result e.ensures) c.requires.0,
      end_some p e.result e.ensures c.if-end-ne0.true c.requires.1,
    )

pub returns : goal.returns
returns c =
    let p = c.args.place in
    let t = c.args.system.now.turn in
    let e = c.finish-end in
    let fine = end_none p e.result e.ensures c.if-end-ne0.false c.requires.1 in
    standing.last mtable t c.show.new.self.turn _ (last_row 0) (subst (λ (n : ℕ). Closes mtable t (last_row n) (fault_words n)) fine c.requires.0) c.show.ensures.handed
