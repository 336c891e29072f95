-- What was read is written, and the rest is held.
use borrow.Author.Rules.{rules}
use native.Mathlib.Omega.{arith}
use mathlib.Core.Path.{◌≡◌, refl, sym, subst}
use mathlib.Core.Bool.{true, false, not, ◌&&◌}
use lib.ListN.{length, take}
use lib.Seq.{length-take-le}
use Rattle.shell.specs.Outside.{Handed}
use Rattle.readback.specs.Steps.{of_salvage}
use Rattle.mtable.specs.Table.{rows_of}
use Rattle.mtable.specs.Program.{mtable}
use Rattle.mtable.proofs.Pieces as pieces
use Rattle.mtable.proofs.Turns.{taken_fits, rows_there, fails, faults, goes_on, broke}
use Rattle.mtable.proofs.listed.Goals as goal

pub overflow_sub-left : goal.overflow_sub-left
overflow_sub-left c =
    let f = c.read-back in
    let t = c.args.system.now.turn in
    taken_fits t t c.args.reader c.args.all c.args.input.now c.args.items.now f.new.out c.args.input.now f.result true c.requires.all_in_bounds.0 c.requires.all_in_bounds.1 c.requires.all_in_bounds.3 c.requires.stands f.ensures

pub rows-n-requires : goal.rows-n-requires
rows-n-requires c =
    let f = c.read-back in
    let o = c.opened-at in
    let piece = take c.args.all c.args.input.now in
    let items = c.args.items.now in
    let after = f.new.out in
    let g = c.requires.all_in_bounds.3 in
    let same : length o.new.out ≡ length c.args.out.now = search rules in
    record {
      among = (pieces.items c.args.reader piece items after f.result g f.ensures, pieces.among c.args.reader piece items after f.result g f.ensures);
      count_in_bounds = omega (arith, o.ensures.1, same, c.requires.all_in_bounds.2, pieces.few_items c.args.reader piece items after f.result g f.ensures);
    }

pub slice_bounds-show-end-2 : goal.slice_bounds-show-end-2
slice_bounds-show-end-2 c =
    let f = c.read-back in
    let piece = take c.args.all c.args.input.now in
    let g = c.requires.all_in_bounds.3 in
    (c.rows-n.ensures (pieces.items c.args.reader piece c.args.items.now f.new.out f.result g f.ensures)
    (pieces.among c.args.reader piece c.args.items.now f.new.out f.result g f.ensures)).there

pub slice_bounds-show-end-3 : goal.slice_bounds-show-end-3
slice_bounds-show-end-3 c =
    let f = c.read-back in
    let piece = take c.args.all c.args.input.now in
    let g = c.requires.all_in_bounds.3 in
    sym (length-take-le _ _ ((c.rows-n.ensures (pieces.items c.args.reader piece c.args.items.now f.new.out f.result g f.ensures)
    (pieces.among c.args.reader piece c.args.items.now f.new.out f.result g f.ensures)).there))

pub returns-in_err-show : goal.returns-in_err-show
returns-in_err-show c =
    let a = c.args in
    let f = c.read-back in
    let o = c.opened-at in
    let k = c.rows-n in
    let t = a.system.now.turn in
    let t' = c.show.new.self.turn in
    let r = a.reader in
    let input = a.input.now in
    let piece = take a.all input in
    let items = a.items.now in
    let after = f.new.out in
    let q = c.requires.all_in_bounds in
    let is = pieces.items r piece items after f.result q.3 f.ensures in
    let wrote = k.ensures is (pieces.among r piece items after f.result q.3 f.ensures) in
    let text = rows_there (of_salvage f.result.next && not (of_salvage r)) (rows_of is) a.out.now o.new.out k.new.out o.result k.result o.ensures.0 wrote in
    let h = subst (Handed mtable.output t t' false) text c.in_err-show.ensures.handed in
    record {
      leaves = λ held b l. broke t' r held c.from_residual.result input c.from_residual.ensures.0 (fails t t' r a.all input items after input f.result false q.0 q.1 q.3 c.requires.stands f.ensures h refl);
    }

pub returns-then-back-ne0 : goal.returns-then-back-ne0
returns-then-back-ne0 c =
    let a = c.args in
    let f = c.read-back in
    let o = c.opened-at in
    let k = c.rows-n in
    let t = a.system.now.turn in
    let t' = c.show.new.self.turn in
    let r = a.reader in
    let input = a.input.now in
    let piece = take a.all input in
    let items = a.items.now in
    let after = f.new.out in
    let q = c.requires.all_in_bounds in
    let is = pieces.items r piece items after f.result q.3 f.ensures in
    let wrote = k.ensures is (pieces.among r piece items after f.result q.3 f.ensures) in
    let text = rows_there (of_salvage f.result.next && not (of_salvage r)) (rows_of is) a.out.now o.new.out k.new.out o.result k.result o.ensures.0 wrote in
    let h = subst (Handed mtable.output t t' true) text c.in_ok-show.ensures.handed in
    record { leaves = λ held b l. faults t t' r a.all input items after input f.result true q.0 q.1 q.3 c.requires.stands f.ensures h refl c.if-back-ne0.true }

pub returns : goal.returns
returns c =
    let a = c.args in
    let f = c.read-back in
    let o = c.opened-at in
    let k = c.rows-n in
    let t = a.system.now.turn in
    let t' = c.show.new.self.turn in
    let r = a.reader in
    let input = a.input.now in
    let piece = take a.all input in
    let items = a.items.now in
    let after = f.new.out in
    let q = c.requires.all_in_bounds in
    let is = pieces.items r piece items after f.result q.3 f.ensures in
    let wrote = k.ensures is (pieces.among r piece items after f.result q.3 f.ensures) in
    let text = rows_there (of_salvage f.result.next && not (of_salvage r)) (rows_of is) a.out.now o.new.out k.new.out o.result k.result o.ensures.0 wrote in
    let h = subst (Handed mtable.output t t' true) text c.in_ok-show.ensures.handed in
    let input' = c.keep.new.input in
    let same : length input' ≡ length input = search rules in
    record { leaves = λ held b l. goes_on t t' r a.all input items after input' f.result true q.0 q.1 q.3 c.requires.stands f.ensures h refl c.if-back-ne0.false same c.keep.ensures held b l }
