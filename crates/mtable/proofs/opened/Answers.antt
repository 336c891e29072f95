-- The row has room.
use native.Mathlib.Omega.{arith}
use mathlib.Core.Path.{◌∙◌, ap}
use mathlib.Core.Bool.{true}
use Rattle.text.specs.Growth.{grown_by}
use Rattle.mtable.specs.Table.{salvage_row}
use Rattle.mtable.proofs.Lines.{put_first}
use Rattle.mtable.proofs.opened.Goals as goal

pub returns : goal.returns
returns c =
    let put = c.put in
    let w = c.words-first in
    rw c.if-not-begins.false
    (put_first (salvage_row true) w.result c.args.out.now put.new.out put.result (omega arith) (w.ensures ∙ ap (λ (t : _). grown_by t (salvage_row true)) c.none.ensures) c.requires put.ensures)
