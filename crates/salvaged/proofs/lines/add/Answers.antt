-- `add`: a line is put where there is room, and none behind one that had none.
use mathlib.Core.Path.{◌≡◌, sym, ◌∙◌}
use mathlib.Core.Bool.{true}
use native.Mathlib.Omega.{arith}
use borrow.Author.Tests.{not-true, not-false, leb-true}
use lib.Dec.{leb}
use lib.ListN.{length}
use Prim.Native.Nat.{◌+◌}
use Rattle.numbers.proofs.Tested.{right}
use Rattle.text.specs.Growth.{fits_at}
use Rattle.salvaged.proofs.Writing.{text_behind, text_put, text_unput}
use Rattle.salvaged.proofs.lines.add.Goals as goal

pub returns-then-not-told : goal.returns-then-not-told
returns-then-not-told c = let a = c.args in text_behind a.told a.out.now a.line (not-true _ c.if-not-told.true)

pub returns-then-not-put : goal.returns-then-not-put
returns-then-not-put c =
    let a = c.args in
    let p = c.put.ensures in
    rw p.1 (text_unput a.told a.out.now (not-false _ c.if-not-told.false) a.line (sym p.0 ∙ not-true _ c.if-not-put.true-raw))

pub overflow_add-result : goal.overflow_add-result
overflow_add-result c =
    let a = c.args in
    let f : fits_at a.line a.told.written a.out.now ≡ true = sym c.put.ensures.0 ∙ not-false _ c.if-not-put.false-raw in
    omega (arith, leb-true (a.told.written + a.line.len) (length a.out.now) (right (leb a.line.len 40) (leb (a.told.written + a.line.len) (length a.out.now)) f))

pub returns : goal.returns
returns c =
    let a = c.args in
    let p = c.put.ensures in
    rw p.1 (text_put a.told a.out.now (not-false _ c.if-not-told.false) a.line (sym p.0 ∙ not-false _ c.if-not-put.false-raw))
