-- `list`: the log that was read, printed.
use mathlib.Core.Path.{sym}
use native.Mathlib.Omega.{arith}
use lib.Seq.{length-take-le}
use Rattle.salvaged.specs.Promises.{list_of}
use Rattle.salvaged.proofs.list.Goals as goal

pub slice_bounds-print-end : goal.slice_bounds-print-end
slice_bounds-print-end c =
    let r = c.read-heard in
    let f = r.ensures.fine in
    sym (length-take-le r.result.count r.new.words (omega (arith, f.few, f.long)))

pub print-requires : goal.print-requires
print-requires c =
    let r = c.read-heard in
    let f = r.ensures.fine in
    (omega (arith, f.few, length-take-le r.result.count r.new.words (omega (arith, f.few, f.long))), f.short)

pub returns : goal.returns
unfolding list_of
returns c = rw (sym c.read-heard.ensures.same) c.print.ensures
