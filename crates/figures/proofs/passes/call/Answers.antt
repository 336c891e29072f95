-- `call`: no more is taken or written than is handed.
use borrow.Author.Rules.{rules}
use lib.ListN.{take}
use lib.Seq.{length-take-le}
use native.Mathlib.Omega.{arith}
use Rattle.reader.specs.Line.{reading_in}
use Rattle.reader.proofs.Bounds.{within}
use Rattle.figures.proofs.passes.call.Goals as goal

pub returns : goal.returns
returns c =
    let a = c.args in
    let f = within a.reader (take c.min-some.result a.words.now) (take c.min-places.result a.out.now) (reading_in c.read.result) _ c.read.ensures in
    let words = length-take-le c.min-some.result a.words.now (search rules) in
    let places = length-take-le c.min-places.result a.out.now (search rules) in
    record { taken = omega (arith, f.some); room = omega (arith, f.room); few = f.few }
