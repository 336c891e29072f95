-- `print`: the first line, and then the items.
use Rattle.listing.specs.Scanning.{width}
use Rattle.listing.specs.Printing.{opening_s, line_of}
use Rattle.salvaged.specs.Writing.{start}
use Rattle.salvaged.proofs.Writing.{adds_both, begins}
use Rattle.salvaged.proofs.Walking.{opening_few, in_the_end}
use Rattle.salvaged.proofs.walk.print.Goals as goal

pub returns : goal.returns
returns c =
    let before = c.args.out.now in
    let first = c.add-opened.ensures (line_of width (opening_s width)) c.salvage_opening.ensures opening_few in
    in_the_end ((adds_both first c.items.ensures).to before start (begins before))
