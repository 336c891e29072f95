-- `item`: the text of its line, which is short.
use native.Mathlib.Omega.{arith}
use Rattle.listing.specs.Scanning.{width}
use Rattle.listing.specs.Printing.{form_of, line_of}
use Rattle.listing.proofs.Few.{few_form, most_item}
use Rattle.salvaged.proofs.lines.item.Goals as goal

pub returns : goal.returns
returns c =
    let i = c.args.item in
    c.add.ensures (line_of width (form_of i)) c.line.ensures (omega (arith, few_form (form_of i) c.requires, most_item i))
