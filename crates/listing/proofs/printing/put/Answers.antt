-- The line of what is given.
use mathlib.Core.Path.{◌∙◌}
use mathlib.Core.List.{append-nil}
use Rattle.listing.specs.Printing.{form_of, line_of}
use Rattle.listing.proofs.printing.put.Goals as goal

pub returns-in-None : goal.returns-in-None
returns-in-None c = rw c.in-None.is

pub returns-in-Some : goal.returns-in-Some
returns-in-Some c = c.line_to.ensures ∙ rw (c.in-Some.is, append-nil (line_of c.args.width (form_of c.in-Some.item)))
