-- `over` behind a tab, byte by byte.
use mathlib.Core.Path.{◌∙◌}
use Rattle.listing.proofs.printing.over.Goals as goal

pub returns : goal.returns
returns c = c.byte_to.ensures ∙ rw (c.byte_to-r.ensures, c.byte_to-e.ensures, c.byte_to-v.ensures, c.byte_to-o.ensures)
