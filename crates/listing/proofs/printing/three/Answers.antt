-- The three buttons behind a tab, one after the other.
use mathlib.Core.Path.{◌∙◌}
use Rattle.listing.proofs.printing.three.Goals as goal

pub returns : goal.returns
returns c = c.byte_to.ensures ∙ rw (c.pressed-2.ensures, c.byte_to-right.ensures, c.middle.ensures, c.byte_to-second.ensures, c.pressed.ensures, c.byte_to-left.ensures)
