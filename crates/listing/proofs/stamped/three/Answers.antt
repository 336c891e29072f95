-- `three`: one after the other.
use Rattle.listing.proofs.Carried.{filled_more}
use Rattle.listing.proofs.stamped.three.Goals as goal

pub returns : goal.returns
returns c = rw (← c.pressed.ensures, ← c.middle.ensures, ← c.pressed-2.ensures)
    (filled_more (filled_more (filled_more c.byte-second.ensures c.byte-third.ensures) c.byte-end.ensures) c.byte.ensures)
