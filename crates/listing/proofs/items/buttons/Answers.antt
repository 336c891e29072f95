-- The three buttons, one by one.
use Rattle.numbers.specs.Bits.{bit}
use Rattle.listing.proofs.Grown.{low_bit}
use Rattle.listing.proofs.items.buttons.Goals as goal

pub returns : goal.returns
unfolding bit
returns c = simp (low_bit, c.middle.ensures)
