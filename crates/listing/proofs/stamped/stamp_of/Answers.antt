-- `stamp_of`: the digits between the tabs.
use Rattle.listing.proofs.Carried.{stamp_is}
use Rattle.listing.proofs.stamped.stamp_of.Goals as goal

pub returns : goal.returns
returns c = rw c.digit.ensures (stamp_is c.args.n _ _ c.digits.ensures)
