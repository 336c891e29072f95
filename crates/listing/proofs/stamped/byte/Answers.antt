-- `byte`: in the place that is there.
use Rattle.listing.proofs.Carried.{filled_one}
use Rattle.listing.proofs.stamped.byte.Goals as goal

pub returns : goal.returns
returns c = filled_one c.args.out.now c.args.at c.args.b c.requires
