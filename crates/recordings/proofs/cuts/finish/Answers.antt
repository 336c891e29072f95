-- What the second call wrote had room.
use native.Mathlib.Omega.{arith}
use Rattle.listing.proofs.Calls.{finish_within}
use Rattle.recordings.proofs.cuts.finish.Goals as goal

pub returns : goal.returns
returns c = let w = finish_within _ _ _ _ c.finish.ensures in omega arith
