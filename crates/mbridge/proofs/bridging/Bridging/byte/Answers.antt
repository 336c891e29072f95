-- The bridge stays good.
use Rattle.mbridge.proofs.Words.{found_good}
use Rattle.mbridge.proofs.bridging.Bridging.byte.Goals as goal

pub invariant_of-result : goal.invariant_of-result
invariant_of-result c = record { sound = rw c.found-put.ensures.next (found_good c.args.self.bridge c.byte-scan.result.found c.args.self.sound) }
