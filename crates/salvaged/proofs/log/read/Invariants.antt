-- `read`: at the loop's head the bytes passed have been heard, and the others are still to be.
use mathlib.Core.Path.{◌≡◌}
use lib.ListN.{drop}
use Rattle.listing.specs.Scanning.{unfed}
use Rattle.listing.proofs.Scanned.{all_found}
use Rattle.salvaged.specs.Log.{empty, heard_all}
use Rattle.salvaged.specs.Hearing.{log_in, Fine}
use Rattle.salvaged.proofs.log.read.Given as goal

abbrev pub invariant-loop-byte : goal.invariant-loop-byte
invariant-loop-byte l =
    Fine l.log l.words × (heard_all empty (all_found unfed l.input) ≡ heard_all (log_in l.log l.words) (all_found l.scanner (drop l.byte-index l.input)))
