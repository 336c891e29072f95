-- `shown`: at the loop's head what is left to print makes up the whole, and each line left has its places.
use Prim.Native.Nat.{◌+◌, ◌-◌, ◌*◌, ◌≤◌}
use mathlib.Core.Path.{◌≡◌}
use lib.ListN.{length}
use Rattle.text.specs.Growth.{slice, filled_by}
use Rattle.reader.specs.declared.Reader.{Reader}
use Rattle.listing.specs.Scanning.{width}
use Rattle.listing.specs.Printing.{all_bytes}
use Rattle.listing.specs.Stamped.{Stamps}
use Rattle.listing.specs.Batches.{ToldOf, items_over}
use Rattle.listing.proofs.Telling.{Left}
use Rattle.listing.proofs.batches.shown.Given as goal

abbrev pub invariant-loop-n : goal.invariant-loop-n
invariant-loop-n l =
    ((r : Reader) → ToldOf r l.words l.told → r.format ≡ l.letter → Left l.letter l.told l.n l.from (l.line + length l.words - l.n) (slice l.out l.used) (filled_by (slice l.initial.out l.at) (all_bytes width (items_over r l.line l.words))))
    × Stamps l.n l.stamp
    × (l.from ≤ 6 * (l.n - l.line))
    × (l.used ≤ l.at + 40 * (l.n - l.line))
