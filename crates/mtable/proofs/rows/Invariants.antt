-- Row after row.
use Prim.Native.Nat.{◌+◌, ◌*◌, ◌≤◌}
use mathlib.Core.Path.{◌≡◌}
use mathlib.Core.List.{List, ◌++◌}
use lib.ListN.{length, take}
use Rattle.listing.specs.declared.Item.{Item}
use Rattle.mtable.specs.Table.{rows_of}
use Rattle.mtable.specs.Rows.{Among}
use Rattle.mtable.proofs.rows.Given as goal

abbrev pub invariant-loop-i : goal.invariant-loop-i
invariant-loop-i l =
    (length l.out ≡ length l.initial.out) × ((is : List Item) → Among l.count l.items is → (l.to ≤ l.at + 40 * l.i) × (take l.to l.out ≡ take l.at l.initial.out ++ rows_of (take l.i is)))
