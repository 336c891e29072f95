-- "The part of the line from any word on may be handed over, with the reader that came back and the unused part of the lent slice; if the
-- words before it were all taken, the results join as one."
use Prim.Native.Nat.{ℕ}
use mathlib.Core.Path.{◌≡◌}
use mathlib.Core.List.{List, ◌++◌}
use lib.ListN.{length}
use Rattle.fold.specs.Calls.{unused, as_one}
use Rattle.fold.proofs.Calls as calls
use Rattle.bridge.specs.Line.{Converted, whole, converts}
use Rattle.bridge.specs.Promises.{ConvertPromise}
use Rattle.bridge.specs.declared.Bridge.{Bridge}
use Rattle.bridge.proofs.Counted.{lawful}

-- of three calls: of p ++ q, of p, and of q with the bridge that came back and the unused part of the slice
pub joining : (b : Bridge) (p q out : List ℕ) (s t u : Converted) (x y z : List ℕ)
    → ConvertPromise b p out t y
    → t.taken ≡ length p
    → ConvertPromise t.next q (unused converts (whole t y)) u z
    → ConvertPromise b (p ++ q) out s x
    → whole s x ≡ as_one converts (whole t y) (whole u z)
joining b p q out s t u x y z = calls.joining converts lawful b p q out
