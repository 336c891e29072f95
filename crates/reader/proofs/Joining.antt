-- "The part of the line from any word on may be handed over, with the reader that came back and the unused part of the lent slice; if the
-- words before it were all taken, the results join as one."
use Prim.Native.Nat.{ℕ}
use mathlib.Core.Path.{◌≡◌}
use mathlib.Core.List.{List, ◌++◌}
use lib.ListN.{length}
use lib.IntN.{ℤ}
use Rattle.fold.specs.Calls.{unused, as_one}
use Rattle.fold.proofs.Calls as calls
use Rattle.reader.specs.Line.{Reading, whole, reads_line}
use Rattle.reader.specs.Promises.{ReadPromise}
use Rattle.reader.specs.declared.Reader.{Reader}
use Rattle.reader.proofs.Counted.{lawful}

-- of three reads: of p ++ q, of p, and of q with the reader that came back and the unused part of the slice
pub joining : (r : Reader) (p q : List ℕ) (out : List ℤ) (a b c : Reading) (x y z : List ℤ)
    → ReadPromise r p out b y
    → b.taken ≡ length p
    → ReadPromise b.next q (unused reads_line (whole b y)) c z
    → ReadPromise r (p ++ q) out a x
    → whole a x ≡ as_one reads_line (whole b y) (whole c z)
joining r p q out a b c x y z = calls.joining reads_line lawful r p q out
