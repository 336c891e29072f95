-- "The part of the line from any word on may be handed over, with the reader that came back and the unused part of the lent slice; if the words before it were all taken, the results join
-- as one."
use Prim.Native.Nat.{ℕ}
use mathlib.Core.Path.{◌≡◌}
use mathlib.Core.List.{List, ◌++◌}
use lib.ListN.{length}
use lib.IntN.{ℤ}
use Rattle.fold.specs.Calls.{unused, as_one}
use Rattle.fold.proofs.Calls as calls
use Rattle.puckreader.specs.Line.{PuckReading, whole, reads_line}
use Rattle.puckreader.specs.Promises.{ReadPromise}
use Rattle.puckreader.specs.declared.PuckReader.{PuckReader}
use Rattle.puckreader.proofs.Counting.{lawful}

pub joining : (r : PuckReader) (p q : List ℕ) (out : List ℤ) (a b c : PuckReading) (x y z : List ℤ)
    → ReadPromise r p out b y
    → b.taken ≡ length p
    → ReadPromise b.next q (unused reads_line (whole b y)) c z
    → ReadPromise r (p ++ q) out a x
    → whole a x ≡ as_one reads_line (whole b y) (whole c z)
joining r p q out a b c x y z = calls.joining reads_line lawful r p q out
