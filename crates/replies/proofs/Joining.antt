-- "The part of the line from any word on may be handed over, with the reader that came back and the unused part of the lent slice; if the
-- words before it were all taken, the results join as one."
use Prim.Native.Nat.{ℕ}
use mathlib.Core.Path.{◌≡◌}
use mathlib.Core.List.{List, ◌++◌}
use lib.ListN.{length}
use lib.IntN.{ℤ}
use Rattle.fold.specs.Calls.{unused, as_one}
use Rattle.fold.proofs.Calls as calls
use Rattle.replies.specs.Line.{HeardLine, whole, hears_line}
use Rattle.replies.specs.Promises.{ReadPromise}
use Rattle.replies.specs.declared.ToldReader.{ToldReader}
use Rattle.replies.proofs.Permitted.{read_is}
use Rattle.replies.proofs.Goodness.{lawful}

pub joining : (s : ToldReader) (p q : List ℕ) (out : List ℤ) (a b c : HeardLine) (x y z : List ℤ)
    → ReadPromise s p out b y
    → b.taken ≡ length p
    → ReadPromise b.next q (unused hears_line (whole b y)) c z
    → ReadPromise s (p ++ q) out a x
    → whole a x ≡ as_one hears_line (whole b y) (whole c z)
joining s p q out a b c x y z f t h e =
    calls.joining hears_line lawful s p q out (read_is s p out b y f) t (read_is b.next q (unused hears_line (whole b y)) c z h) (read_is s (p ++ q) out a x e)
