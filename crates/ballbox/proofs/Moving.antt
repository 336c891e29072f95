-- What moved means: two pairs are apart exactly where they differ.
use Prim.Native.Nat.{ℕ}
use mathlib.Core.Path.{◌≡◌, sym, ap, subst}
use mathlib.Core.Bool.{false, ◌||◌}
use native.Mathlib.Omega.{arith}
use lib.Dec.{T, ltb}
use lib.IntN.{ℤ, pos, negsuc}
use borrow.Author.Tests.{ltb-false, le-ltb}
use Rattle.numbers.proofs.Choices.{neither}
use Rattle.ballbox.specs.Motion.{differ, apart}
use Rattle.ballbox.specs.declared.Pair.{Pair}

not_below : (a b : ℕ) → ltb a b || ltb b a ≡ false → a ≡ b
not_below a b h = let e = neither (ltb a b) (ltb b a) h in omega (arith, ltb-false a b e.0, ltb-false b a e.1)

one_number : (a b : ℤ) → differ a b ≡ false → a ≡ b
one_number (pos a) (pos b) h = ap pos (not_below a b h)
one_number (pos a) (negsuc b) h = absurd (subst T h tt)
one_number (negsuc a) (pos b) h = absurd (subst T h tt)
one_number (negsuc a) (negsuc b) h = ap negsuc (sym (not_below b a h))

differs_not : (a : ℤ) → differ a a ≡ false
differs_not (pos a) = rw (le-ltb a a (omega arith))
differs_not (negsuc a) = rw (le-ltb a a (omega arith))

pub apart_or_same : (p q : Pair) → apart p q ≡ false → p ≡ q
unfolding apart
apart_or_same p q h =
    let e = neither (differ p.x q.x) (differ p.y q.y) h in
    let x = one_number p.x q.x e.0 in
    let y = one_number p.y q.y e.1 in
    λ i. record { x = x i; y = y i }

pub same_not_apart : (p : Pair) → apart p p ≡ false
unfolding apart
same_not_apart p = rw (differs_not p.x, differs_not p.y)
