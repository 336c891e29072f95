-- Two tests together, and the two sides of a choice.
use mathlib.Core.Path.{◌≡◌, refl, subst}
use mathlib.Core.Bool.{Bool, true, false, cond, ◌&&◌, ◌||◌}
use lib.Dec.{T}

-- what holds of both sides of a choice holds of the choice
pub cases : {A : Type 0} (P : A → Type 0) (t : Bool) {x y : A} → (t ≡ true → P x) → (t ≡ false → P y) → P (cond t x y)
cases P true f g = f refl
cases P false f g = g refl

-- one of two tests holds
pub or_else : {P : Type 0} (a b : Bool) → (a ≡ true → P) → (b ≡ true → P) → a || b ≡ true → P
or_else true b f g e = f refl
or_else false b f g e = g e

pub other : (a b : Bool) → a || b ≡ true → a ≡ false → b ≡ true
other true b h e = absurd (subst T e tt)
other false b h e = h

pub either : (a b : Bool) → (a ≡ false → b ≡ true) → a || b ≡ true
either true b h = refl
either false b h = h refl

-- neither of two tests holds
pub neither : (a b : Bool) → a || b ≡ false → (a ≡ false) × (b ≡ false)
neither true b h = absurd (subst T h tt)
neither false b h = (refl, h)

-- both of two tests hold
pub both : (a b : Bool) → a ≡ true → b ≡ true → a && b ≡ true
both a b h k = rw (h, k)
