-- Five bytes, one by one.
use Prim.Native.Nat.{ℕ}
use mathlib.Core.Path.{◌≡◌, refl}
use mathlib.Core.List.{List, [], ◌∷◌}
use native.Mathlib.Omega.{arith}
use lib.ListN.{length, get_or}

pub five_is : (k : List ℕ) → length k ≡ 5 → get_or k 0 0 ∷ get_or k 1 0 ∷ get_or k 2 0 ∷ get_or k 3 0 ∷ get_or k 4 0 ∷ [] ≡ k
five_is [] h = absurd (omega arith)
five_is (a ∷ []) h = absurd (omega arith)
five_is (a ∷ b ∷ []) h = absurd (omega arith)
five_is (a ∷ b ∷ c ∷ []) h = absurd (omega arith)
five_is (a ∷ b ∷ c ∷ d ∷ []) h = absurd (omega arith)
five_is (a ∷ b ∷ c ∷ d ∷ e ∷ []) h = refl
five_is (a ∷ b ∷ c ∷ d ∷ e ∷ f ∷ l) h = absurd (omega arith)
