-- Sums of signed numbers: two that have the same terms, in whatever order and grouping, are equal.
use Prim.Native.Nat.{ℕ, zero, suc}
use mathlib.Core.Path.{◌≡◌, refl, sym, ap, ◌∙◌}
use mathlib.Core.Bool.{Bool, true, false, cond}
use mathlib.Core.List.{List, [], ◌∷◌}
use lib.Dec.{leb}
use lib.IntN.{ℤ, pos, ◌+ℤ◌, +ℤ_assoc, +ℤ_comm, +ℤ_idl}

-- a sum of terms that are told by their places in a list
infixr 20 ◌plus◌
pub data Sum : Type 0 where
  none : Sum
  term : ℕ → Sum
  ◌plus◌ : Sum → Sum → Sum

abbrev pub pick : List ℤ → ℕ → ℤ
pick [] n = pos 0
pick (t ∷ terms) zero = t
pick (t ∷ terms) (suc n) = pick terms n

abbrev pub total : List ℤ → Sum → ℤ
total terms none = pos 0
total terms (term n) = pick terms n
total terms (s plus t) = total terms s +ℤ total terms t

-- its terms in order
abbrev put : ℕ → List ℕ → List ℕ
put n [] = n ∷ []
put n (m ∷ places) = cond (leb n m) (n ∷ m ∷ places) (m ∷ put n places)

abbrev merged : List ℕ → List ℕ → List ℕ
merged [] others = others
merged (n ∷ places) others = put n (merged places others)

abbrev pub ordered : Sum → List ℕ
ordered none = []
ordered (term n) = n ∷ []
ordered (s plus t) = merged (ordered s) (ordered t)

abbrev summed : List ℤ → List ℕ → ℤ
summed terms [] = pos 0
summed terms (n ∷ places) = pick terms n +ℤ summed terms places

put_summed : (terms : List ℤ) (n : ℕ) (places : List ℕ) → summed terms (put n places) ≡ pick terms n +ℤ summed terms places
put_summed terms n [] = refl
put_summed terms n (m ∷ places) = go (leb n m) refl (put_summed terms n places)
  where
    x : ℤ
    x = pick terms n

    y : ℤ
    y = pick terms m

    rest : ℤ
    rest = summed terms places

    go : (t : Bool) → leb n m ≡ t → summed terms (put n places) ≡ x +ℤ rest → summed terms (put n (m ∷ places)) ≡ x +ℤ (y +ℤ rest)
    go true e h = rw e
    go false e h = rw (e, h) (sym (+ℤ_assoc y x rest) ∙ (ap (λ (s : ℤ). s +ℤ rest) (+ℤ_comm y x) ∙ +ℤ_assoc x y rest))

merged_summed : (terms : List ℤ) (places others : List ℕ) → summed terms (merged places others) ≡ summed terms places +ℤ summed terms others
merged_summed terms [] others = sym (+ℤ_idl (summed terms others))
merged_summed terms (n ∷ places) others =
    put_summed terms n (merged places others)
    ∙ (ap (λ (s : ℤ). pick terms n +ℤ s) (merged_summed terms places others) ∙ sym (+ℤ_assoc (pick terms n) (summed terms places) (summed terms others)))

in_order : (terms : List ℤ) (s : Sum) → total terms s ≡ summed terms (ordered s)
in_order terms none = refl
in_order terms (term n) = sym (+ℤ_comm (pick terms n) (pos 0) ∙ +ℤ_idl (pick terms n))
in_order terms (s plus t) =
    ap (λ (x : ℤ). x +ℤ total terms t) (in_order terms s)
    ∙ (ap (λ (x : ℤ). summed terms (ordered s) +ℤ x) (in_order terms t) ∙ sym (merged_summed terms (ordered s) (ordered t)))

pub same_terms : (terms : List ℤ) (s t : Sum) → ordered s ≡ ordered t → total terms s ≡ total terms t
same_terms terms s t e = in_order terms s ∙ (ap (summed terms) e ∙ sym (in_order terms t))
