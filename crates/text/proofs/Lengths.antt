-- Laws of where a byte stands: within the bytes, byte by byte, behind others, and in a front that has it.
use Prim.Native.Nat.{ℕ, suc, ◌+◌, ◌≤◌}
use mathlib.Core.Path.{◌≡◌, refl, ap}
use mathlib.Core.Bool.{Bool, true, false, cond}
use mathlib.Core.List.{List, [], ◌∷◌, ◌++◌}
use native.Mathlib.Omega.{arith}
use lib.Dec.{eqb, ltb}
use lib.ListN.{length, take}
use borrow.Author.Tests.{ltb-false}
use Rattle.std.proofs.Common.{Option, Some, None, position, unwrap_or}
use Rattle.std.specs.List.{position_or_len}
use Rattle.std.proofs.lemmas.List.Recursion.{is_position_or_len}
use Rattle.numbers.proofs.Choices.{cases}
use Rattle.text.specs.Lengths.{length_to}

-- no more bytes stand in front of the first than there are
pub to_within : (stop : ℕ) (l : List ℕ) → length_to stop l ≤ length l
to_within stop [] = omega arith
to_within stop (c ∷ l) = cases (λ (n : ℕ). n ≤ suc (length l)) (eqb c stop) (λ _. omega arith) (λ _. omega (arith, to_within stop l))

-- what a search for it answers, or else the length of the bytes
pub position_is : (stop : ℕ) (l : List ℕ) → length_to stop l ≡ position_or_len (λ (b : ℕ). eqb b stop) l
position_is stop l = is_position_or_len (length_to stop) (λ (b : ℕ). eqb b stop) refl (λ c cs. let e : suc (length_to stop cs) ≡ 1 + length_to stop cs = omega arith in rw e) l

pub searched : (stop : ℕ) (l : List ℕ) (r : Option ℕ) → r ≡ position (λ (b : ℕ). eqb b stop) l → unwrap_or r (length l) ≡ length_to stop l
searched stop l r h = rw (h, ← position_is stop l) (go (ltb (length_to stop l) (length l)) refl)
  where
    go : (t : Bool) → ltb (length_to stop l) (length l) ≡ t → unwrap_or (cond t (Some (length_to stop l)) None) (length l) ≡ length_to stop l
    go true e = refl
    go false e = omega (arith, ltb-false (length_to stop l) (length l) e, to_within stop l)

-- behind bytes that have none
pub to_append : (stop : ℕ) (l q : List ℕ) → length_to stop l ≡ length l → length_to stop (l ++ q) ≡ length l + length_to stop q
to_append stop [] q e = omega arith
to_append stop (c ∷ l) q e = go (eqb c stop) refl (to_append stop l q)
  where
    go : (t : Bool) → eqb c stop ≡ t → (length_to stop l ≡ length l → length_to stop (l ++ q) ≡ length l + length_to stop q)
        → length_to stop (c ∷ l ++ q) ≡ suc (length l) + length_to stop q
    go true b ih = absurd (omega (arith, rw b at e))
    go false b ih = let k : suc (length_to stop l) ≡ suc (length l) = rw b at e in rw b (omega (arith, ih (omega arith)))

-- in the bytes up to it
pub same_length_to : (stop : ℕ) (l : List ℕ) → length_to stop (take (suc (length_to stop l)) l) ≡ length_to stop l
same_length_to stop [] = refl
same_length_to stop (c ∷ l) = go (eqb c stop) refl (same_length_to stop l)
  where
    go : (t : Bool) → eqb c stop ≡ t → length_to stop (take (suc (length_to stop l)) l) ≡ length_to stop l
        → length_to stop (take (suc (length_to stop (c ∷ l))) (c ∷ l)) ≡ length_to stop (c ∷ l)
    go true b ih = rw b
    go false b ih = rw b (ap suc ih)
