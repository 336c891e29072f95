-- The first movement that a format does not hold: what it says of the report, and its number.
use Prim.Native.Nat.{ℕ, ◌≤◌}
use mathlib.Core.Path.{◌≡◌, refl, sym, ◌∙◌, ap}
use mathlib.Core.Bool.{false, not, cond}
use native.Mathlib.Omega.{arith}
use lib.Dec.{eqb}
use borrow.Author.Tests.{not-true, not-false}
use Rattle.numbers.proofs.Choices.{cases}
use Rattle.numbers.proofs.Tested.{holds as so}
use Rattle.wire.specs.Holds.{within, x_range, y_range, second_range, unheld, is_none, holds, Fault}
use Rattle.wire.specs.Encoder.{unheld_number}
use Rattle.wire.specs.declared.Report.{Report}
use Rattle.wire.specs.declared.Format.{Format}
use Rattle.wire.specs.declared.Movement.{Movement}
use Rattle.wire.specs.declared.Movement.TheVariants.{FirstX, FirstY, SecondX, SecondY}
use Rattle.std.proofs.Common.{Option, Some, None}

module _ (f : Format) (r : Report) where
  -- it is not held, and those before it are
  pub fault : Fault f r (unheld f r)
  fault =
      let x = within (x_range f) r.x1 in
      let y = within (y_range f) r.y1 in
      let second_x = within (second_range f) r.x2 in
      let second_y = within (second_range f) r.y2 in
      cases (Fault f r) (not x) (λ a. not-true x a)
      (λ a. cases (Fault f r) (not y) (λ b. (not-false x a, not-true y b))
      (λ b. cases (Fault f r) (not second_x) (λ c. (not-false x a, not-false y b, not-true second_x c))
      (λ c. cases (Fault f r) (not second_y) (λ d. (not-false x a, not-false y b, not-false second_x c, not-true second_y d))
      (λ d. (not-false x a, not-false y b, not-false second_x c, not-false second_y d)))))

  -- and there is no other of which that can be said
  pub one_fault : (u : Option Movement) → Fault f r u → unheld f r ≡ u
  one_fault None h = rw (h.0, h.1, h.2, h.3)
  one_fault (Some FirstX) h = rw h
  one_fault (Some FirstY) h = rw (h.0, h.1)
  one_fault (Some SecondX) h = rw (h.0, h.1, h.2)
  one_fault (Some SecondY) h = rw (h.0, h.1, h.2, h.3)

  -- where the movements are not held there is one
  pub unheld_some : holds f r ≡ false → is_none (unheld f r) ≡ false
  unfolding holds
  unheld_some e = e

-- one of the four
pub some : (u : Option Movement) → (u ≡ None → ⊥) → is_none u ≡ false
some None n = absurd (n refl)
some (Some movement) n = refl

-- their numbers are 8 or more, and tell them apart
pub eight_or_more : (u : Option Movement) → is_none u ≡ false → 8 ≤ unheld_number u
eight_or_more None e = absurd (so (sym e))
eight_or_more (Some FirstX) e = omega arith
eight_or_more (Some FirstY) e = omega arith
eight_or_more (Some SecondX) e = omega arith
eight_or_more (Some SecondY) e = omega arith

numbered : ℕ → Option Movement
numbered n = cond (eqb n 8) (Some FirstX) (cond (eqb n 9) (Some FirstY) (cond (eqb n 10) (Some SecondX) (cond (eqb n 11) (Some SecondY) None)))

same : (u : Option Movement) → numbered (unheld_number u) ≡ u
unfolding numbered
same None = refl
same (Some FirstX) = refl
same (Some FirstY) = refl
same (Some SecondX) = refl
same (Some SecondY) = refl

pub told_apart : (u v : Option Movement) → unheld_number u ≡ unheld_number v → u ≡ v
told_apart u v e = sym (same u) ∙ ap numbered e ∙ same v
