-- What is sent for many reports adds up to their movements; in A to the last position less the first.
use Prim.Native.Nat.{ℕ}
use mathlib.Core.Path.{◌≡◌, refl, sym, ◌∙◌, ap, ap₂}
use mathlib.Core.Bool.{false}
use mathlib.Core.List.{List, [], ◌∷◌, ◌++◌}
use lib.IntN.{ℤ, pos, neg_ℤ, ◌+ℤ◌, ◌-ℤ◌, +ℤ_idl, +ℤ_invr, +ℤ_assoc, +ℤ_comm, -ℤ-+ℤ_cancel}
use Rattle.wire.specs.Line.{letter_of}
use Rattle.wire.specs.declared.Report.{Report}
use Rattle.wire.specs.declared.Format.TheVariants.{Absolute}
use Rattle.bridge.specs.Remembered.{is_a, move, base_at, since_base, movement, noted}
use Rattle.bridge.specs.Splitting.{becomes}
use Rattle.bridge.specs.Sums.{sum_x, sum_y}
use Rattle.bridge.specs.Sent.{sends, last_of, moved_x, moved_y}
use Rattle.bridge.specs.declared.Base.{Base}
use Rattle.bridge.specs.declared.Past.{Past}
use Rattle.bridge.specs.declared.Move.{Move}
use Rattle.bridge.proofs.Splits.{adds_up}

sum_x_lem : (l k : List Report) → sum_x (l ++ k) ≡ sum_x l +ℤ sum_x k
sum_x_lem [] k = sym (+ℤ_idl (sum_x k))
sum_x_lem (v ∷ l) k = ap (λ (z : ℤ). v.x1 +ℤ z) (sum_x_lem l k) ∙ sym (+ℤ_assoc v.x1 (sum_x l) (sum_x k))

sum_y_lem : (l k : List Report) → sum_y (l ++ k) ≡ sum_y l +ℤ sum_y k
sum_y_lem [] k = sym (+ℤ_idl (sum_y k))
sum_y_lem (v ∷ l) k = ap (λ (z : ℤ). v.y1 +ℤ z) (sum_y_lem l k) ∙ sym (+ℤ_assoc v.y1 (sum_y l) (sum_y k))

-- one report, and then others
module _ (letter : ℕ) (past : Past) (p : Report) (reports : List Report) where
  first_x : sum_x (sends letter past (p ∷ reports)) ≡ (movement letter past p).x +ℤ sum_x (sends letter (noted letter past p) reports)
  unfolding sends
  first_x = sum_x_lem (becomes letter past p) (sends letter (noted letter past p) reports) ∙ ap (λ (z : ℤ). z +ℤ sum_x (sends letter (noted letter past p) reports)) (adds_up letter past p).east

  first_y : sum_y (sends letter past (p ∷ reports)) ≡ (movement letter past p).y +ℤ sum_y (sends letter (noted letter past p) reports)
  unfolding sends
  first_y = sum_y_lem (becomes letter past p) (sends letter (noted letter past p) reports) ∙ ap (λ (z : ℤ). z +ℤ sum_y (sends letter (noted letter past p) reports)) (adds_up letter past p).north

-- outside A: every movement, both pairs summed
pub all_moved : (letter : ℕ) (past : Past) (reports : List Report) → is_a letter ≡ false → (sum_x (sends letter past reports) ≡ moved_x reports) × (sum_y (sends letter past reports) ≡ moved_y reports)
unfolding sends movement
all_moved letter past [] e = (refl, refl)
all_moved letter past (p ∷ reports) e =
    let ih = all_moved letter (noted letter past p) reports e in
    (rw (e, ih.0) at (first_x letter past p reports), rw (e, ih.1) at (first_y letter past p reports))

-- two differences, one behind the other
differences : (a b c : ℤ) → (b -ℤ a) +ℤ (c -ℤ b) ≡ c -ℤ a
differences a b c =
    +ℤ_comm (b -ℤ a) (c -ℤ b) ∙ sym (+ℤ_assoc (c -ℤ b) b (neg_ℤ a)) ∙ ap (λ (z : ℤ). z -ℤ a) (-ℤ-+ℤ_cancel c b)

abbrev A : ℕ
A = letter_of Absolute

-- the first moves nothing, and a later one by the difference from the one before
moved_from : (past : Past) (q p : Report) → past.base ≡ base_at q.x1 q.y1 → ((movement A past p).x ≡ p.x1 -ℤ q.x1) × ((movement A past p).y ≡ p.y1 -ℤ q.y1)
unfolding movement since_base
moved_from past q p e = (ap (λ (base : Base). (since_base base p).x) e, ap (λ (base : Base). (since_base base p).y) e)

pub first_unmoved : (past : Past) (p : Report) → past.base.set ≡ false → movement A past p ≡ move (pos 0) (pos 0)
unfolding movement since_base
first_unmoved past p e = rw e

from_base : (reports : List Report) (past : Past) (q : Report) → past.base ≡ base_at q.x1 q.y1
    → (sum_x (sends A past reports) ≡ (last_of q reports).x1 -ℤ q.x1) × (sum_y (sends A past reports) ≡ (last_of q reports).y1 -ℤ q.y1)
unfolding sends noted
from_base [] past q e = (sym (+ℤ_invr q.x1), sym (+ℤ_invr q.y1))
from_base (p ∷ reports) past q e =
    let ih = from_base reports (noted A past p) p refl in
    let m = moved_from past q p e in (
      first_x A past p reports ∙ ap₂ ◌+ℤ◌ m.0 ih.0 ∙ differences q.x1 p.x1 (last_of p reports).x1,
      first_y A past p reports ∙ ap₂ ◌+ℤ◌ m.1 ih.1 ∙ differences q.y1 p.y1 (last_of p reports).y1,
    )

-- "In A, the first report sets the base and moves nothing; later ones move by the difference": the last position less the first
pub last_less_first : (past : Past) (p : Report) (reports : List Report) → past.base.set ≡ false
    → (sum_x (sends A past (p ∷ reports)) ≡ (last_of p reports).x1 -ℤ p.x1) × (sum_y (sends A past (p ∷ reports)) ≡ (last_of p reports).y1 -ℤ p.y1)
unfolding noted
last_less_first past p reports e =
    let ih = from_base reports (noted A past p) p refl in
    let m = first_unmoved past p e in (
      first_x A past p reports ∙ ap₂ ◌+ℤ◌ (ap (λ (m : Move). m.x) m) ih.0 ∙ +ℤ_idl ((last_of p reports).x1 -ℤ p.x1),
      first_y A past p reports ∙ ap₂ ◌+ℤ◌ (ap (λ (m : Move). m.y) m) ih.1 ∙ +ℤ_idl ((last_of p reports).y1 -ℤ p.y1),
    )
