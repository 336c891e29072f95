-- No line that is accepted is longer than `longest`.
use Rattle.std.proofs.Common.{None}
use Prim.Native.Nat.{ℕ, suc, ◌+◌, ◌<◌, ◌≤◌, ◌^◌}
use mathlib.Core.Path.{◌≡◌, refl, sym, ◌∙◌, ap, subst}
use mathlib.Core.Bool.{Bool, true, false, cond, true≢false}
use mathlib.Core.Logic.{⊎_elim}
use mathlib.Core.List.{List}
use native.Mathlib.Omega.{arith}
use lib.Dec.{eqb}
use lib.IntN.{ℤ, pos, nat_abs}
use lib.ListN.{length, length-append}
use borrow.Author.Tests.{eqb-true, eqb-false}
use Rattle.numbers.proofs.Tested.{refused}
use Rattle.text.specs.Decimals.{plain, places_of, decimal_of}
use Rattle.text.proofs.Digits.{digits_long, places_few, decimal_few}
use Rattle.listing.specs.Printing.{form_of, head_of, opening_of}
use Rattle.listing.specs.declared.Item.{Item}
use Rattle.listing.specs.declared.Item.TheVariants as item
use Rattle.readback.specs.Items.{Proper, width_in, salvage_in}
use Rattle.readback.specs.Steps.{width_known, opened_at, faulty, opens, step_of, good, has_ended, Step}
use Rattle.readback.specs.Pieces.{longest}
use Rattle.readback.specs.declared.Readback.{Readback}
use Rattle.readback.proofs.Goodness.{known_is, known_few, known_some, begun, step_ended, step_first}
use Rattle.readback.proofs.Grammar.{sixteen_most, width_read}
use Rattle.readback.proofs.Again.{step_went}

line_few : (p n : ℕ) → n < 10 ^ suc p → length (decimal_of (suc p) (pos n)) ≤ suc p
unfolding decimal_of
line_few p n h = omega (arith, digits_long (places_of (suc p) n) n, places_few (suc p) n p (omega arith) h)

number_few : (x : ℤ) → nat_abs x ≤ 32768 → length (decimal_of plain x) ≤ 6
number_few x h = decimal_few plain 4 x (omega arith) (omega arith)

pub item_short : (p : ℕ) (i : Item) → Proper (suc p) i → length (head_of (suc p) (form_of i)) ≤ 21 + p
item_short p (item.R n b x y) h = simp length-append (omega (arith, line_few p n h.0.0, number_few x (sixteen_most x h.1), number_few y (sixteen_most y h.2)))
item_short p (item.D n k) h = simp length-append (omega (arith, line_few p n h.0.0, number_few (pos k) (omega (arith, h.2))))
item_short p (item.H k) h = simp length-append (omega (arith, number_few (pos k) (omega arith)))
item_short p (item.E n) h = simp length-append (omega (arith, line_few p n h.0))
item_short p item.Over h = omega arith

short_at : (w : ℕ) (i : Item) → width_known w ≡ true → Proper w i → length (head_of w (form_of i)) ≤ longest
short_at w i k = ⊎_elim (λ e. at 3 e (omega arith)) (λ e. at 5 e (omega arith)) (known_is w k)
  where
    at : (p : ℕ) → w ≡ suc p → 21 + p ≤ longest → Proper w i → length (head_of w (form_of i)) ≤ longest
    at p e h = subst (λ (w : ℕ). Proper w i → length (head_of w (form_of i)) ≤ longest) (sym e) (λ q. omega (arith, h, item_short p i q))

opening_short : (s : Bool) (w : ℕ) → width_known w ≡ true → length (head_of w (opening_of s w)) ≤ longest
opening_short s w k = simp length-append (omega (arith, number_few (pos w) (omega (arith, known_few w k))))

opens_known : (r : Readback) (s : Bool) (w : ℕ) → (opens r s w).good ≡ true → width_known w ≡ true
opens_known r s w h = go (width_known w) h
  where
    go : (t : Bool) → (cond t (record { good = true; next = opened_at s w; given = None }) (faulty r)).good ≡ true → t ≡ true
    go true h = refl
    go false h = absurd (true≢false (sym h))

-- a longer one is faulty
pub long_faulty : (r : Readback) (body : List ℕ) → good r ≡ true → longest < length body → (step_of r body).good ≡ false
long_faulty r body g h = refused (step_of r body).good (λ t. go t (has_ended r) refl (eqb r.lines 0) refl)
  where
    go : (step_of r body).good ≡ true → (e : Bool) → has_ended r ≡ e → (z : Bool) → eqb r.lines 0 ≡ z → ⊥
    go t true e z ez = true≢false (sym t ∙ ap (λ (s : Step). s.good) (step_ended r body e))
    go t false e true ez =
        let w = width_in body in
        let k = opens_known r (salvage_in body) w (sym (ap (λ (s : Step). s.good) (step_first r body e (eqb-true _ _ ez))) ∙ t) in
        let is = width_read body (λ z. omega (arith, z, known_some w k)) in
        omega (arith, ap length is, opening_short (salvage_in body) w k)
    go t false e false ez =
        let b = begun r g (eqb-false _ _ ez) in
        let went = step_went r body e (eqb-false _ _ ez) t in
        omega (arith, short_at r.width went.0 b.width went.3, ap length went.2)
