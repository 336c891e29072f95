-- Good readers: what one has, and that every line leaves it so.
use Rattle.std.proofs.Common.{Option, None, Some}
use Prim.Native.Nat.{ℕ, ◌+◌, ◌≤◌}
use mathlib.Core.Path.{◌≡◌, refl, sym, ◌∙◌, ap, subst}
use mathlib.Core.Bool.{Bool, true, false, cond, ◌&&◌}
use mathlib.Core.Logic.{◌⊎◌, inl, inr, ⊎_elim}
use mathlib.Core.List.{List}
use native.Mathlib.Omega.{arith}
use lib.Dec.{leb, eqb}
use borrow.Author.Tests.{ltb-true, leb-true, eqb-true, eqb-false, le-leb, eq-eqb, ne_eqb}
use mir.Val.{bool_byte}
use Rattle.numbers.proofs.Choices.{cases, both}
use Rattle.numbers.proofs.Tested.{left, right}
use Rattle.listing.specs.Scanning.{most_at, width, most_lines}
use Rattle.listing.specs.declared.Item.{Item}
use Rattle.listing.specs.declared.Item.TheVariants as item
use Rattle.readback.specs.Items.{Proper, item_in, width_in, salvage_in}
use Rattle.readback.specs.Steps.{old_width, width_known, mark, has_ended, opened_at, passed_by, above, faulty, opens, said, step_of, besides, fresh, good, Step}
use Rattle.readback.specs.declared.Readback.{Readback}
use Rattle.readback.proofs.Values.{SmallGiven, small_item}
use Rattle.readback.proofs.Grammar.{Reads, item_read}

-- the widths that are known: four, or six
pub known_is : (w : ℕ) → width_known w ≡ true → (w ≡ old_width) ⊎ (w ≡ width)
known_is w k = go (eqb w old_width) refl
  where
    go : (t : Bool) → eqb w old_width ≡ t → (w ≡ old_width) ⊎ (w ≡ width)
    go true e = inl (eqb-true w old_width e)
    go false e = inr (eqb-true w width (rw e at k))

pub known_few : (w : ℕ) → width_known w ≡ true → w ≤ width
known_few w k = ⊎_elim (λ e. omega (arith, e)) (λ e. omega (arith, e)) (known_is w k)

pub known_some : (w : ℕ) → width_known w ≡ true → old_width ≤ w
known_some w k = ⊎_elim (λ e. omega (arith, e)) (λ e. omega (arith, e)) (known_is w k)

-- and the numbers that they have
pub most_known : (w : ℕ) → width_known w ≡ true → most_at w ≤ most_lines
most_known w k = ⊎_elim (λ e. subst (λ (v : ℕ). most_at v ≤ most_lines) (sym e) (omega arith)) (λ e. subst (λ (v : ℕ). most_at v ≤ most_lines) (sym e) (omega arith)) (known_is w k)

-- a good reader behind its first line
pub record Begun (r : Readback) : Type 0 where
  pub last : r.last ≤ most_at r.width
  pub width : width_known r.width ≡ true
  pub some : besides (has_ended r) ≤ r.lines
  pub few : r.lines ≤ r.last + besides (has_ended r)
  pub marks : (r.ended ≤ 1) × (r.salvage ≤ 1)

module _ (r : Readback) where
  abbrev known : Bool
  known = width_known r.width

  abbrev numbered : Bool
  numbered = leb r.last (most_at r.width)

  abbrev some_lines : Bool
  some_lines = leb (besides (has_ended r)) r.lines

  abbrev few_enough : Bool
  few_enough = leb r.lines (r.last + besides (has_ended r))

  abbrev counted : Bool
  counted = some_lines && few_enough

  abbrev marked : Bool
  marked = leb r.ended 1 && leb r.salvage 1

  pub begun : good r ≡ true → (r.lines ≡ 0 → ⊥) → Begun r
  unfolding good
  begun g n =
      let all = rw (ne_eqb r.lines 0 n) at g in
      let later = right known (numbered && (counted && marked)) all in
      let two = right numbered (counted && marked) later in
      let lines = left counted marked two in
      let marks = right counted marked two in
      record {
        last = leb-true _ _ (left numbered (counted && marked) later);
        width = left known (numbered && (counted && marked)) all;
        some = leb-true _ _ (left some_lines few_enough lines);
        few = leb-true _ _ (right some_lines few_enough lines);
        marks = (leb-true _ _ (left (leb r.ended 1) (leb r.salvage 1) marks), leb-true _ _ (right (leb r.ended 1) (leb r.salvage 1) marks));
      }

  pub good_begun : (r.lines ≡ 0 → ⊥) → Begun r → good r ≡ true
  unfolding good
  good_begun n b =
      rw (ne_eqb r.lines 0 n)
      (both known (numbered && (counted && marked)) b.width
      (both numbered (counted && marked) (le-leb _ _ b.last)
      (both counted marked (both some_lines few_enough (le-leb _ _ b.some) (le-leb _ _ b.few))
      (both (leb r.ended 1) (leb r.salvage 1) (le-leb _ _ b.marks.0) (le-leb _ _ b.marks.1)))))

-- and one before it
pub unread : (r : Readback) → good r ≡ true → r.lines ≡ 0 → (r.last ≡ 0) × (r.ended ≡ 0) × (r.salvage ≡ 0)
unfolding good
unread r g z =
    let all = rw (eq-eqb r.lines 0 z) at g in
    let two = eqb r.width 0 && eqb r.last 0 in
    let three = two && eqb r.ended 0 in
    let some = left three (eqb r.salvage 0) all in (
      eqb-true r.last 0 (right (eqb r.width 0) (eqb r.last 0) (left two (eqb r.ended 0) some)),
      eqb-true r.ended 0 (right two (eqb r.ended 0) some),
      eqb-true r.salvage 0 (right three (eqb r.salvage 0) all),
    )

-- a mark is 0 or 1, and is what it marks; and so is a truth as the code holds it
pub mark_few : (b : Bool) → mark b ≤ 1
mark_few true = omega arith
mark_few false = omega arith

pub mark_is : (b : Bool) → eqb (mark b) 1 ≡ b
mark_is true = refl
mark_is false = refl

pub as_number : (b : Bool) → bool_byte b ≡ mark b
as_number true = refl
as_number false = refl

pub besides_most : (t : Bool) → besides t ≤ 2
besides_most true = omega arith
besides_most false = omega arith

-- no more lines than this
pub few_lines : (r : Readback) → good r ≡ true → r.lines ≤ most_lines + 2
few_lines r g = go (eqb r.lines 0) refl
  where
    go : (t : Bool) → eqb r.lines 0 ≡ t → r.lines ≤ most_lines + 2
    go true e = omega (arith, eqb-true r.lines 0 e)
    go false e = let b = begun r g (eqb-false r.lines 0 e) in omega (arith, b.last, most_known r.width b.width, b.few, besides_most (has_ended r))

-- what a line does, by where it stands
module _ (r : Readback) (line : List ℕ) where
  pub step_ended : has_ended r ≡ true → step_of r line ≡ faulty r
  unfolding step_of
  step_ended e = ap (λ (t : Bool). cond t (faulty r) (cond (eqb r.lines 0) (opens r (salvage_in line) (width_in line)) (said r (item_in r.width line)))) e

  pub step_first : has_ended r ≡ false → r.lines ≡ 0 → step_of r line ≡ opens r (salvage_in line) (width_in line)
  unfolding step_of
  step_first e z =
      ap (λ (t : Bool). cond t (faulty r) (cond (eqb r.lines 0) (opens r (salvage_in line) (width_in line)) (said r (item_in r.width line)))) e
      ∙ ap (λ (t : Bool). cond t (opens r (salvage_in line) (width_in line)) (said r (item_in r.width line))) (eq-eqb r.lines 0 z)

  pub step_item : has_ended r ≡ false → (r.lines ≡ 0 → ⊥) → step_of r line ≡ said r (item_in r.width line)
  unfolding step_of
  step_item e n =
      ap (λ (t : Bool). cond t (faulty r) (cond (eqb r.lines 0) (opens r (salvage_in line) (width_in line)) (said r (item_in r.width line)))) e
      ∙ ap (λ (t : Bool). cond t (opens r (salvage_in line) (width_in line)) (said r (item_in r.width line))) (ne_eqb r.lines 0 n)

-- FRESH IS GOOD, and every line of a good reader leaves it good
pub fresh_is_good : good fresh ≡ true
unfolding good
fresh_is_good = refl

opened_good : (s : Bool) (w : ℕ) → width_known w ≡ true → good (opened_at s w) ≡ true
opened_good s w h = good_begun (opened_at s w) (λ z. omega arith) (record { last = omega arith; width = h; some = omega arith; few = omega arith; marks = (omega arith, mark_few s) })

passed_good : (r : Readback) (i : Item) → good r ≡ true → (r.lines ≡ 0 → ⊥) → has_ended r ≡ false → Proper r.width i → above r.last i ≡ true → good (passed_by r i) ≡ true
passed_good r i g n e p a =
    let b = begun r g n in
    let few = ap besides e in
    good_begun (passed_by r i) (λ z. omega arith) (go i p a b few)
  where
    go : (i : Item) → Proper r.width i → above r.last i ≡ true → Begun r → besides (has_ended r) ≡ 1 → Begun (passed_by r i)
    go (item.R m p x y) h a b few = record { last = omega (arith, h.0.0); width = b.width; some = omega arith; few = omega (arith, b.few, few, ltb-true r.last m a); marks = (omega arith, b.marks.1) }
    go (item.D m k) h a b few = record { last = omega (arith, h.0.0); width = b.width; some = omega arith; few = omega (arith, b.few, few, ltb-true r.last m a); marks = (omega arith, b.marks.1) }
    go (item.H k) h a b few = record { last = b.last; width = b.width; some = omega (arith, b.some, few); few = omega (arith, b.few, few); marks = (omega arith, b.marks.1) }
    go (item.E m) h a b few = record { last = omega (arith, h.0); width = b.width; some = omega (arith, b.some, few); few = omega (arith, b.few, few, ltb-true r.last m a); marks = (omega arith, b.marks.1) }
    go item.Over h a b few = record { last = b.last; width = b.width; some = omega (arith, b.some, few); few = omega (arith, b.few, few); marks = (omega arith, b.marks.1) }

-- what a line leaves: a good reader, and an item that is small
abbrev Leaves : Step → Type 0
Leaves s = (good s.next ≡ true) × SmallGiven s.given

said_good : (r : Readback) (line : List ℕ) (g : Option Item) → good r ≡ true → (r.lines ≡ 0 → ⊥) → has_ended r ≡ false → SmallGiven g → Reads r.width line g → Leaves (said r g)
said_good r line None h n e s p = (h, tt)
said_good r line (Some i) h n e s p = cases Leaves (above r.last i) (λ a. (passed_good r i h n e p.1 a, s)) (λ _. (h, tt))

pub step_leaves : (r : Readback) (line : List ℕ) → good r ≡ true → Leaves (step_of r line)
step_leaves r line h = go (has_ended r) refl (eqb r.lines 0) refl
  where
    go : (t : Bool) → has_ended r ≡ t → (u : Bool) → eqb r.lines 0 ≡ u → Leaves (step_of r line)
    go true e u z = subst Leaves (sym (step_ended r line e)) (h, tt)
    go false e true z =
        subst Leaves (sym (step_first r line e (eqb-true _ _ z))) (cases Leaves (width_known (width_in line)) (λ k. (opened_good (salvage_in line) (width_in line) k, tt)) (λ _. (h, tt)))
    go false e false z =
        subst Leaves (sym (step_item r line e (eqb-false _ _ z))) (said_good r line (item_in r.width line) h (eqb-false _ _ z) e (small_item r.width line) (item_read r.width line))
