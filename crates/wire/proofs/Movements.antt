-- Which movement did not fit: the number told is the first fault's, a refusal has its fault, and what is held is not refused for its movement.
use Prim.Native.Nat.{ℕ, ◌≤◌}
use mathlib.Core.Path.{◌≡◌, refl, sym, ◌∙◌, ap, subst}
use mathlib.Core.Bool.{Bool, true, false}
use mathlib.Core.List.{List}
use native.Mathlib.Omega.{arith}
use lib.ListN.{length}
use lib.Dec.{ltb}
use lib.IntN.{pos}
use borrow.Author.Tests.{leb-true, ltb-false}
use Rattle.numbers.proofs.Tested.{holds as so}
use Rattle.wire.specs.Line.{letter_of, size_of}
use Rattle.wire.specs.Holds.{within, x_range, y_range, unheld, is_none, holds, Fault, pressable, accepted}
use Rattle.wire.specs.Encoder.{Encoding, Encoded, refusal_of, outcome, refused, unheld_number, encode_in}
use Rattle.wire.specs.Numbers.{bad_second_x, bad_second_y}
use Rattle.wire.specs.Promises.{EncodePromise}
use Rattle.wire.specs.declared.Report.{Report}
use Rattle.wire.specs.declared.Format.{Format}
use Rattle.wire.specs.declared.Format.TheVariants.{FiveByte}
use Rattle.wire.specs.declared.Movement.{Movement}
use Rattle.wire.specs.declared.Movement.TheVariants.{SecondX, SecondY}
use Rattle.std.proofs.Common.{Option, Some, None, Ok, Err}
use Rattle.wire.proofs.Numbered.{no_refusal_two}
use Rattle.wire.proofs.Letters.{letter_named}
use Rattle.wire.proofs.Accepts.{buttons_first, movement_next, room_last, accepts}
use Rattle.wire.proofs.Faults.{fault, one_fault, some, eight_or_more, told_apart}
use Rattle.wire.proofs.Codec.{outside_u, outside_zero}
use Rattle.wire.proofs.Answers.{movement_refused}

module _ (f : Format) (r : Report) (before after : List ℕ) (a : Encoded) (p : EncodePromise (letter_of f) r before a after) where
  -- the number told is that of the first fault, in the order x1, y1, x2, y2
  pub first_told : (u : Option Movement) → (u ≡ None → ⊥) → r.buttons ≤ 7 → Fault f r u → outcome a after ≡ refused (unheld_number u) before
  unfolding holds
  first_told u n h d =
      let e = one_fault f r u d in
      movement_refused f r before after a h (ap is_none e ∙ some u n) p
      ∙ ap (λ (v : Option Movement). refused (unheld_number v) before) e

  -- a report that is refused with such a number has this fault
  pub has_fault : (u : Option Movement) → (u ≡ None → ⊥) → refusal_of a ≡ unheld_number u → (r.buttons ≤ 7) × Fault f r u
  unfolding accepted
  has_fault u n q = go (pressable r) refl (holds f r) refl (ltb (length before) (size_of f)) refl
    where
      number : {e : Encoding} → encode_in (Some f) r before ≡ e → unheld_number u ≡ e.refusal
      number e = sym q ∙ ap (λ (x : Encoding). x.refusal) (rw (letter_named f) at p ∙ e)

      large : 8 ≤ unheld_number u
      large = eight_or_more u (some u n)

      all : pressable r ≡ true → holds f r ≡ true → accepted f r ≡ true
      all et eh = rw (et, eh)

      go : (t : Bool) → pressable r ≡ t → (h : Bool) → holds f r ≡ h → (s : Bool) → ltb (length before) (size_of f) ≡ s → (r.buttons ≤ 7) × Fault f r u
      go false et h eh s es = absurd (omega (arith, large, number (buttons_first f r before et)))
      go true et false eh s es = (leb-true r.buttons 7 et, subst (Fault f r) (sym (told_apart u (unheld f r) (number (movement_next f r before et eh)))) (fault f r))
      go true et true eh true es = absurd (omega (arith, large, number (room_last f r before (all et eh) es)))
      go true et true eh false es = absurd (omega (arith, large, number (accepts f r before (all et eh) (ltb-false (length before) (size_of f) es))))

  -- and one whose movements are held is not refused for them
  pub held_not_refused : holds f r ≡ true → (u : Option Movement) → (u ≡ None → ⊥) → refusal_of a ≡ unheld_number u → ⊥
  unfolding holds
  held_not_refused h u n q = so (sym (some u n) ∙ sym (ap is_none (one_fault f r u (has_fault u n q).1)) ∙ h)

  -- "A second pair that is not zero outside U falls under the second pair's numbers."
  pub second_x_told : (f ≡ FiveByte → ⊥) → r.buttons ≤ 7 → within (x_range f) r.x1 ≡ true → within (y_range f) r.y1 ≡ true → (r.x2 ≡ pos 0 → ⊥) → outcome a after ≡ refused bad_second_x before
  second_x_told u h x y n = first_told (Some SecondX) (λ e. so (ap is_none e)) h (x, y, outside_zero f u r.x2 n)

  pub second_y_told : (f ≡ FiveByte → ⊥) → r.buttons ≤ 7 → within (x_range f) r.x1 ≡ true → within (y_range f) r.y1 ≡ true → r.x2 ≡ pos 0 → (r.y2 ≡ pos 0 → ⊥) → outcome a after ≡ refused bad_second_y before
  second_y_told u h x y z n = first_told (Some SecondY) (λ e. so (ap is_none e)) h (x, y, rw (z, outside_u f u), outside_zero f u r.y2 n)

-- "2 is given no more"
pub never_two : (a : Encoded) → refusal_of a ≡ 2 → ⊥
never_two (Ok n) e = omega arith
never_two (Err r) e = no_refusal_two r e
