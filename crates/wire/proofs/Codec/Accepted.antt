-- Accepted reports, part by part.
use Prim.Native.Nat.{ℕ, ◌<◌}
use mathlib.Core.Path.{◌≡◌, refl, sym, ◌∙◌}
use mathlib.Core.Bool.{Bool, true, false, not, cond, ◌&&◌}
use native.Mathlib.Omega.{arith}
use lib.IntN.{ℤ, pos}
use borrow.Author.Tests.{leb-true, le-leb}
use Rattle.numbers.proofs.Tested.{left, right}
use Rattle.wire.specs.Reading.{report}
use Rattle.wire.specs.Holds.{◌to◌, within, x_range, y_range, second_range, is_none, holds, pressable, accepted}
use Rattle.wire.specs.declared.Report.{Report}
use Rattle.wire.specs.declared.Movement.TheVariants.{FirstX, FirstY, SecondX, SecondY}
use Rattle.std.proofs.Common.{Some, None}
use Rattle.wire.specs.declared.Format.{Format}
use Rattle.wire.proofs.Codec.Ranges.{only_zero}

-- each movement within its range
pub record Held (f : Format) (r : Report) : Type 0 where
  pub x : within (x_range f) r.x1 ≡ true
  pub y : within (y_range f) r.y1 ≡ true
  pub second_x : within (second_range f) r.x2 ≡ true
  pub second_y : within (second_range f) r.y2 ≡ true

none_unheld : (a b c d : Bool) → is_none (cond (not a) (Some FirstX) (cond (not b) (Some FirstY) (cond (not c) (Some SecondX) (cond (not d) (Some SecondY) None)))) ≡ a && b && c && d
none_unheld false b c d = refl
none_unheld true false c d = refl
none_unheld true true false d = refl
none_unheld true true true false = refl
none_unheld true true true true = refl

pub held : (f : Format) (r : Report) → holds f r ≡ true → Held f r
unfolding holds
held f r e =
    let x = within (x_range f) r.x1 in
    let y = within (y_range f) r.y1 in
    let second_x = within (second_range f) r.x2 in
    let second_y = within (second_range f) r.y2 in
    let h = sym (none_unheld x y second_x second_y) ∙ e in
    let three = left (x && y && second_x) second_y h in
    let two = left (x && y) second_x three in
    record {
      x = left x y two;
      y = right x y two;
      second_x = right (x && y) second_x three;
      second_y = right (x && y && second_x) second_y h;
    }

-- and buttons 0 to 7
pub record Parts (f : Format) (r : Report) : Type 0 where
  pub pressed : r.buttons < 8
  pub moved : Held f r

pub parts : (f : Format) (r : Report) → accepted f r ≡ true → Parts f r
unfolding accepted
parts f r a =
    record {
      pressed = omega (arith, leb-true r.buttons 7 (left (pressable r) (holds f r) a));
      moved = held f r (right (pressable r) (holds f r) a);
    }

pub parts_accepted : (f : Format) (r : Report) → Parts f r → accepted f r ≡ true
unfolding accepted holds
parts_accepted f r p =
    let m = p.moved in
    rw (le-leb r.buttons 7 (omega arith), m.x, m.y, m.second_x, m.second_y)

-- two reports with the same parts
pub same_report : {r s : Report} → r.buttons ≡ s.buttons → r.x1 ≡ s.x1 → r.y1 ≡ s.y1 → r.x2 ≡ s.x2 → r.y2 ≡ s.y2 → r ≡ s
same_report b x y z w = λ i. record { buttons = b i; x1 = x i; y1 = y i; x2 = z i; y2 = w i }

-- a format whose second pair is zero
abbrev pub OnePair : Format → Type 0
OnePair f = second_range f ≡ (pos 0 to pos 0)

pub second_zero : (f : Format) → OnePair f → (z : ℤ) → within (second_range f) z ≡ true → pos 0 ≡ z
second_zero f one z e = only_zero z (rw one at e)

-- there a report is its buttons and one pair
pub one_pair : (f : Format) {b : ℕ} {x y : ℤ} → OnePair f → b < 8 → within (x_range f) x ≡ true → within (y_range f) y ≡ true → Parts f (report b x y)
one_pair f one b x y = record { pressed = b; moved = record { x = x; y = y; second_x = rw one; second_y = rw one } }

pub same_pair : (f : Format) {r : Report} {b : ℕ} {x y : ℤ} → OnePair f → Parts f r → b ≡ r.buttons → x ≡ r.x1 → y ≡ r.y1 → report b x y ≡ r
same_pair f {r} one p b x y =
    let m = p.moved in
    same_report b x y (second_zero f one r.x2 m.second_x) (second_zero f one r.y2 m.second_y)
