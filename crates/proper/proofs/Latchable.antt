-- A report that a box can latch, and the bytes of one as the yard check sees them.
use Prim.Native.Nat.{ℕ, ◌-◌, ◌≤◌}
use mathlib.Core.Path.{◌≡◌, refl}
use mathlib.Core.Bool.{true, false}
use mathlib.Core.List.{List}
use lib.IntN.{ℤ, pos}
use lib.ListN.{length}
use Rattle.frames.specs.Frame.{Frame}
use Rattle.wire.specs.Line.{letter_of, size_of}
use Rattle.wire.specs.Holds.{◌to◌, within, accepted, x_range, y_range, second_range}
use Rattle.wire.specs.Reading.{at, report_of}
use Rattle.wire.specs.declared.Report.{Report}
use Rattle.wire.specs.declared.Range.{Range}
use Rattle.wire.specs.declared.Format.{Format}
use Rattle.wire.specs.declared.Format.TheVariants.{Mm, Microsoft, Absolute, Relative, FiveByte, ThreeByte, Hexadecimal}
use Rattle.wire.proofs.Codec.Accepted.{parts_accepted}
use Rattle.wire.proofs.Codec.Ranges.{wider}
use Rattle.ballbox.specs.Latching.{limits}
use Rattle.yard.specs.Stands.{stands}
use Rattle.yard.specs.State.{yard}
use Rattle.yard.specs.declared.Yard.{Yard}
use native.Mathlib.Omega.{arith}

-- "Movement is held to -127..127 in the eight-bit formats [..] and to -2048..2047 in B", and in A it is the position; U's second pair likewise
abbrev pub second_limits : Format → Range
second_limits Mm = pos 0 to pos 0
second_limits Microsoft = pos 0 to pos 0
second_limits Absolute = pos 0 to pos 0
second_limits Relative = pos 0 to pos 0
second_limits FiveByte = limits (letter_of FiveByte)
second_limits ThreeByte = pos 0 to pos 0
second_limits Hexadecimal = pos 0 to pos 0

pub record Latchable (f : Format) (r : Report) : Type 0 where
  pub buttons : r.buttons ≤ 7
  pub x1 : within (limits (letter_of f)) r.x1 ≡ true
  pub y1 : within (limits (letter_of f)) r.y1 ≡ true
  pub x2 : within (second_limits f) r.x2 ≡ true
  pub y2 : within (second_limits f) r.y2 ≡ true

-- what can be latched is accepted
wide_x : (f : Format) (z : ℤ) → within (limits (letter_of f)) z ≡ true → within (x_range f) z ≡ true
unfolding limits
wide_x Mm z h = h
wide_x Microsoft z h = wider (limits 0x56) (x_range Microsoft) z refl refl h
wide_x Absolute z h = h
wide_x Relative z h = h
wide_x FiveByte z h = wider (limits 0x55) (x_range FiveByte) z refl refl h
wide_x ThreeByte z h = wider (limits 0x54) (x_range ThreeByte) z refl refl h
wide_x Hexadecimal z h = wider (limits 0x57) (x_range Hexadecimal) z refl refl h

wide_y : (f : Format) (z : ℤ) → within (limits (letter_of f)) z ≡ true → within (y_range f) z ≡ true
unfolding limits
wide_y Mm z h = h
wide_y Microsoft z h = wider (limits 0x56) (y_range Microsoft) z refl refl h
wide_y Absolute z h = h
wide_y Relative z h = h
wide_y FiveByte z h = wider (limits 0x55) (y_range FiveByte) z refl refl h
wide_y ThreeByte z h = wider (limits 0x54) (y_range ThreeByte) z refl refl h
wide_y Hexadecimal z h = wider (limits 0x57) (y_range Hexadecimal) z refl refl h

wide_second : (f : Format) (z : ℤ) → within (second_limits f) z ≡ true → within (second_range f) z ≡ true
unfolding limits
wide_second Mm z h = h
wide_second Microsoft z h = h
wide_second Absolute z h = h
wide_second Relative z h = h
wide_second FiveByte z h = wider (limits 0x55) (second_range FiveByte) z refl refl h
wide_second ThreeByte z h = h
wide_second Hexadecimal z h = h

pub latchable_accepted : (f : Format) (r : Report) → Latchable f r → accepted f r ≡ true
latchable_accepted f r l =
    parts_accepted f r
    (record {
      pressed = omega (arith, l.buttons);
      moved = record { x = wide_x f r.x1 l.x1; y = wide_y f r.y1 l.y1; second_x = wide_second f r.x2 l.x2; second_y = wide_second f r.y2 l.y2 };
    })

-- the last of the bytes that have gone
abbrev pub last_of : List ℕ → ℕ
last_of k = at (length k - 1) k

-- the frame of the yard check: a byte that it lets stand behind those that have gone
abbrev pub strict : Format → Frame Report
strict f = record { fits = λ k b. stands f (length k) (at 0 k) (last_of k) b; size = λ b. size_of f; marked = false; decode = report_of f }

-- and the check that has seen them
abbrev pub having : Format → List ℕ → Yard
having f k = yard (letter_of f) (at 0 k) (last_of k) (length k) false
