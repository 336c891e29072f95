-- A mark and its number.
use Prim.Native.Nat.{ℕ, zero, suc}
use mathlib.Core.Path.{◌≡◌, refl}
use mathlib.Core.Bool.{Bool, true, false}
use native.Mathlib.Omega.{arith}
use borrow.Author.Tests.{leb-true}
use mir.Val.{bool_byte}
use Rattle.ballbox.specs.Marks.{mark, marked, is_mark}

pub as_number : (b : Bool) → bool_byte b ≡ mark b
as_number true = refl
as_number false = refl

pub mark_back : (b : Bool) → marked (mark b) ≡ b
mark_back true = refl
mark_back false = refl

pub mark_stands : (b : Bool) → is_mark (mark b) ≡ true
mark_stands true = refl
mark_stands false = refl

pub mark_of : (n : ℕ) → is_mark n ≡ true → mark (marked n) ≡ n
mark_of zero h = refl
mark_of (suc zero) h = refl
mark_of (suc (suc n)) h = absurd (omega (arith, leb-true (suc (suc n)) 1 h))
