-- What is left of a list: laws of Sub.
use Prim.Native.Nat.{ℕ, zero, suc, ◌≤◌}
use mathlib.Core.List.{List, [], ◌∷◌, ◌++◌, map, append-nil}
use native.Mathlib.Omega.{arith}
use lib.ListN.{length, take}
use Rattle.frames.specs.Passages.{Sub, none, gone, stays}

module _ {A : Type 0} where
  pub sub_length : {left all : List A} → Sub left all → length left ≤ length all
  sub_length none = omega arith
  sub_length (gone d) = omega (arith, sub_length d)
  sub_length (stays d) = omega (arith, sub_length d)

  pub sub_all : (l : List A) → Sub l l
  sub_all [] = none
  sub_all (a ∷ l) = stays (sub_all l)

  pub sub_none : (l : List A) → Sub [] l
  sub_none [] = none
  sub_none (a ∷ l) = gone (sub_none l)

  pub sub_append : {a b x y : List A} → Sub a b → Sub x y → Sub (a ++ x) (b ++ y)
  sub_append none k = k
  sub_append (gone h) k = gone (sub_append h k)
  sub_append (stays h) k = stays (sub_append h k)

  pub sub_then : {a b c : List A} → Sub a b → Sub b c → Sub a c
  sub_then h none = h
  sub_then {a = a} h (gone {all = all} k) = gone (sub_then {a = a} h k)
  sub_then {a = a} (gone h) (stays k) = gone (sub_then {a = a} h k)
  sub_then (stays {left = left} h) (stays k) = stays (sub_then {a = left} h k)

  pub sub_take : (n : ℕ) (l : List A) → Sub (take n l) l
  sub_take zero l = sub_none l
  sub_take (suc n) [] = none
  sub_take (suc n) (a ∷ l) = stays (sub_take n l)

  pub sub_more : (a more : List A) → Sub a (a ++ more)
  sub_more a more = rw append-nil at (sub_append (sub_all a) (sub_none more))

pub sub_map : {A B : Type 0} (f : A → B) {a b : List A} → Sub a b → Sub (map f a) (map f b)
sub_map f none = none
sub_map f (gone h) = gone (sub_map f h)
sub_map f (stays h) = stays (sub_map f h)
