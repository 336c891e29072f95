-- What a good reader keeps: nothing, or the first bytes of a report, up to three; and a byte more.
use Prim.Native.Nat.{ℕ, zero, suc, ◌≤◌}
use mathlib.Core.Path.{◌≡◌, refl}
use mathlib.Core.Bool.{Bool, true, false, cond, ◌&&◌}
use mathlib.Core.List.{List, [], ◌∷◌}
use native.Mathlib.Omega.{arith}
use lib.Dec.{eqb, ltb, leb}
use lib.ListN.{length}
use borrow.Author.Tests.{eqb-true, ne_eqb, leb-true, lt-ltb}
use Rattle.numbers.proofs.Choices.{cases}
use Rattle.numbers.proofs.Tested.{left, right, holds}
use Rattle.frames.specs.Frame.{has, keep}
use Rattle.frames.specs.Frame as frame
use Rattle.wire.specs.Reading as wire
use Rattle.wire.specs.declared.Format.TheVariants.{Mm}
use Rattle.vsxxx.specs.SelfTests.{test_of, is_test}
use Rattle.vsxxx.specs.Reports.{movement, self_test, size_from, fits_start, fits_behind, puck_frame}
use Rattle.puckreader.specs.State.{reader, kept_in}
use Rattle.puckreader.specs.Good.{below_size, first_placed, later_placed, good}
use Rattle.puckreader.specs.declared.PuckReader.{PuckReader}

pub data Held : PuckReader → Type 0 where
  none : Held (reader (0 ∷ 0 ∷ 0 ∷ []) 0)
  one : (a : ℕ) → fits_start a ≡ true → Held (reader (a ∷ 0 ∷ 0 ∷ []) 1)
  two : (a b : ℕ) → fits_start a ≡ true → fits_behind a 1 b ≡ true → Held (reader (a ∷ b ∷ 0 ∷ []) 2)
  three : (a b c : ℕ) → fits_start a ≡ true → is_test a ≡ true → fits_behind a 1 b ≡ true → fits_behind a 2 c ≡ true → Held (reader (a ∷ b ∷ c ∷ []) 3)

size_least : (a : ℕ) → 3 ≤ size_from a
unfolding size_from
size_least a = cases (λ (n : ℕ). 3 ≤ n) (is_test a) (λ _. omega arith) (λ _. omega arith)

size_four : (a : ℕ) → is_test a ≡ true → size_from a ≡ 4
unfolding size_from
size_four a t = rw t

size_three : (a : ℕ) → is_test a ≡ false → size_from a ≡ 3
unfolding size_from
size_three a t = rw t

-- a size above three is a self-test's
size_test : (a : ℕ) → ltb 3 (size_from a) ≡ true → is_test a ≡ true
unfolding size_from
size_test a = go (is_test a)
  where
    go : (t : Bool) → ltb 3 (cond t 4 3) ≡ true → t ≡ true
    go true h = refl
    go false h = absurd (holds h)

-- what the rules of a good reader say of three places
module _ (a b c count : ℕ) (g : good (reader (a ∷ b ∷ c ∷ []) count) ≡ true) where
  abbrev r : PuckReader
  r = reader (a ∷ b ∷ c ∷ []) count

  record Places : Type 0 where
    few : count ≤ 3
    below : below_size r ≡ true
    first : first_placed r ≡ true
    second : later_placed r 1 ≡ true
    third : later_placed r 2 ≡ true

  places : Places
  unfolding good
  places =
      let n = leb count 3 in
      let s = below_size r in
      let p = first_placed r in
      let q = later_placed r 1 in
      let t = later_placed r 2 in
      let four = left (n && s && p && q) t g in
      let three = left (n && s && p) q four in
      let two = left (n && s) p three in
      record { few = leb-true count 3 (left n s two); below = right n s two; first = right (n && s) p three; second = right (n && s && p) q four; third = right (n && s && p && q) t g }

three_held : (a b c count : ℕ) → good (reader (a ∷ b ∷ c ∷ []) count) ≡ true → Held (reader (a ∷ b ∷ c ∷ []) count)
three_held a b c zero g =
    let p = places a b c 0 g in
    rw (eqb-true a 0 p.first, eqb-true b 0 p.second, eqb-true c 0 p.third) none
three_held a b c (suc zero) g =
    let p = places a b c 1 g in
    rw (eqb-true b 0 p.second, eqb-true c 0 p.third) (one a p.first)
three_held a b c (suc (suc zero)) g =
    let p = places a b c 2 g in
    rw (eqb-true c 0 p.third) (two a b p.first p.second)
three_held a b c (suc (suc (suc zero))) g =
    let p = places a b c 3 g in
    three a b c p.first (size_test a p.below) p.second p.third
three_held a b c (suc (suc (suc (suc n)))) g = absurd (omega (arith, (places a b c (suc (suc (suc (suc n)))) g).few))

kept_three : (r : PuckReader) → good r ≡ true → length r.kept ≡ 3
unfolding good
kept_three r g =
    let l = eqb (length r.kept) 3 in
    let n = leb r.count 3 in
    let s = below_size r in
    let p = first_placed r in
    let q = later_placed r 1 in
    let two = left (l && n && s && p) q (left (l && n && s && p && q) (later_placed r 2) g) in
    eqb-true (length r.kept) 3 (left l n (left (l && n) s (left (l && n && s) p two)))

pub held : (r : PuckReader) → good r ≡ true → Held r
held r g = go r.kept r.count (kept_three r g) g
  where
    go : (kept : List ℕ) (count : ℕ) → length kept ≡ 3 → good (reader kept count) ≡ true → Held (reader kept count)
    go [] count e g = absurd (omega arith)
    go (a ∷ []) count e g = absurd (omega arith)
    go (a ∷ b ∷ []) count e g = absurd (omega arith)
    go (a ∷ b ∷ c ∷ []) count e g = three_held a b c count g
    go (a ∷ b ∷ c ∷ d ∷ l) count e g = absurd (omega arith)

pub held_good : (r : PuckReader) → Held r → good r ≡ true
unfolding good
held_good r none = refl
held_good r (one a h) = rw (lt-ltb 1 (size_from a) (omega (arith, size_least a)), h)
held_good r (two a b h k) = rw (lt-ltb 2 (size_from a) (omega (arith, size_least a)), h, k)
held_good r (three a b c h t k l) = let s : size_from a ≡ 4 = size_four a t in rw (s, h, k, l)

-- as many bytes are kept as it counts
pub kept_count : (r : PuckReader) → Held r → length (kept_in r) ≡ r.count
kept_count r none = refl
kept_count r (one a h) = refl
kept_count r (two a b h k) = refl
kept_count r (three a b c h t k l) = refl

pub count_small : (r : PuckReader) → Held r → r.count ≤ 3
count_small r none = omega arith
count_small r (one a h) = omega arith
count_small r (two a b h k) = omega arith
count_small r (three a b c h t k l) = omega arith

-- a byte more
pub keep_none : (w : ℕ) → keep puck_frame (w ∷ []) ≡ (has (w ∷ []), frame.nothing)
keep_none w = rw (ne_eqb 1 (size_from w) (λ e. omega (arith, size_least w)))

pub keep_one : (a w : ℕ) → keep puck_frame (a ∷ w ∷ []) ≡ (has (a ∷ w ∷ []), frame.nothing)
keep_one a w = rw (ne_eqb 2 (size_from a) (λ e. omega (arith, size_least a)))

pub keep_two : (a b w : ℕ) → is_test a ≡ true → keep puck_frame (a ∷ b ∷ w ∷ []) ≡ (has (a ∷ b ∷ w ∷ []), frame.nothing)
keep_two a b w t = rw (size_four a t)

pub keep_move : (a b w : ℕ) → is_test a ≡ false → keep puck_frame (a ∷ b ∷ w ∷ []) ≡ (has [], frame.report (movement (wire.report_of Mm (a ∷ b ∷ w ∷ []))))
keep_move a b w t = let s : size_from a ≡ 3 = size_three a t in rw (s, t)

pub keep_test : (a b c w : ℕ) → is_test a ≡ true → keep puck_frame (a ∷ b ∷ c ∷ w ∷ []) ≡ (has [], frame.report (self_test (test_of (a ∷ b ∷ c ∷ w ∷ []))))
keep_test a b c w t = rw (size_four a t, t)
