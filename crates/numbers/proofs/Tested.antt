-- Tests: what two that both hold give, and a rule that is computed at every number below a bound.
use Prim.Native.Nat.{ℕ, zero, suc, ◌+◌, ◌-◌, ◌<◌, ◌≤◌}
use mathlib.Core.Path.{◌≡◌, refl, sym, subst}
use mathlib.Core.Bool.{Bool, true, false, not, ◌&&◌, ◌||◌}
use native.Mathlib.Omega.{arith}
use native.Mathlib.Nat.{not-suc-le-zero}
use lib.Dec.{T, eqb, eqb→eq}
use mir.Facts.{and_yes}
use borrow.Author.Tests.{eqb-true, eqb-false}
use Rattle.numbers.specs.Tests.{each}

pub truth : (b : Bool) → T b → b ≡ true
truth true t = refl
truth false t = absurd t

pub holds : {b : Bool} → b ≡ true → T b
holds e = subst T (sym e) tt

-- a test that does not hold
pub refused : (b : Bool) → (b ≡ true → ⊥) → b ≡ false
refused true n = absurd (n refl)
refused false n = refl

-- both of two tests that hold together
pub left : (a b : Bool) → a && b ≡ true → a ≡ true
left true b e = refl
left false b e = e

pub right : (a b : Bool) → a && b ≡ true → b ≡ true
right true b e = e
right false b e = absurd (subst T (sym e) tt)

-- two tests that say the same
abbrev pub same : Bool → Bool → Bool
same true b = b
same false b = not b

same_eq : (a b : Bool) → T (same a b) → a ≡ b
same_eq true true t = refl
same_eq true false t = absurd t
same_eq false true t = absurd t
same_eq false false t = refl

last_or : (f : ℕ → Bool) (n k : ℕ) (b : Bool) → eqb k n ≡ b → T (f n) → (k < n → T (f k)) → k < suc n → T (f k)
last_or f n k true e t r h = subst (λ (m : ℕ). T (f m)) (sym (eqb-true k n e)) t
last_or f n k false e t r h = let d = eqb-false k n e in r (omega arith)

pub tested : (f : ℕ → Bool) (n : ℕ) → T (each f n) → (k : ℕ) → k < n → T (f k)
tested f zero t k h = absurd (not-suc-le-zero h)
tested f (suc n) t k h =
    let both = and_yes (each f n) (f n) t in last_or f n k (eqb k n) refl both.1 (tested f n both.0 k) h

pub each_at : (test : ℕ → Bool) (n : ℕ) → each test n ≡ true → (i : ℕ) → i < n → test i ≡ true
each_at test n e i h = truth (test i) (tested test n (holds e) i h)

pub each_of : (test : ℕ → Bool) (n : ℕ) → ((i : ℕ) → i < n → test i ≡ true) → each test n ≡ true
each_of test zero h = refl
each_of test (suc n) h = rw (each_of test n (λ i l. h i (omega arith)), h n (omega arith))

-- a test that holds at each number of a range
pub ranged : (f : ℕ → Bool) (lo n : ℕ) → T (each (λ k. f (lo + k)) n) → (b : ℕ) → lo ≤ b → b < lo + n → f b ≡ true
ranged f lo n t b h k =
    let e : lo + (b - lo) ≡ b = omega arith in
    truth (f b) (subst (λ (m : ℕ). T (f m)) e (tested (λ k. f (lo + k)) n t (b - lo) (omega arith)))

-- two tests, or two numbers, that are the same at each number below n; and two tests where a third holds
pub agree : (f g : ℕ → Bool) (n : ℕ) → T (each (λ k. same (f k) (g k)) n) → (k : ℕ) → k < n → f k ≡ g k
agree f g n t k h = same_eq (f k) (g k) (tested (λ m. same (f m) (g m)) n t k h)

pub equal : (f g : ℕ → ℕ) (n : ℕ) → T (each (λ k. eqb (f k) (g k)) n) → (k : ℕ) → k < n → f k ≡ g k
equal f g n t k h = eqb→eq (f k) (g k) (tested (λ m. eqb (f m) (g m)) n t k h)

if_so : (a b c : Bool) → T (not a || same b c) → a ≡ true → b ≡ c
if_so true b c t e = same_eq b c t
if_so false b c t e = absurd (holds e)

pub agree_if : (p f g : ℕ → Bool) (n : ℕ) → T (each (λ k. not (p k) || same (f k) (g k)) n) → (k : ℕ) → k < n → p k ≡ true → f k ≡ g k
agree_if p f g n t k h = if_so (p k) (f k) (g k) (tested (λ m. not (p m) || same (f m) (g m)) n t k h)

-- and two numbers where a test holds
eqb_if : (a : Bool) (m n : ℕ) → T (not a || eqb m n) → a ≡ true → m ≡ n
eqb_if true m n t e = eqb→eq m n t
eqb_if false m n t e = absurd (holds e)

pub equal_if : (p : ℕ → Bool) (f g : ℕ → ℕ) (n : ℕ) → T (each (λ k. not (p k) || eqb (f k) (g k)) n) → (k : ℕ) → k < n → p k ≡ true → f k ≡ g k
equal_if p f g n t k h = eqb_if (p k) (f k) (g k) (tested (λ m. not (p m) || eqb (f m) (g m)) n t k h)
