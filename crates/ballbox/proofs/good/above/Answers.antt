-- `above`: 256 to the n.
use Prim.Native.Nat.{ℕ, suc, ◌≤◌, ◌<◌, zero-le}
use mathlib.Core.Path.{◌≡◌}
use native.Mathlib.Omega.{arith}
use Rattle.ballbox.proofs.good.above.Goals as goal

seven : (n : ℕ) → 7 ≤ n → n < 8 → n ≡ 7
seven n a b = omega arith

pub returns-in-0 : goal.returns-in-0
returns-in-0 c = rw c.in-0.is

pub returns-in-1 : goal.returns-in-1
returns-in-1 c = rw c.in-1.is

pub returns-in-2 : goal.returns-in-2
returns-in-2 c = rw c.in-2.is

pub returns-in-3 : goal.returns-in-3
returns-in-3 c = rw c.in-3.is

pub returns-in-4 : goal.returns-in-4
returns-in-4 c = rw c.in-4.is

pub returns-in-5 : goal.returns-in-5
returns-in-5 c = rw c.in-5.is

pub returns-in-6 : goal.returns-in-6
returns-in-6 c = rw c.in-6.is

up : (k n : ℕ) → k ≤ n → (n ≡ k → ⊥) → suc k ≤ n
up k n h e = omega arith

pub returns-in_default : goal.returns-in_default
returns-in_default c =
    let r = c.in_default.in_default-own.rest in
    let n = c.args.n in
    let m = up 6 n (up 5 n (up 4 n (up 3 n (up 2 n (up 1 n (up 0 n zero-le r.0.0.0.0.0.0.1) r.0.0.0.0.0.1) r.0.0.0.0.1) r.0.0.0.1) r.0.0.1) r.0.1) r.1 in
    rw (seven n m c.requires)
