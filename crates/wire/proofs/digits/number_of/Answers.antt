-- `number_of`: the two ranges of digits, and what lies outside them.
use Prim.Native.Nat.{ℕ, ◌≤◌, ◌<◌, ◌+◌, ◌%◌}
use borrow.Author.Tests.{le-leb, lt-leb}
use lib.Dec.{leb}
use mathlib.Core.Bool.{◌&&◌}
use mathlib.Core.Path.{◌≡◌}
use native.Mathlib.Omega.{arith}
use Rattle.numbers.proofs.Tested.{equal_if}
use Rattle.wire.specs.Digits.{undigit}
use Rattle.wire.proofs.digits.number_of.Goals as goal

decimal : (b : ℕ) → 48 ≤ b → b ≤ 57 → b % 16 ≡ undigit b
unfolding undigit
decimal b h k = equal_if (λ n. leb 48 n && leb n 57) (λ n. n % 16) undigit 256 tt b (omega arith) (rw (le-leb 48 b h, le-leb b 57 k))

letter : (b : ℕ) → 65 ≤ b → b ≤ 70 → b % 16 + 9 ≡ undigit b
unfolding undigit
letter b h k = equal_if (λ n. leb 65 n && leb n 70) (λ n. n % 16 + 9) undigit 256 tt b (omega arith) (rw (le-leb 65 b h, le-leb b 70 k))

below : (b : ℕ) → b < 48 → 0 ≡ undigit b
unfolding undigit
below b h = let k : b < 65 = omega arith in simp (lt-leb 48 b h, lt-leb 65 b k)

amid : (b : ℕ) → 57 < b → b < 65 → 0 ≡ undigit b
unfolding undigit
amid b h k = let l : 48 ≤ b = omega arith in simp (le-leb 48 b l, lt-leb b 57 h, lt-leb 65 b k)

above : (b : ℕ) → 70 < b → 0 ≡ undigit b
unfolding undigit
above b h =
    let k : 57 < b = omega arith in
    let l : 48 ≤ b = omega arith in
    let m : 65 ≤ b = omega arith in
    simp (le-leb 48 b l, lt-leb b 57 k, le-leb 65 b m, lt-leb b 70 h)

pub returns-in-48-to-57 : goal.returns-in-48-to-57
returns-in-48-to-57 c = decimal c.args.b (omega arith) (omega arith)

pub returns-in-65-to-70 : goal.returns-in-65-to-70
returns-in-65-to-70 c = letter c.args.b (omega arith) (omega arith)

pub returns-in_default : goal.returns-in_default
returns-in_default c = below c.args.b (omega arith)

pub returns-in_default-2 : goal.returns-in_default-2
returns-in_default-2 c = amid c.args.b (omega arith) (omega arith)

pub returns-in_default-3 : goal.returns-in_default-3
returns-in_default-3 c = above c.args.b (omega arith)
