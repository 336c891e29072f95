-- A press is down behind up.
use borrow.Author.Rules.{rules}
use native.Mathlib.Omega.{arith}
use mathlib.Core.Path.{◌≡◌, ◌∙◌}
use lib.Dec.{ltb}
use Prim.Native.Nat.{ℕ, ◌+◌, min, ◌<◌}
use borrow.Author.Tests.{ltb-true, ltb-false}
use Rattle.numbers.proofs.Choices.{cases}
use Rattle.bridge.specs.Remembered.{counted_by, one_more}
use Rattle.bridge.proofs.Past.counted.Goals as goal

held : (n : ℕ) → n < 65536 → min (n + 1) 65535 ≡ one_more n
unfolding one_more
held n h =
    cases (λ (m : ℕ). min (n + 1) 65535 ≡ m) (ltb n 65535) (λ e. omega (arith, ltb-true n 65535 e)) (λ e. omega (arith, ltb-false n 65535 e))

pub returns-then-down-self : goal.returns-then-down-self
unfolding counted_by
returns-then-down-self c = rw c.if-down-self.true (c.saturating_add.ensures ∙ held _ (search rules))

pub returns : goal.returns
unfolding counted_by
returns c = rw c.if-down-self.false
