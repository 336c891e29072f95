-- Each count with what the report adds.
use Prim.Native.Nat.{ℕ, ◌/◌, ◌^◌, ◌≤◌}
use mathlib.Core.Path.{◌≡◌, ◌∙◌, ap}
use mathlib.Core.Bool.{Bool, true, false, cond}
use native.Mathlib.Omega.{arith}
use Rattle.numbers.specs.Bits.{bit}
use Rattle.wire.specs.Buttons.{Button, left, middle, right}
use Rattle.saves.specs.Rules.{hears}
use Rattle.saves.specs.Promises.{once}
use Rattle.saves.specs.Parts.{with_report}
use Rattle.saves.specs.declared.Told.{Told}
use Rattle.saves.proofs.Numbers.{shifted}
use Rattle.saves.proofs.Watched.with.Goals as goal

few : (n r : ℕ) → r ≡ cond (bit 0 n) 1 0 → r ≤ 1
few n r e = go (bit 0 n) e
  where
    go : (b : Bool) → r ≡ cond b 1 0 → r ≤ 1
    go true e = omega arith
    go false e = omega arith

-- a bit that was shifted down, of what is told
at_place : (k n r : ℕ) → r ≡ cond (bit 0 (n / 2 ^ k)) 1 0 → r ≡ cond (bit k n) 1 0
at_place k n r e = rw (shifted k n) at e

as_told : (button : Button) (t u : Told) (r : ℕ) → t ≡ u → r ≡ once button t → r ≡ once button u
as_told button t u r e h = h ∙ ap (once button) e

pub overflow_add-result : goal.overflow_add-result
overflow_add-result c = omega (arith, few _ _ c.lowest-left.ensures, c.requires)

pub overflow_add-result-2 : goal.overflow_add-result-2
overflow_add-result-2 c = omega (arith, few _ _ c.lowest-middle.ensures, c.requires)

pub overflow_add-result-3 : goal.overflow_add-result-3
overflow_add-result-3 c = omega (arith, few _ _ c.lowest-right.ensures, c.requires)

pub returns : goal.returns
unfolding with_report
returns c = let told = c.hears-told in
    let t = told.result in
    let u = hears c.args.self.next c.args.now in
    let l = as_told left t u _ told.ensures (at_place 2 t.down _ c.lowest-left.ensures) in
    let m = as_told middle t u _ told.ensures (at_place 1 t.down _ c.lowest-middle.ensures) in
    let r = as_told right t u _ told.ensures c.lowest-right.ensures in
    rw (l, m, r, told.ensures)
