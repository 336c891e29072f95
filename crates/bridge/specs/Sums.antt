-- What the theorems on V reports speak of: their movements summed, and what holds of each of them.
use Rattle.std.specs.Prelude.{◌≤◌, ◌≡◌, true, false, List, [], ◌∷◌, length, ℤ, pos, ◌+ℤ◌}
use Rattle.numbers.specs.Signed.{minus}
use Rattle.wire.specs.Table.{L, M, R}
use Rattle.wire.specs.Holds.{◌to◌, within}
use Rattle.wire.specs.declared.Report.{Report}
use Rattle.bridge.specs.declared.Move.{Move}

abbrev pub sum_x : List Report → ℤ
sum_x [] = pos 0
sum_x (v ∷ reports) = v.x1 +ℤ sum_x reports

abbrev pub sum_y : List Report → ℤ
sum_y [] = pos 0
sum_y (v ∷ reports) = v.y1 +ℤ sum_y reports

-- what holds of each report of a list
abbrev pub Every : (Report → Type 0) → List Report → Type 0
Every P [] = Unit {0}
Every P (v ∷ reports) = P v × Every P reports

-- "each within -127 to 127 on both axes"
abbrev pub InReach : ℤ → Type 0
InReach d = within (minus 127 to pos 127) d ≡ true

abbrev pub BothInReach : Report → Type 0
BothInReach v = InReach v.x1 × InReach v.y1

-- V reports, one or more, "whose movements, each within -127 to 127 on both axes, add up to it"
pub record AddsUp (reports : List Report) (m : Move) : Type 0 where
  pub some : 1 ≤ length reports
  pub each : Every BothInReach reports
  pub east : sum_x reports ≡ m.x
  pub north : sum_y reports ≡ m.y

-- "all with its L and R", and the middle up
pub record SameButtons (p v : Report) : Type 0 where
  pub left_is : L v ≡ L p
  pub right_is : R v ≡ R p
  pub middle_up : M v ≡ false
