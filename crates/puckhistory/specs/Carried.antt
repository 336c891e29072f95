-- What is under way of a device.
use Rattle.std.specs.Prelude.{ℕ, ◌+◌, ◌<◌, ◌≡◌}
use Rattle.frames.specs.Passages.{UnderWay, nothing, first}
use Rattle.frames.specs.Retold.{under_way_as}
use Rattle.wire.specs.Messages.{Message}
use Rattle.wire.specs.declared.Format.TheVariants.{Mm}
use Rattle.history.specs.Carried.{SetTo}
use Rattle.vsxxx.specs.Reports.{PuckMessage, of_box_lem, of_test}
use Rattle.puck.specs.Device.{test_now}
use Rattle.puck.specs.declared.Puck.{Puck}

-- what its box has going, or a self-test of which n bytes have gone, while the box has nothing going
pub data Holds (p : Puck) : UnderWay PuckMessage → Type 0 where
  by_box_lem : (g : UnderWay Message) → p.test.left ≡ 0 → SetTo Mm p.ball g → Holds p (under_way_as of_box_lem g)
  by_test : (n : ℕ) → n + p.test.left ≡ 4 → 0 < p.test.left → SetTo Mm p.ball nothing → Holds p (first n (of_test (test_now p)))
