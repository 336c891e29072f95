-- Buttons that the movement reports of a device show. A self-test is no movement report: it tells its buttons in a
-- field of its own, and a watch is not handed it.
use Rattle.std.specs.Prelude.{ℕ, List, [], ◌∷◌}
use Rattle.wire.specs.Buttons.{latched_buttons}
use Rattle.wire.specs.declared.Report.{Report}
use Rattle.vsxxx.specs.Reports.{PuckReport, movement, self_test, PuckMessage, of_box_lem, of_test}

-- the movements among reports that are handed out, in their order
abbrev pub movements_in : List PuckReport → List Report
movements_in [] = []
movements_in (movement r ∷ reports) = r ∷ movements_in reports
movements_in (self_test t ∷ reports) = movements_in reports

-- the buttons of a movement as it was latched
abbrev pub movement_buttons : PuckMessage → List ℕ
movement_buttons (of_box_lem m) = latched_buttons m
movement_buttons (of_test t) = []
