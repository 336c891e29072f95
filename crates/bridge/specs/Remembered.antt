-- What is remembered of the reports so far, and how a report moves by it.
use Rattle.std.specs.Prelude.{ℕ, ◌+◌, Bool, true, false, not, cond, ◌&&◌, ◌||◌, ltb, eqb, ℤ, pos, ◌+ℤ◌, ◌-ℤ◌}
use Rattle.wire.specs.Line.{letter_of}
use Rattle.wire.specs.Table.{M}
use Rattle.wire.specs.Holds.{◌to◌, within}
use Rattle.wire.specs.declared.Report.{Report}
use Rattle.wire.specs.declared.Format.TheVariants.{Absolute}
use Rattle.bridge.specs.declared.Base.{Base}
use Rattle.bridge.specs.declared.Past.{Past}
use Rattle.bridge.specs.declared.Move.{Move}

abbrev pub is_a : ℕ → Bool
is_a letter = eqb letter (letter_of Absolute)

abbrev pub move : ℤ → ℤ → Move
move x y = record { x = x; y = y }

-- a base, and none
abbrev pub base_at : ℤ → ℤ → Base
base_at x y = record { set = true; x = x; y = y }

abbrev pub no_base : Base
no_base = record { set = false; x = pos 0; y = pos 0 }

-- before the first report: no base, the middle "starting from up", no press
abbrev pub none : Past
none = record { base = no_base; middle = false; presses = 0 }

-- "U's pairs summed": the second is zero in the other formats
abbrev pub summed : Report → Move
summed p = move (p.x1 +ℤ p.x2) (p.y1 +ℤ p.y2)

-- "In A, the first report sets the base and moves nothing; later ones move by the difference."
unfoldable pub since_base : Base → Report → Move
since_base base p = cond base.set (move (p.x1 -ℤ base.x) (p.y1 -ℤ base.y)) (move (pos 0) (pos 0))

-- the movement of a report
unfoldable pub movement : ℕ → Past → Report → Move
movement letter past p = cond (is_a letter) (since_base past.base p) (summed p)

-- "Middle presses, taken from one report to the next and starting from up, are counted, up to 65,535 and held there": down behind up is a press
abbrev pub most_presses : ℕ
most_presses = 65535

unfoldable pub one_more : ℕ → ℕ
one_more presses = cond (ltb presses most_presses) (presses + 1) presses

unfoldable pub counted_by : Past → Bool → ℕ
counted_by past down = cond (down && not past.middle) (one_more past.presses) past.presses

-- what is remembered behind a report; in A its position is the base of the next
abbrev pub base_behind : ℕ → Base → Report → Base
base_behind letter base p = cond (is_a letter) (base_at p.x1 p.y1) base

unfoldable pub noted : ℕ → Past → Report → Past
noted letter past p = record { base = base_behind letter past.base p; middle = M p; presses = counted_by past (M p) }

-- a base only in A, each number of it 0 to 4095; where there is none its numbers are 0
abbrev pub most_set : Bool → ℕ
most_set set = cond set 4095 0

unfoldable pub good_base : ℕ → Base → Bool
good_base letter base =
    (not base.set || is_a letter) && within (pos 0 to pos (most_set base.set)) base.x && within (pos 0 to pos (most_set base.set)) base.y
