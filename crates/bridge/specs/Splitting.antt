-- A movement, split into V reports: "Each report becomes the fewest V reports whose movements, each within -127 to 127 on both axes, add up to it
-- (U's pairs summed), at least one, all with its L and R. All but the last carry as much as they can on each axis."
use Rattle.std.specs.Prelude.{ℕ, zero, suc, ◌+◌, ◌/◌, ◌≤◌, max, List, [], ◌∷◌, ◌++◌, ℤ, pos, nat_abs}
use Rattle.std.specs.Int.Signed.{mag}
use Rattle.numbers.specs.Bits.{O, number, bit}
use Rattle.numbers.specs.Signed.{minus, held, excess}
use Rattle.wire.specs.Table.{bytes_of}
use Rattle.wire.specs.Reading.{report}
use Rattle.wire.specs.declared.Report.{Report}
use Rattle.wire.specs.declared.Format.TheVariants.{Microsoft}
use Rattle.bridge.specs.Remembered.{move, movement}
use Rattle.bridge.specs.declared.Past.{Past}
use Rattle.bridge.specs.declared.Move.{Move}

-- "as much as they can", "within -127 to 127": what a V report carries of a movement on an axis, and what it leaves
abbrev pub carries : ℤ → ℤ
carries d = held (minus 127) (pos 127) d

abbrev pub leaves : ℤ → ℤ
leaves d = excess (minus 127) (pos 127) d

abbrev pub rest : Move → Move
rest m = move (leaves m.x) (leaves m.y)

-- how many 127s an axis needs, and with it how many V reports a movement becomes: "at least one"
abbrev pub needs : ℤ → ℕ
needs d = (nat_abs d + 126) / 127

unfoldable pub count_of : Move → ℕ
count_of m = max 1 (max (needs m.x) (needs m.y))

-- "all with its L and R"; V has no middle, and it is up
abbrev pub left_and_right : ℕ → ℕ
left_and_right buttons = number (bit 2 buttons ∷ O ∷ bit 0 buttons ∷ [])

-- the V report that carries as much of a movement as it can
abbrev pub report_v : ℕ → Move → Report
report_v buttons m = report (left_and_right buttons) (carries m.x) (carries m.y)

-- so many of them, each of what the one before it leaves
unfoldable pub split : ℕ → ℕ → Move → List Report
split zero buttons m = []
split (suc n) buttons m = report_v buttons m ∷ split n buttons (rest m)

-- the V reports that a report becomes
unfoldable pub becomes : ℕ → Past → Report → List Report
becomes letter past p = split (count_of (movement letter past p)) p.buttons (movement letter past p)

-- their bytes, one report behind the other
abbrev pub bytes_all : List Report → List ℕ
bytes_all [] = []
bytes_all (v ∷ reports) = bytes_of Microsoft v ++ bytes_all reports

-- numbers that 32 bits hold, also with 127 more: sums and differences of 16-bit numbers
abbrev pub Near : ℤ → Type 0
Near d = mag d ≤ 65536

abbrev pub NearMove : Move → Type 0
NearMove m = Near m.x × Near m.y
