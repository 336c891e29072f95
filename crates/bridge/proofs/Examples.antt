-- Worked reports and lines of the bridge.
use mathlib.Core.Path.{◌≡◌, refl}
use mathlib.Core.Bool.{true, false}
use mathlib.Core.List.{[], ◌∷◌}
use lib.ListN.{length, replicate}
use lib.IntN.{pos}
use Rattle.numbers.specs.Signed.{minus}
use Rattle.wire.specs.Reading.{report}
use Rattle.reader.specs.State.{ready}
use Rattle.bridge.specs.Remembered.{none, no_base, base_at}
use Rattle.bridge.specs.Splitting.{becomes}
use Rattle.fold.specs.Calls.{call}
use Rattle.bridge.specs.Line.{whole, converts}
use Rattle.bridge.specs.Promises.{with_none}
use Rattle.bridge.specs.declared.Past.{Past}
use Rattle.bridge.specs.declared.Bridge.{Bridge}
use Rattle.bridge.proofs.Computing.{computing}

-- in T: -128 on an axis gives two V reports; with L and M down L is sent
pub two : becomes 0x54 none (report 6 (minus 128) (pos 5)) ≡ report 4 (minus 127) (pos 5) ∷ report 4 (minus 1) (pos 0) ∷ []
unfolding computing
two = refl

-- in U: pairs summed, 254 is two and -256 three; an axis may be 0 early
pub u_two : becomes 0x55 none (record { buttons = 1; x1 = pos 127; y1 = pos 0; x2 = pos 127; y2 = pos 1 }) ≡ report 1 (pos 127) (pos 1) ∷ report 1 (pos 127) (pos 0) ∷ []
unfolding computing
u_two = refl

pub u_three : becomes 0x55 none (record { buttons = 0; x1 = minus 128; y1 = pos 3; x2 = minus 128; y2 = minus 3 }) ≡ report 0 (minus 127) (pos 0) ∷ report 0 (minus 127) (pos 0) ∷ report 0 (minus 2) (pos 0) ∷ []
unfolding computing
u_three = refl

-- in A: the first moves nothing, and from edge to edge it takes 33
pub a_first : becomes 0x41 none (report 1 (pos 4095) (pos 7)) ≡ report 1 (pos 0) (pos 0) ∷ []
unfolding computing
a_first = refl

abbrev at_edge : Past
at_edge = record { base = base_at (pos 0) (pos 4095); middle = false; presses = 0 }

pub a_edge : length (becomes 0x41 at_edge (report 0 (pos 4095) (pos 0))) ≡ 33
unfolding computing
a_edge = refl

-- a line of T: a tap of the middle button, with a step to the left of 128. The press is counted, and both V reports have the buttons up.
abbrev pressed_once : Bridge
pressed_once = record { reader = ready 0x54; past = record { base = no_base; middle = true; presses = 1 } }

pub line_t : call converts (with_none (ready 0x54)) (2 ∷ 0x80 ∷ 0 ∷ []) (replicate 7 9)
    ≡ whole (record { refusal = 0; next = pressed_once; taken = 3; reports = 1; sent = 2; dropped = 0 }) (0x42 ∷ 0x01 ∷ 0 ∷ 0x43 ∷ 0x3F ∷ 0 ∷ 9 ∷ [])
unfolding computing
line_t = refl

-- with five places it stops before the word that completes the report, and nothing is written
pub line_t_stops : call converts (with_none (ready 0x54)) (2 ∷ 0x80 ∷ 0 ∷ []) (replicate 5 9)
    ≡ whole (record { refusal = 0; next = with_none (record { format = 0x54; kept = 2 ∷ 0x80 ∷ 0 ∷ 0 ∷ 0 ∷ []; count = 2; awaiting = false }); taken = 2; reports = 0; sent = 0; dropped = 0 }) (replicate 5 9)
unfolding computing
line_t_stops = refl
