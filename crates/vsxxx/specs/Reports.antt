-- The two reports of the VSXXX as one frame: the first byte tells which it is, and so how many bytes it has.
use Rattle.std.specs.Prelude.{ℕ, ◌≡◌, Bool, true, cond, ◌&&◌, ◌||◌, List, [], ◌∷◌, length, eqb, ℤ, pos}
use Rattle.frames.specs.Frame.{Frame}
use Rattle.wire.specs.Places.{fits_first, fits_later}
use Rattle.wire.specs.Reading.{at, report_of}
use Rattle.wire.specs.Messages.{Message, HeldBy, message_bytes, carried_in}
use Rattle.wire.specs.declared.Report.{Report}
use Rattle.wire.specs.declared.Format.TheVariants.{Mm}
use Rattle.vsxxx.specs.SelfTests.{test_bytes, test_of, holds_test, is_test, is_buttons, fatal}
use Rattle.vsxxx.specs.declared.SelfTest.{SelfTest}

-- "100 - 3-byte relative position report (mouse)", which is a report of S; "101 - 4-byte self-test report"
pub data PuckReport : Type 0 where
  movement : Report → PuckReport
  self_test : SelfTest → PuckReport

-- how many bytes a report has that begins with this one
unfoldable pub size_from : ℕ → ℕ
size_from first = cond (is_test first) 4 3

-- which bytes may begin a report; the others, 110 and 111, none of the rules takes
unfoldable pub fits_start : ℕ → Bool
fits_start b = fits_first Mm b || is_test b

-- and which may stand at a later place behind a first byte: 0 and X6 to X0, 0 and Y6 to Y0, "0 M2 M1 M0 [..]", 0 and E6 to E0, and in byte 4 of a self-test,
-- whose place is 3, "0 0 0 0 0 L M R"
unfoldable pub fits_behind : ℕ → ℕ → ℕ → Bool
fits_behind first place b = cond (is_test first && eqb place 3) (is_buttons b) (fits_later Mm b)

abbrev pub fits_puck : List ℕ → ℕ → Bool
fits_puck [] b = fits_start b
fits_puck (first ∷ later) b = fits_behind first (length (first ∷ later)) b

-- the report that bytes stand for
abbrev pub puck_report : List ℕ → PuckReport
puck_report bs = cond (is_test (at 0 bs)) (self_test (test_of bs)) (movement (report_of Mm bs))

-- "Bit 7 of the first byte of a multibyte report is 1 [..] Bit 7 of the succeeding bytes of a multibyte report are always 0s."
abbrev pub puck_frame : Frame PuckReport
puck_frame = record { fits = fits_puck; size = size_from; marked = true; decode = puck_report }

-- "its long read writes six numbers each, first 0 for movement, 1 for a self-test, 2 if its error is 20H or over, fatal"; the second pair of a report of S
-- is zero
abbrev pub six_of : PuckReport → List ℤ
six_of (movement r) = pos 0 ∷ pos r.buttons ∷ r.x1 ∷ r.y1 ∷ r.x2 ∷ r.y2 ∷ []
six_of (self_test t) =
    pos (cond (fatal t) 2 1) ∷ pos t.revision ∷ pos t.maker ∷ pos t.device ∷ pos t.error ∷ pos t.buttons ∷ []

-- the bytes of a report
abbrev pub size_of_report : PuckReport → ℕ
size_of_report (movement r) = 3
size_of_report (self_test t) = 4

-- what a device puts on the line: what a box does, and self-tests
pub data PuckMessage : Type 0 where
  of_box_lem : Message → PuckMessage
  of_test : SelfTest → PuckMessage

abbrev pub puck_bytes : PuckMessage → List ℕ
puck_bytes (of_box_lem m) = message_bytes m
puck_bytes (of_test t) = test_bytes t

-- a report that S holds, or a self-test that the figure has room for
abbrev pub HeldByPuck : PuckMessage → Type 0
HeldByPuck (of_box_lem m) = HeldBy Mm m
HeldByPuck (of_test t) = holds_test t ≡ true

-- what is handed out of it
abbrev pub movements : List Report → List PuckReport
movements [] = []
movements (r ∷ reports) = movement r ∷ movements reports

abbrev pub shown_by_puck : PuckMessage → List PuckReport
shown_by_puck (of_box_lem m) = movements (carried_in Mm m)
shown_by_puck (of_test t) = self_test t ∷ []
