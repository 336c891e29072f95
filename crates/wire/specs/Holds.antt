-- What the encoder accepts: "exactly what the wire holds".
use Rattle.std.specs.Prelude.{ℕ, ◌≡◌, Bool, true, false, not, cond, ◌&&◌, [], ◌∷◌, leb, ℤ, pos, Option, Some, None}
use Rattle.std.specs.Int.Signed.{le_z}
use Rattle.wire.specs.Line.{named_by, of_named}
use Rattle.numbers.specs.Bits.{O, number}
use Rattle.numbers.specs.Signed.{minus}
use Rattle.wire.specs.Table.{L, R}
use Rattle.wire.specs.declared.Report.{Report}
use Rattle.wire.specs.declared.Range.{Range}
use Rattle.wire.specs.declared.Movement.{Movement}
use Rattle.wire.specs.declared.Movement.TheVariants.{FirstX, FirstY, SecondX, SecondY}
use Rattle.wire.specs.declared.Format.{Format}
use Rattle.wire.specs.declared.Format.TheVariants.{Mm, Microsoft, Absolute, Relative, FiveByte, ThreeByte, Hexadecimal}

infix 5 ◌to◌
abbrev pub ◌to◌ : ℤ → ℤ → Range
low to high = record { low = low; high = high }

abbrev pub within : Range → ℤ → Bool
within range v = le_z range.low v && le_z v range.high

-- "S -127 to 127; U, T, W -128 to 127; V x -128 to 127 and y -127 to 128; A 0 to 4095; B as listed", -2048 to 2047
abbrev pub x_range : Format → Range
x_range Mm = minus 127 to pos 127
x_range Microsoft = minus 128 to pos 127
x_range Absolute = pos 0 to pos 4095
x_range Relative = minus 2048 to pos 2047
x_range FiveByte = minus 128 to pos 127
x_range ThreeByte = minus 128 to pos 127
x_range Hexadecimal = minus 128 to pos 127

abbrev pub y_range : Format → Range
y_range Mm = minus 127 to pos 127
y_range Microsoft = minus 127 to pos 128
y_range Absolute = pos 0 to pos 4095
y_range Relative = minus 2048 to pos 2047
y_range FiveByte = minus 128 to pos 127
y_range ThreeByte = minus 128 to pos 127
y_range Hexadecimal = minus 128 to pos 127

-- "A report has a second x, y pair; it is zero except in U."
abbrev pub second_range : Format → Range
second_range Mm = pos 0 to pos 0
second_range Microsoft = pos 0 to pos 0
second_range Absolute = pos 0 to pos 0
second_range Relative = pos 0 to pos 0
second_range FiveByte = minus 128 to pos 127
second_range ThreeByte = pos 0 to pos 0
second_range Hexadecimal = pos 0 to pos 0

-- "movement the format cannot hold, either pair": the first of x1, y1, x2, y2 that lies outside its range, or none
abbrev pub unheld : Format → Report → Option Movement
unheld f r =
    cond (not (within (x_range f) r.x1)) (Some FirstX)
    (cond (not (within (y_range f) r.y1)) (Some FirstY)
    (cond (not (within (second_range f) r.x2)) (Some SecondX)
    (cond (not (within (second_range f) r.y2)) (Some SecondY)
    None)))

abbrev pub is_none : Option Movement → Bool
is_none None = true
is_none (Some movement) = false

-- the format holds a report's movements: there is none that it does not
unfoldable pub holds : Format → Report → Bool
holds f r = is_none (unheld f r)

-- what it says of a report that this movement is the one: it is not held, and those before it in the order are
abbrev pub Fault : Format → Report → Option Movement → Type 0
Fault f r None =
    (within (x_range f) r.x1 ≡ true) × (within (y_range f) r.y1 ≡ true) × (within (second_range f) r.x2 ≡ true) × (within (second_range f) r.y2 ≡ true)
Fault f r (Some FirstX) = within (x_range f) r.x1 ≡ false
Fault f r (Some FirstY) = (within (x_range f) r.x1 ≡ true) × (within (y_range f) r.y1 ≡ false)
Fault f r (Some SecondX) = (within (x_range f) r.x1 ≡ true) × (within (y_range f) r.y1 ≡ true) × (within (second_range f) r.x2 ≡ false)
Fault f r (Some SecondY) =
    (within (x_range f) r.x1 ≡ true) × (within (y_range f) r.y1 ≡ true) × (within (second_range f) r.x2 ≡ true) × (within (second_range f) r.y2 ≡ false)

-- "Buttons are 4L+2M+R, 0 to 7, handed in as a byte"
abbrev pub pressable : Report → Bool
pressable r = leb r.buttons 7

-- a report that the encoder accepts
unfoldable pub accepted : Format → Report → Bool
accepted f r = pressable r && holds f r

-- what a format carries of a report: "V drops M, and a V report read back has M up."
abbrev pub without_m : Report → Report
without_m r = record { buttons = number (L r ∷ O ∷ R r ∷ []); x1 = r.x1; y1 = r.y1; x2 = r.x2; y2 = r.y2 }

abbrev pub carried : Format → Report → Report
carried Mm r = r
carried Microsoft r = without_m r
carried Absolute r = r
carried Relative r = r
carried FiveByte r = r
carried ThreeByte r = r
carried Hexadecimal r = r

-- the same by letter: one that is not in the table asks nothing of a report, and its own refusal, 1, comes before any other
unfoldable pub accepted_by : ℕ → Report → Bool
accepted_by letter r = of_named true (λ f. accepted f r) (named_by letter)

-- a report as its format carries it, by letter
unfoldable pub carried_by : ℕ → Report → Report
carried_by letter p = of_named p (λ f. carried f p) (named_by letter)
