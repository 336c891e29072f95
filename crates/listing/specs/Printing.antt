-- Items to bytes, at a width of line numbers: the rule. A line is a letter and its fields, each behind a tab. Stamped is
-- the quick way.
use Rattle.std.specs.Prelude.{ℕ, Bool, true, false, cond, List, [], ◌∷◌, ◌++◌, pos, Option, None, Some}
use Rattle.text.specs.Decimals.{plain, decimal_of}
use Rattle.listing.specs.Lines.{newline, tab}
use Rattle.listing.specs.declared.Middle.{Middle}
use Rattle.listing.specs.declared.Middle.TheVariants.{Up, Down, Unknown}
use Rattle.listing.specs.declared.Buttons.{Buttons}
use Rattle.listing.specs.declared.Item.{Item}
use Rattle.listing.specs.declared.Item.TheVariants as item
use Rattle.listing.specs.declared.Field.{Field}
use Rattle.listing.specs.declared.Field.TheVariants as field

-- a letter where a button is down, "or `-`"
abbrev pub pressed : Bool → ℕ → ℕ
pressed down letter = cond down letter 0x2D

-- "(middle `?` in V)"
abbrev pub middle : Middle → ℕ
middle Up = 0x2D
middle Down = 0x4D
middle Unknown = 0x3F

-- "buttons as L M R"
abbrev pub three : Buttons → List ℕ
three b = pressed b.left 0x4C ∷ middle b.middle ∷ pressed b.right 0x52 ∷ []

-- "`E` and `over`"
abbrev pub over : List ℕ
over = 0x6F ∷ 0x76 ∷ 0x65 ∷ 0x72 ∷ []

-- the bytes of a field
abbrev pub field_of : ℕ → Field → List ℕ
field_of w (field.Line n) = decimal_of w (pos n)
field_of w (field.Number x) = decimal_of plain x
field_of w (field.Pressed b) = three b
field_of w field.Over = over

-- "tab between fields"
abbrev pub fields_of : ℕ → List Field → List ℕ
fields_of w [] = []
fields_of w (f ∷ fs) = tab ∷ field_of w f ++ fields_of w fs

-- a line: its letter and its fields
pub record Form : Type 0 where
  pub letter : ℕ
  pub fields : List Field

abbrev pub form : ℕ → List Field → Form
form letter fields = record { letter = letter; fields = fields }

-- the letters
abbrev pub letter_l : ℕ
letter_l = 0x4C

abbrev pub letter_s : ℕ
letter_s = 0x53

abbrev pub letter_d : ℕ
letter_d = 0x44

abbrev pub letter_r : ℕ
letter_r = 0x52

abbrev pub letter_h : ℕ
letter_h = 0x48

abbrev pub letter_e : ℕ
letter_e = 0x45

-- "then `D`, line of the word so answered, bytes dropped (when not 0); `R`, line of the last byte, buttons [..], x and y [..]; at the end `H` and
-- bytes kept. A bad line gives `E` and its number [..]; line 1,000,000 gives `E` and `over`"
abbrev pub form_of : Item → Form
form_of (item.D n k) = form letter_d (field.Line n ∷ field.Number (pos k) ∷ [])
form_of (item.R n b x y) = form letter_r (field.Line n ∷ field.Pressed b ∷ field.Number x ∷ field.Number y ∷ [])
form_of (item.H k) = form letter_h (field.Number (pos k) ∷ [])
form_of (item.E n) = form letter_e (field.Line n ∷ [])
form_of item.Over = form letter_e (field.Over ∷ [])

-- "It always prints first `L` and the width of line numbers"; of a salvage, "its listing begins with `S` instead of `L`"
abbrev pub first_letter : Bool → ℕ
first_letter salvage = cond salvage letter_s letter_l

abbrev pub opening_of : Bool → ℕ → Form
opening_of salvage w = form (first_letter salvage) (field.Number (pos w) ∷ [])

abbrev pub opening : ℕ → Form
opening w = opening_of false w

abbrev pub opening_s : ℕ → Form
opening_s w = opening_of true w

-- the bytes of a line
abbrev pub head_of : ℕ → Form → List ℕ
head_of w f = f.letter ∷ fields_of w f.fields

unfoldable pub line_of : ℕ → Form → List ℕ
line_of w f = head_of w f ++ newline ∷ []

-- the first line where nothing is given, or an item's
abbrev pub line_at : Bool → ℕ → Option Item → List ℕ
line_at salvage w None = line_of w (opening_of salvage w)
line_at salvage w (Some i) = line_of w (form_of i)

-- one line after the other
abbrev pub all_bytes : ℕ → List Item → List ℕ
all_bytes w [] = []
all_bytes w (i ∷ is) = line_of w (form_of i) ++ all_bytes w is
