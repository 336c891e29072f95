-- A line's letter and fields, to its item: Printing's forms read the other way; and an item as five numbers.
use Rattle.std.specs.Prelude.{ℕ, ◌+◌, ◌/◌, ◌%◌, ◌^◌, ◌<◌, ◌≤◌, ◌≡◌, Bool, false, cond, ◌&&◌, ◌||◌, List, [], ◌∷◌, ◌++◌, leb, eqb, ℤ, pos, nat_abs, get_or, Option, None, Some}
use Rattle.std.specs.Int.Signed.{lt_z}
use Rattle.text.specs.Decimals.{plain}
use Rattle.listing.specs.Scanning.{most_lines}
use Rattle.listing.specs.Printing.{letter_d, letter_r, letter_h, letter_e, letter_l, letter_s}
use Rattle.listing.specs.declared.Middle.{Middle}
use Rattle.listing.specs.declared.Middle.TheVariants.{Up, Down, Unknown}
use Rattle.listing.specs.declared.Buttons.{Buttons}
use Rattle.listing.specs.declared.Item.{Item}
use Rattle.listing.specs.declared.Item.TheVariants as item
use Rattle.readback.specs.Fields.{low, high, Fields, fields_in}
use Rattle.readback.specs.declared.Kind.TheVariants as kind

-- buttons as a number: 4L + 2M + R, and 8 where the middle is not known
abbrev pub middle_number : Middle → ℕ
middle_number Up = 0
middle_number Down = 2
middle_number Unknown = 8

abbrev pub counted : Bool → ℕ → ℕ
counted down value = cond down value 0

abbrev pub pressed_number : Buttons → ℕ
pressed_number b = counted b.left 4 + middle_number b.middle + counted b.right 1

-- and back
abbrev pub middle_at : ℕ → Middle
middle_at n = cond (leb 8 n) Unknown (cond (eqb (n / 2 % 2) 1) Down Up)

abbrev pub buttons_at : ℕ → Buttons
buttons_at n = record { left = eqb (n / 4 % 2) 1; middle = middle_at n; right = eqb (n % 2) 1 }

-- an item as five numbers: its kind, its line and three values, 0 where it has none
pub record Five : Type 0 where
  pub kind : ℤ
  pub line : ℤ
  pub a : ℤ
  pub b : ℤ
  pub c : ℤ

abbrev pub five : ℤ → ℤ → ℤ → ℤ → ℤ → Five
five kind line a b c = record { kind = kind; line = line; a = a; b = b; c = c }

abbrev pub five_of : Item → Five
five_of (item.R n b x y) = five (pos 1) (pos n) (pos (pressed_number b)) x y
five_of (item.D n k) = five (pos 2) (pos n) (pos k) (pos 0) (pos 0)
five_of (item.H k) = five (pos 3) (pos 0) (pos k) (pos 0) (pos 0)
five_of (item.E n) = five (pos 4) (pos n) (pos 0) (pos 0) (pos 0)
five_of item.Over = five (pos 5) (pos 0) (pos 0) (pos 0) (pos 0)

abbrev pub numbers_of : Item → List ℤ
numbers_of i = let f = five_of i in f.kind ∷ f.line ∷ f.a ∷ f.b ∷ f.c ∷ []

-- items one behind the other
abbrev pub all_numbers : List Item → List ℤ
all_numbers [] = []
all_numbers (i ∷ is) = numbers_of i ++ all_numbers is

-- "16 bits signed"
abbrev pub Sixteen : ℤ → Type 0
Sixteen x = (lt_z x low || lt_z (pos high) x) ≡ false

-- what is read is no more than that
abbrev pub Small : Item → Type 0
Small (item.R n b x y) = (n ≤ most_lines) × Sixteen x × Sixteen y
Small (item.D n k) = (n ≤ most_lines) × (k ≤ high)
Small (item.H k) = k ≤ high
Small (item.E n) = n ≤ most_lines
Small item.Over = Unit {0}

-- an item that a line of a width can show: "values are not judged, but D's count is 1 or more"
abbrev pub Numbered : ℕ → ℕ → Type 0
Numbered w n = (n < 10 ^ w) × (n ≤ most_lines)

abbrev pub Proper : ℕ → Item → Type 0
Proper w (item.R n b x y) = Numbered w n × Sixteen x × Sixteen y
Proper w (item.D n k) = Numbered w n × (1 ≤ k) × (k ≤ high)
Proper w (item.H k) = k ≤ high
Proper w (item.E n) = Numbered w n
Proper w item.Over = Unit {0}

-- the values of fields
abbrev pub value_at : ℕ → Fields → ℤ
value_at i f = get_or f.values i (pos 0)

abbrev pub number_at : ℕ → Fields → ℕ
number_at i f = nat_abs (value_at i f)

-- "`D`, line of the word so answered, bytes dropped (when not 0)": "D's count is 1 or more"
unfoldable pub dropped_in : ℕ → List ℕ → Option Item
dropped_in w line =
    let f = fields_in w (kind.Line ∷ kind.Count ∷ []) line in
    cond (f.good && lt_z (pos 0) (value_at 1 f)) (Some (item.D (number_at 0 f) (number_at 1 f))) None

-- "`R`, line of the last byte, buttons [..], x and y": "values are not judged"
unfoldable pub report_in : ℕ → List ℕ → Option Item
report_in w line =
    let f = fields_in w (kind.Line ∷ kind.Pressed ∷ kind.Number ∷ kind.Number ∷ []) line in
    cond f.good (Some (item.R (number_at 0 f) (buttons_at (number_at 1 f)) (value_at 2 f) (value_at 3 f))) None

-- "`H` and bytes kept": "and H's 0 or more"
unfoldable pub kept_in : ℕ → List ℕ → Option Item
kept_in w line = let f = fields_in w (kind.Count ∷ []) line in cond f.good (Some (item.H (number_at 0 f))) None

-- "`E` and its number", "`E` and `over`"
unfoldable pub bad_in : ℕ → List ℕ → Option Item
bad_in w line =
    let f = fields_in w (kind.Line ∷ []) line in
    cond (fields_in w (kind.Over ∷ []) line).good (Some item.Over) (cond f.good (Some (item.E (number_at 0 f))) None)

-- the item of a line at a width, if it is one: a letter and its fields
unfoldable pub item_in : ℕ → List ℕ → Option Item
item_in w [] = None
item_in w (letter ∷ fields) =
    cond (eqb letter letter_d) (dropped_in w fields)
    (cond (eqb letter letter_r) (report_in w fields)
    (cond (eqb letter letter_h) (kept_in w fields)
    (cond (eqb letter letter_e) (bad_in w fields)
    None)))

-- "It always prints first `L` and the width of line numbers", or `S`: the width, or 0 where the line says none
unfoldable pub width_in : List ℕ → ℕ
width_in [] = 0
width_in (letter ∷ fields) =
    let f = fields_in plain (kind.Count ∷ []) fields in
    cond ((eqb letter letter_l || eqb letter letter_s) && f.good) (number_at 0 f) 0

-- what is answered of it: none where the line says none
abbrev pub WidthIs : ℕ → Option ℕ → Type 0
WidthIs w None = w ≡ 0
WidthIs w (Some n) = n ≡ w

-- "§2's reader accepts both and says which it read": whether it is a salvage's
unfoldable pub salvage_in : List ℕ → Bool
salvage_in [] = false
salvage_in (letter ∷ fields) = eqb letter letter_s
