-- The table of a listing: comma separated, a head line, a first row where it is a salvage's, a row for each item, and a last row.
use Rattle.std.specs.Prelude.{ℕ, Bool, true, false, cond, List, [], ◌∷◌, ◌++◌, eqb, ℤ, pos, replicate}
use Rattle.text.specs.Decimals.{plain, decimal_of}
use Rattle.listing.specs.Lines.{newline}
use Rattle.listing.specs.Printing.{letter_d, letter_r, letter_h, letter_e, over}
use Rattle.listing.specs.declared.Middle.{Middle}
use Rattle.listing.specs.declared.Middle.TheVariants.{Up, Down, Unknown}
use Rattle.listing.specs.declared.Buttons.{Buttons}
use Rattle.listing.specs.declared.Item.{Item}
use Rattle.listing.specs.declared.Item.TheVariants as item
use Rattle.readback.specs.Whole.{reading_of}

abbrev pub comma : ℕ
comma = 0x2C

-- cells that are left empty, a number, and a button: 1 where it is down, else 0, and `?` where it is not known
abbrev pub commas : ℕ → List ℕ
commas count = replicate count comma

abbrev pub cell_of : ℤ → List ℕ
cell_of x = comma ∷ decimal_of plain x

abbrev pub digit_of : Bool → ℕ
digit_of down = cond down 0x31 0x30

abbrev pub is_unknown : Middle → Bool
is_unknown Up = false
is_unknown Down = false
is_unknown Unknown = true

abbrev pub is_down : Middle → Bool
is_down Up = false
is_down Down = true
is_down Unknown = false

abbrev pub middle_of : Middle → ℕ
middle_of m = cond (is_unknown m) 0x3F (digit_of (is_down m))

abbrev pub buttons_of : Buttons → List ℕ
buttons_of b = comma ∷ digit_of b.left ∷ comma ∷ middle_of b.middle ∷ comma ∷ digit_of b.right ∷ []

-- item,line,left,middle,right,x,y,count
abbrev pub row_of : Item → List ℕ
row_of (item.R n b x y) = letter_r ∷ cell_of (pos n) ++ buttons_of b ++ cell_of x ++ cell_of y ++ commas 1
row_of (item.D n k) = letter_d ∷ cell_of (pos n) ++ commas 5 ++ cell_of (pos k)
row_of (item.H k) = letter_h ∷ commas 6 ++ cell_of (pos k)
row_of (item.E n) = letter_e ∷ cell_of (pos n) ++ commas 6
row_of item.Over = letter_e ∷ comma ∷ over ++ commas 6

abbrev pub rows_of : List Item → List ℕ
rows_of [] = []
rows_of (i ∷ is) = row_of i ++ newline ∷ rows_of is

-- item,line,left,middle,right,x,y,count
abbrev pub head_row : List ℕ
head_row =
    0x69 ∷ 0x74 ∷ 0x65 ∷ 0x6D ∷ 0x2C ∷ 0x6C ∷ 0x69 ∷ 0x6E ∷ 0x65 ∷ 0x2C ∷ 0x6C ∷ 0x65 ∷ 0x66 ∷ 0x74 ∷ 0x2C ∷ 0x6D ∷ 0x69 ∷ 0x64 ∷ 0x64 ∷ 0x6C ∷ 0x65 ∷ 0x2C
    ∷ 0x72 ∷ 0x69 ∷ 0x67 ∷ 0x68 ∷ 0x74 ∷ 0x2C ∷ 0x78 ∷ 0x2C ∷ 0x79 ∷ 0x2C ∷ 0x63 ∷ 0x6F ∷ 0x75 ∷ 0x6E ∷ 0x74 ∷ newline ∷ []

-- a salvage's first row
abbrev pub salvage_row : Bool → List ℕ
salvage_row salvage = cond salvage (0x73 ∷ 0x61 ∷ 0x6C ∷ 0x76 ∷ 0x61 ∷ 0x67 ∷ 0x65 ∷ commas 7 ++ newline ∷ []) []

-- the end, or a fault and its line
abbrev pub last_row : ℕ → List ℕ
last_row fault =
    cond (eqb fault 0) (0x65 ∷ 0x6E ∷ 0x64 ∷ commas 7 ++ newline ∷ [])
    (0x66 ∷ 0x61 ∷ 0x75 ∷ 0x6C ∷ 0x74 ∷ cell_of (pos fault) ++ commas 6 ++ newline ∷ [])

-- THE TABLE OF A LISTING, whole
abbrev pub table_of : List ℕ → List ℕ
table_of bytes = let k = reading_of bytes in head_row ++ salvage_row k.salvage ++ rows_of k.items ++ last_row k.fault

-- what is told of a fault: "mtable: a fault at line ", and its line
abbrev pub of_fault : List ℕ
of_fault = 109 ∷ 116 ∷ 97 ∷ 98 ∷ 108 ∷ 101 ∷ 58 ∷ 32 ∷ 97 ∷ 32 ∷ 102 ∷ 97 ∷ 117 ∷ 108 ∷ 116 ∷ 32 ∷ 97 ∷ 116 ∷ 32 ∷ 108 ∷ 105 ∷ 110 ∷ 101 ∷ 32 ∷ []

abbrev pub fault_words : ℕ → List ℕ
fault_words fault = cond (eqb fault 0) [] (of_fault ++ (decimal_of plain (pos fault) ++ newline ∷ []))

abbrev pub told_of : List ℕ → List ℕ
told_of bytes = fault_words (reading_of bytes).fault
