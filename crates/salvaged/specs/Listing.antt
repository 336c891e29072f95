-- What the salvage of an input is.
use Rattle.std.specs.Prelude.{ℕ, List, [], ◌∷◌, ◌++◌, map}
use Rattle.listing.specs.Scanning.{width}
use Rattle.listing.specs.Printing.{form_of, opening_s, line_of}
use Rattle.listing.specs.declared.Item.{Item}
use Rattle.salvaged.specs.Log.{log_of}
use Rattle.salvaged.specs.Items.{items_of}

-- the line of an item
abbrev pub item_line : Item → List ℕ
item_line i = line_of width (form_of i)

-- the lines of items behind "`S` instead of `L`"
abbrev pub lines_of : List Item → List (List ℕ)
lines_of items = line_of width (opening_s width) ∷ map item_line items

-- one line after the other
unfoldable pub text_of : List (List ℕ) → List ℕ
text_of [] = []
text_of (line ∷ lines) = line ++ text_of lines

-- an input's words, the words' items, and the items' lines
unfoldable pub salvage_of : List ℕ → List ℕ
salvage_of input = text_of (lines_of (items_of (log_of input)))
