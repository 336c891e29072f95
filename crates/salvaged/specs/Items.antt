-- A log, to items of its listing: "It prints the reports and the rest in the listing's `R` and `D` lines, a `D` for each longest run of neighbouring
-- bytes left out, at the line of its last byte."
use Rattle.std.specs.Prelude.{ℕ, ◌+◌, List, [], ◌∷◌, ◌++◌, map, take, drop, Option, None, Some}
use Rattle.wire.specs.Line.{size_by}
use Rattle.wire.specs.Reading.{report_by}
use Rattle.choosing.specs.Pieces as piece
use Rattle.choosing.specs.Pieces.{Piece, pieces}
use Rattle.salvage.specs.Picking.{valid_by}
use Rattle.listing.specs.Items.{report_item}
use Rattle.listing.specs.declared.Item.{Item}
use Rattle.listing.specs.declared.Item.TheVariants as item
use Rattle.salvaged.specs.Log.{Log}

-- the bytes of the run that starts at a place
abbrev pub bytes_at : ℕ → List ℕ → ℕ → List ℕ
bytes_at letter words place = take (size_by letter) (drop place words)

-- a report, at the line of its last byte; and bytes left out, at the line of the last of them. Line 1 is the format's, so the word at a place, counted
-- from 0, stands two lines on.
unfoldable pub item_of : ℕ → List ℕ → Piece → Item
item_of letter words (piece.picked s) = report_item letter (s + size_by letter + 1) (report_by letter (bytes_at letter words s))
item_of letter words (piece.left a n) = item.D (a + n + 1) n

-- what the words fall into, and "ends with `H` and 0"
abbrev pub items_in : ℕ → List ℕ → List Item
items_in letter words = map (item_of letter words) (pieces (size_by letter) (valid_by letter) words) ++ item.H 0 ∷ []

-- or what "stands alone after `S`"
abbrev pub items_beside : Option Item → List Item → List Item
items_beside None items = items
items_beside (Some i) items = i ∷ []

abbrev pub items_of : Log → List Item
items_of l = items_beside l.alone (items_in l.letter l.words)
