-- What a listing shows of a recording: its reports, and how it ends.
use Rattle.std.specs.Prelude.{List, [], ◌∷◌}
use Rattle.listing.specs.declared.Item.{Item}
use Rattle.listing.specs.declared.Item.TheVariants as item

-- the `R` lines of a listing, their line numbers left out
abbrev pub reports_in : List Item → List Item
reports_in [] = []
reports_in (item.D n k ∷ items) = reports_in items
reports_in (item.R n b x y ∷ items) = item.R 0 b x y ∷ reports_in items
reports_in (item.H k ∷ items) = reports_in items
reports_in (item.E n ∷ items) = reports_in items
reports_in (item.Over ∷ items) = reports_in items

-- its `H` and `E` lines
abbrev pub ends_in : List Item → List Item
ends_in [] = []
ends_in (item.D n k ∷ items) = ends_in items
ends_in (item.R n b x y ∷ items) = ends_in items
ends_in (item.H k ∷ items) = item.H k ∷ ends_in items
ends_in (item.E n ∷ items) = item.E n ∷ ends_in items
ends_in (item.Over ∷ items) = item.Over ∷ ends_in items
