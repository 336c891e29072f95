-- What the whole of a listing says: the items of its lines up to the first faulty one, and that line.
use Rattle.std.specs.Prelude.{ℕ, ◌+◌, ◌<◌, ◌≡◌, Bool, cond, List, [], ◌∷◌, ◌++◌, eqb}
use Rattle.wire.specs.Numbers.{success}
use Rattle.listing.specs.Items.{items_in}
use Rattle.listing.specs.Printing.{line_of, opening_of, all_bytes}
use Rattle.listing.specs.declared.Item.{Item}
use Rattle.listing.specs.declared.Item.TheVariants as item
use Rattle.readback.specs.Items.{Proper}
use Rattle.readback.specs.Steps.{fresh, has_ended, of_salvage}
use Rattle.readback.specs.Pieces.{cut_in, reads}
use Rattle.readback.specs.declared.Readback.{Readback}

-- whether it is a salvage's; items, and the place of a faulty line among the lines, counted from 1, or 0
pub record Reading : Type 0 where
  pub salvage : Bool
  pub items : List Item
  pub fault : ℕ

abbrev pub reading : Bool → List Item → ℕ → Reading
reading salvage items fault = record { salvage = salvage; items = items; fault = fault }

-- "an end before either" is told at the line that is missing; "Items before a faulty line are handed out"
unfoldable pub reading_from : Readback → List (List ℕ) → Reading
reading_from r [] = reading (of_salvage r) [] (cond (has_ended r) 0 (r.lines + 1))
reading_from r (l ∷ ls) =
    let later = reading_from (reads.next r l) ls in
    cond (eqb (reads.refusal r l) success) (reading later.salvage (items_in (reads.answer r l) ++ later.items) later.fault)
    (reading (of_salvage r) [] (r.lines + 1))

unfoldable pub reading_of : List ℕ → Reading
reading_of bytes = reading_from fresh (cut_in bytes)

-- items printed at a width, behind the line that is always printed first
unfoldable pub printed : Bool → ℕ → List Item → List ℕ
printed salvage w items = line_of w (opening_of salvage w) ++ all_bytes w items

-- the items of a listing of a width, behind a line number: each in its bounds, their line numbers going up, and the last one, and no other, an `H` or an `E`
abbrev pub Listed : ℕ → ℕ → List Item → Type 0
Listed w last [] = ⊥
Listed w last (item.R n b x y ∷ is) = Proper w (item.R n b x y) × (last < n) × Listed w n is
Listed w last (item.D n k ∷ is) = Proper w (item.D n k) × (last < n) × Listed w n is
Listed w last (item.H k ∷ is) = Proper w (item.H k) × (is ≡ [])
Listed w last (item.E n ∷ is) = Proper w (item.E n) × (last < n) × (is ≡ [])
Listed w last (item.Over ∷ is) = is ≡ []
