-- A listing at the other width: what is written of the whole of it.
use Rattle.std.specs.Prelude.{ℕ, ◌≡◌, true, false, cond, List, [], ◌∷◌, ◌++◌, eqb}
use Rattle.wire.specs.Numbers.{success}
use Rattle.listing.specs.declared.Item.{Item}
use Rattle.readback.specs.Steps.{fresh}
use Rattle.readback.specs.Pieces.{cut_in, reads}
use Rattle.readback.specs.Rewriting.{fits_at, given_fits, width_behind, rewrites}
use Rattle.readback.specs.declared.Readback.{Readback}

-- its lines at the other width, up to the first that is faulty or whose number does not fit: "what stood before it is written"
unfoldable pub other_from : Readback → List (List ℕ) → List ℕ
other_from r [] = []
other_from r (l ∷ ls) = cond (eqb (rewrites.refusal r l) 0) (rewrites.answer r l ++ other_from (rewrites.next r l) ls) []

abbrev pub other_of : List ℕ → List ℕ
other_of bytes = other_from fresh (cut_in bytes)

-- the line numbers of items fit a width
abbrev pub Fits : ℕ → List Item → Type 0
Fits w [] = Unit {0}
Fits w (i ∷ is) = (fits_at w i ≡ true) × Fits w is

-- a line that is read without a fault, and whose number does not fit the other width
abbrev pub TooWide : Readback → List ℕ → Type 0
TooWide r l = (reads.refusal r l ≡ success) × (given_fits (width_behind r l) (reads.answer r l) ≡ false)
