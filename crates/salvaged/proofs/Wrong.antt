-- Wrong answers that the promise does not permit. In the comments a blank stands for a tab and / for a newline.
use Prim.Native.Nat.{ℕ}
use mathlib.Core.Path.{ap}
use mathlib.Core.Bool.{Bool, true, true≢false}
use mathlib.Core.List.{List, [], ◌∷◌, ◌++◌}
use native.Mathlib.Omega.{arith}
use lib.ListN.{get_or, replicate}
use Rattle.text.specs.Decimals.{digits_of, size_in, places_of, decimal_of, readable, plus_in, number_in}
use Rattle.wire.specs.Line.{named_by, size_by, marked_by, known}
use Rattle.choosing.specs.Choice.{all_bytes}
use Rattle.choosing.specs.Earliest.{starts}
use Rattle.choosing.specs.Pieces.{pieces_from}
use Rattle.salvage.specs.Picking.{valid_by}
use Rattle.listing.specs.Lines.{lines_in, mark_in, format_in, said_by}
use Rattle.listing.specs.Scanning.{line_in, found_in}
use Rattle.listing.specs.Printing.{line_of}
use Rattle.salvaged.specs.Log.{marked, word_heard, heard, heard_all}
use Rattle.salvaged.specs.Items.{item_of}
use Rattle.salvaged.specs.Writing.{add, add_all}
use Rattle.salvaged.specs.Promises.{Whole, list_of, ListPromise}
use Rattle.salvaged.specs.declared.Salvaged.{Salvaged}

-- what the salvage of a small log computes with
unfoldable computing : Unit {0}
unfolding list_of lines_in said_by mark_in format_in found_in line_in heard_all heard word_heard marked item_of pieces_from starts all_bytes valid_by named_by size_by marked_by known add_all add line_of decimal_of digits_of places_of size_in readable plus_in number_in
computing = tt

abbrev gives : ℕ → Bool → Salvaged
gives written whole = record { written = written; whole = whole }

-- the first line: S 6/; and L 6/, as a listing has it
abbrev first : ℕ → List ℕ
first letter = letter ∷ 9 ∷ 54 ∷ 10 ∷ []

-- F U/ is a log of no words: S 6/H 0/
abbrev wordless : List ℕ
wordless = 70 ∷ 9 ∷ 85 ∷ 10 ∷ []

abbrev end : List ℕ
end = 72 ∷ 9 ∷ 48 ∷ 10 ∷ []

-- a salvage that is not marked as one: L 6/H 0/
pub not_marked : ListPromise wordless (replicate 8 0) (gives 8 true) (first 76 ++ end) → ⊥
unfolding computing
not_marked e = omega (arith, ap (λ (w : Whole). get_or w.out 0 0) e)

-- its last line left out, though there is room; and told as there, though there is none
pub end_left_out : ListPromise wordless (replicate 8 0) (gives 4 true) (first 83 ++ replicate 4 0) → ⊥
unfolding computing
end_left_out e = omega (arith, ap (λ (w : Whole). w.salvaged.written) e)

pub told_as_whole : ListPromise wordless (replicate 4 0) (gives 4 true) (first 83) → ⊥
unfolding computing
told_as_whole e = true≢false (ap (λ (w : Whole). w.salvaged.whole) e)

-- written, and told as nothing; and a byte behind the text that is another
pub written_untold : ListPromise wordless (replicate 8 0) (gives 0 true) (first 83 ++ end) → ⊥
unfolding computing
written_untold e = omega (arith, ap (λ (w : Whole). w.salvaged.written) e)

pub writes_behind : ListPromise wordless (replicate 9 0) (gives 8 true) (first 83 ++ end ++ 10 ∷ []) → ⊥
unfolding computing
writes_behind e = omega (arith, ap (λ (w : Whole). get_or w.out 8 0) e)

-- F U/B 5/: its byte left out at line 3, and not at line 2: D 000003 1/
abbrev dropped : ℕ → List ℕ
dropped digit = 68 ∷ 9 ∷ 48 ∷ 48 ∷ 48 ∷ 48 ∷ 48 ∷ digit ∷ 9 ∷ 49 ∷ 10 ∷ []

pub dropped_line_off_by_one : ListPromise (wordless ++ 66 ∷ 9 ∷ 53 ∷ 10 ∷ []) (replicate 19 0) (gives 19 true) (first 83 ++ dropped 51 ++ end) → ⊥
unfolding computing
dropped_line_off_by_one e = omega (arith, ap (λ (w : Whole). get_or w.out 11 0) e)

-- and not told at all: S 6/H 0/
pub dropped_untold : ListPromise (wordless ++ 66 ∷ 9 ∷ 53 ∷ 10 ∷ []) (replicate 19 0) (gives 8 true) (first 83 ++ end ++ replicate 11 0) → ⊥
unfolding computing
dropped_untold e = omega (arith, ap (λ (w : Whole). get_or w.out 4 0) e)

-- F V/, a marked format, taken for a log: S 6/H 0/, where E 000001/ is to stand
pub marked_taken : ListPromise (70 ∷ 9 ∷ 86 ∷ 10 ∷ []) (replicate 13 0) (gives 8 true) (first 83 ++ end ++ replicate 5 0) → ⊥
unfolding computing
marked_taken e = omega (arith, ap (λ (w : Whole). get_or w.out 4 0) e)
