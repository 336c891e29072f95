-- What small listings say, computed. In the comments a blank stands for a tab and / for a newline.
use Rattle.std.specs.Prelude.{◌≡◌, refl, [], ◌∷◌, true, false, pos, negsuc, take, replicate}
use Rattle.fold.specs.Fold.{run}
use Rattle.text.specs.Decimals.{digits_of, decimal_of, size_in, places_of, readable, plus_in, number_in}
use Rattle.listing.specs.Printing.{line_of}
use Rattle.listing.specs.Examples as listing
use Rattle.listing.specs.declared.Middle.TheVariants.{Up, Down, Unknown}
use Rattle.listing.specs.declared.Item.TheVariants as item
use Rattle.readback.specs.Fields.{value_in, field_in, fields_in}
use Rattle.readback.specs.Items.{dropped_in, report_in, kept_in, bad_in, item_in, width_in, salvage_in}
use Rattle.readback.specs.Steps.{readback, fresh, step_of, good}
use Rattle.readback.specs.Pieces.{cut_in, lines_of, pieces_of, call_of}
use Rattle.readback.specs.Promises.{rewrite_of}
use Rattle.readback.specs.Whole.{reading, reading_from, reading_of}

unfoldable pub computing : Unit {0}
unfolding reading_of reading_from cut_in step_of width_in salvage_in item_in dropped_in report_in kept_in bad_in fields_in field_in
    value_in number_in plus_in readable places_of size_in
computing = tt

-- the paper's: L 4/D 0002 1/R 0005 L?- 5 3/H 0/
paper : reading_of (listing.paper).output
    ≡ reading false (item.D 2 1 ∷ item.R 5 (record { left = true; middle = Unknown; right = false }) (pos 5) (pos 3) ∷ item.H 0 ∷ []) 0
unfolding computing
paper = refl

-- an empty input lacks its first line
empty : reading_of [] ≡ reading false [] 1
unfolding computing
empty = refl

-- L 4/ lacks its `H`
no_end : reading_of (76 ∷ 9 ∷ 52 ∷ 10 ∷ []) ≡ reading false [] 2
unfolding computing
no_end = refl

-- a salvage's: S 6/R 000006 LMR 6 3/D 000009 3/H 0/
salvage : reading_of (83 ∷ 9 ∷ 54 ∷ 10 ∷ 82 ∷ 9 ∷ 48 ∷ 48 ∷ 48 ∷ 48 ∷ 48 ∷ 54 ∷ 9 ∷ 76 ∷ 77 ∷ 82 ∷ 9 ∷ 54 ∷ 9 ∷ 51 ∷ 10 ∷ 68 ∷ 9 ∷ 48 ∷ 48 ∷ 48 ∷ 48 ∷
    48 ∷ 57 ∷ 9 ∷ 51 ∷ 10 ∷ 72 ∷ 9 ∷ 48 ∷ 10 ∷ [])
    ≡ reading true (item.R 6 (record { left = true; middle = Down; right = true }) (pos 6) (pos 3) ∷ item.D 9 3 ∷ item.H 0 ∷ []) 0
unfolding computing
salvage = refl

-- S 4/ and S 5/: what is told of a salvage whose `H` is missing, and of no such width
salvage_no_end : reading_of (83 ∷ 9 ∷ 52 ∷ 10 ∷ []) ≡ reading true [] 2
unfolding computing
salvage_no_end = refl

salvage_wrong_width : reading_of (83 ∷ 9 ∷ 53 ∷ 10 ∷ []) ≡ reading false [] 1
unfolding computing
salvage_wrong_width = refl

-- L 5/: no such width
wrong_width : reading_of (76 ∷ 9 ∷ 53 ∷ 10 ∷ []) ≡ reading false [] 1
unfolding computing
wrong_width = refl

-- L 4/D 0002 0/: no bytes dropped
none_dropped : reading_of (76 ∷ 9 ∷ 52 ∷ 10 ∷ 68 ∷ 9 ∷ 48 ∷ 48 ∷ 48 ∷ 50 ∷ 9 ∷ 48 ∷ 10 ∷ []) ≡ reading false [] 2
unfolding computing
none_dropped = refl

-- L 4/D 0002 1/D 0002 1/: a line number again
again : reading_of (76 ∷ 9 ∷ 52 ∷ 10 ∷ 68 ∷ 9 ∷ 48 ∷ 48 ∷ 48 ∷ 50 ∷ 9 ∷ 49 ∷ 10 ∷ 68 ∷ 9 ∷ 48 ∷ 48 ∷ 48 ∷ 50 ∷ 9 ∷ 49 ∷ 10 ∷ [])
    ≡ reading false (item.D 2 1 ∷ []) 3
unfolding computing
again = refl

-- L 4/D 0000 1/: no line has the number 0
line_zero : reading_of (76 ∷ 9 ∷ 52 ∷ 10 ∷ 68 ∷ 9 ∷ 48 ∷ 48 ∷ 48 ∷ 48 ∷ 9 ∷ 49 ∷ 10 ∷ []) ≡ reading false [] 2
unfolding computing
line_zero = refl

-- L 4//: a blank line
blank : reading_of (76 ∷ 9 ∷ 52 ∷ 10 ∷ 10 ∷ []) ≡ reading false [] 2
unfolding computing
blank = refl

-- L 4/H -0/: there is no minus 0
minus_zero : reading_of (76 ∷ 9 ∷ 52 ∷ 10 ∷ 72 ∷ 9 ∷ 45 ∷ 48 ∷ 10 ∷ []) ≡ reading false [] 2
unfolding computing
minus_zero = refl

-- L 4/R 0001 --- -32768 32767/R 0002 --- 32768 0/: more than 16 bits
too_big : reading_of (76 ∷ 9 ∷ 52 ∷ 10 ∷ 82 ∷ 9 ∷ 48 ∷ 48 ∷ 48 ∷ 49 ∷ 9 ∷ 45 ∷ 45 ∷ 45 ∷ 9 ∷ 45 ∷ 51 ∷ 50 ∷ 55 ∷ 54 ∷ 56 ∷ 9 ∷ 51 ∷ 50 ∷ 55 ∷ 54 ∷ 55 ∷ 10
    ∷ 82 ∷ 9 ∷ 48 ∷ 48 ∷ 48 ∷ 50 ∷ 9 ∷ 45 ∷ 45 ∷ 45 ∷ 9 ∷ 51 ∷ 50 ∷ 55 ∷ 54 ∷ 56 ∷ 9 ∷ 48 ∷ 10 ∷ [])
    ≡ reading false (item.R 1 (record { left = false; middle = Up; right = false }) (negsuc 32767) (pos 32767) ∷ []) 3
unfolding computing
too_big = refl

-- L 4/E over/H 0/: a line after `E`
surplus : reading_of (76 ∷ 9 ∷ 52 ∷ 10 ∷ 69 ∷ 9 ∷ 111 ∷ 118 ∷ 101 ∷ 114 ∷ 10 ∷ 72 ∷ 9 ∷ 48 ∷ 10 ∷ []) ≡ reading false (item.Over ∷ []) 3
unfolding computing
surplus = refl

-- L 4/H 0 without its newline
no_newline : reading_of (76 ∷ 9 ∷ 52 ∷ 10 ∷ 72 ∷ 9 ∷ 48 ∷ []) ≡ reading false [] 2
unfolding computing
no_newline = refl

-- L 6/D 00002 1/: five digits
five_digits : reading_of (76 ∷ 9 ∷ 54 ∷ 10 ∷ 68 ∷ 9 ∷ 48 ∷ 48 ∷ 48 ∷ 48 ∷ 50 ∷ 9 ∷ 49 ∷ 10 ∷ []) ≡ reading false [] 2
unfolding computing
five_digits = refl

-- what small listings are rewritten to, with sixty places
unfoldable pub rewriting_computes : Unit {0}
unfolding computing call_of pieces_of run lines_of good line_of decimal_of digits_of
rewriting_computes = tt

-- L 4/D 0002 1/H 0/ to L 6/D 000002 1/H 0/
wider : take 19 (rewrite_of fresh (76 ∷ 9 ∷ 52 ∷ 10 ∷ 68 ∷ 9 ∷ 48 ∷ 48 ∷ 48 ∷ 50 ∷ 9 ∷ 49 ∷ 10 ∷ 72 ∷ 9 ∷ 48 ∷ 10 ∷ []) (replicate 60 0)).out
    ≡ 76 ∷ 9 ∷ 54 ∷ 10 ∷ 68 ∷ 9 ∷ 48 ∷ 48 ∷ 48 ∷ 48 ∷ 48 ∷ 50 ∷ 9 ∷ 49 ∷ 10 ∷ 72 ∷ 9 ∷ 48 ∷ 10 ∷ []
unfolding rewriting_computes
wider = refl

-- S 6/H 0/ to S 4/H 0/: the letter stays
salvage_narrower : take 8 (rewrite_of fresh (83 ∷ 9 ∷ 54 ∷ 10 ∷ 72 ∷ 9 ∷ 48 ∷ 10 ∷ []) (replicate 60 0)).out ≡ 83 ∷ 9 ∷ 52 ∷ 10 ∷ 72 ∷ 9 ∷ 48 ∷ 10 ∷ []
unfolding rewriting_computes
salvage_narrower = refl

-- L 6/D 010000 1/ to L 4/, and 15 at line 2
too_wide : let w = rewrite_of fresh (76 ∷ 9 ∷ 54 ∷ 10 ∷ 68 ∷ 9 ∷ 48 ∷ 49 ∷ 48 ∷ 48 ∷ 48 ∷ 48 ∷ 9 ∷ 49 ∷ 10 ∷ []) (replicate 60 0) in
    (w.refusal ∷ w.line ∷ w.count ∷ [] ≡ 15 ∷ 2 ∷ 4 ∷ [])
unfolding rewriting_computes
too_wide = refl

-- L 6/D 010000 0/: it is faulty before it does not fit
seven_first : let w = rewrite_of fresh (76 ∷ 9 ∷ 54 ∷ 10 ∷ 68 ∷ 9 ∷ 48 ∷ 49 ∷ 48 ∷ 48 ∷ 48 ∷ 48 ∷ 9 ∷ 48 ∷ 10 ∷ []) (replicate 60 0) in
    (w.refusal ∷ w.line ∷ w.count ∷ [] ≡ 7 ∷ 2 ∷ 4 ∷ [])
unfolding rewriting_computes
seven_first = refl

-- a reader behind a line of number 9,999 is good at width 4; behind one of 10,000 it is at width 6 alone
last_at_four : (good (readback false 4 9999 2 false) ≡ true) × (good (readback false 4 10000 2 false) ≡ false) × (good (readback false 6 10000 2 false) ≡ true)
unfolding good
last_at_four = (refl, refl, refl)
