-- The listing of small inputs, computed. In the comments a blank stands for a tab and / for a newline.
use Rattle.std.specs.Prelude.{◌≡◌, refl, List, [], ◌∷◌, map, ℕ}
use Rattle.numbers.specs.Bits.{number, bit, bits}
use Rattle.numbers.specs.Signed.{untwos, signed}
use Rattle.wire.specs.Line.{named_by, size_by, marked_by, known}
use Rattle.wire.specs.Places.{like, fits_first, fits_later, fits_at, fits_by}
use Rattle.wire.specs.Reading.{report_by, read_v, read_u}
use Rattle.text.specs.Decimals.{digits_of, size_in, places_of, decimal_of, readable, plus_in, number_in}
use Rattle.reader.specs.Good.{placed, good}
use Rattle.reader.specs.Rules.{entered, dropping, keep, start, stray, lose, byte_of, break_of, silence_of, word_of}
use Rattle.reader.specs.Promises.{fresh_of, step_of}
use Rattle.listing.specs.Lines.{lines_in, mark_in, format_in, said_by}
use Rattle.listing.specs.Scanning.{line_in, found_in}
use Rattle.listing.specs.Items.{gave_of, items_from}
use Rattle.listing.specs.Printing.{line_of}
use Rattle.listing.specs.Listing.{listing_at, listing_of}

-- an input and the whole output
pub record Example : Type 0 where
  pub input : List ℕ
  pub output : List ℕ

-- the paper's example: F V/B 5/B 108/B 5/B 61/Q/
-- L 4/D 0002 1/R 0005 L?- 5 3/H 0/
abbrev pub paper : Example
paper =
    record {
      input = 70 ∷ 9 ∷ 86 ∷ 10 ∷ 66 ∷ 9 ∷ 53 ∷ 10 ∷ 66 ∷ 9 ∷ 49 ∷ 48 ∷ 56 ∷ 10 ∷ 66 ∷ 9 ∷ 53 ∷ 10 ∷ 66 ∷ 9 ∷ 54 ∷ 49 ∷ 10 ∷ 81 ∷ 10 ∷ [];
      output = 76 ∷ 9 ∷ 52 ∷ 10 ∷ 68 ∷ 9 ∷ 48 ∷ 48 ∷ 48 ∷ 50 ∷ 9 ∷ 49 ∷ 10 ∷ 82 ∷ 9 ∷ 48 ∷ 48 ∷ 48 ∷ 53 ∷ 9 ∷ 76 ∷ 63 ∷ 45 ∷ 9 ∷ 53 ∷ 9 ∷ 51 ∷ 10 ∷ 72 ∷
          9 ∷ 48 ∷ 10 ∷ [];
    }

-- no line at all
-- L 4/E 0001/
abbrev empty : Example
empty =
    record {
      input = [];
      output = 76 ∷ 9 ∷ 52 ∷ 10 ∷ 69 ∷ 9 ∷ 48 ∷ 48 ∷ 48 ∷ 49 ∷ 10 ∷ [];
    }

-- a missing first line: B 5/
-- L 4/E 0001/
abbrev no_format_lem : Example
no_format_lem =
    record {
      input = 66 ∷ 9 ∷ 53 ∷ 10 ∷ [];
      output = 76 ∷ 9 ∷ 52 ∷ 10 ∷ 69 ∷ 9 ∷ 48 ∷ 48 ∷ 48 ∷ 49 ∷ 10 ∷ [];
    }

-- a format and no more, without its newline: F V
-- L 4/H 0/
abbrev format_only : Example
format_only =
    record {
      input = 70 ∷ 9 ∷ 86 ∷ [];
      output = 76 ∷ 9 ∷ 52 ∷ 10 ∷ 72 ∷ 9 ∷ 48 ∷ 10 ∷ [];
    }

-- a format again: F V/F V/
-- L 4/E 0002/
abbrev second_format : Example
second_format =
    record {
      input = 70 ∷ 9 ∷ 86 ∷ 10 ∷ 70 ∷ 9 ∷ 86 ∷ 10 ∷ [];
      output = 76 ∷ 9 ∷ 52 ∷ 10 ∷ 69 ∷ 9 ∷ 48 ∷ 48 ∷ 48 ∷ 50 ∷ 10 ∷ [];
    }

-- a blank line: F V//
-- L 4/E 0002/
abbrev blank : Example
blank =
    record {
      input = 70 ∷ 9 ∷ 86 ∷ 10 ∷ 10 ∷ [];
      output = 76 ∷ 9 ∷ 52 ∷ 10 ∷ 69 ∷ 9 ∷ 48 ∷ 48 ∷ 48 ∷ 50 ∷ 10 ∷ [];
    }

-- 255 is a byte and 256 is none: F S/B 255/B 256
-- L 4/D 0002 1/E 0003/
abbrev too_big : Example
too_big =
    record {
      input = 70 ∷ 9 ∷ 83 ∷ 10 ∷ 66 ∷ 9 ∷ 50 ∷ 53 ∷ 53 ∷ 10 ∷ 66 ∷ 9 ∷ 50 ∷ 53 ∷ 54 ∷ [];
      output = 76 ∷ 9 ∷ 52 ∷ 10 ∷ 68 ∷ 9 ∷ 48 ∷ 48 ∷ 48 ∷ 50 ∷ 9 ∷ 49 ∷ 10 ∷ 69 ∷ 9 ∷ 48 ∷ 48 ∷ 48 ∷ 51 ∷ 10 ∷ [];
    }

-- nor is 05: F S/B 05
-- L 4/E 0002/
abbrev leading_zero : Example
leading_zero =
    record {
      input = 70 ∷ 9 ∷ 83 ∷ 10 ∷ 66 ∷ 9 ∷ 48 ∷ 53 ∷ [];
      output = 76 ∷ 9 ∷ 52 ∷ 10 ∷ 69 ∷ 9 ∷ 48 ∷ 48 ∷ 48 ∷ 50 ∷ 10 ∷ [];
    }

-- nor nothing: F S/B
-- L 4/E 0002/
abbrev no_digits : Example
no_digits =
    record {
      input = 70 ∷ 9 ∷ 83 ∷ 10 ∷ 66 ∷ 9 ∷ [];
      output = 76 ∷ 9 ∷ 52 ∷ 10 ∷ 69 ∷ 9 ∷ 48 ∷ 48 ∷ 48 ∷ 50 ∷ 10 ∷ [];
    }

-- both pairs of U: F U/Q/B 128/B 128/B 1/B 255/B 2/X/
-- L 4/R 0007 LMR -129 3/H 0/
abbrev summed : Example
summed =
    record {
      input = 70 ∷ 9 ∷ 85 ∷ 10 ∷ 81 ∷ 10 ∷ 66 ∷ 9 ∷ 49 ∷ 50 ∷ 56 ∷ 10 ∷ 66 ∷ 9 ∷ 49 ∷ 50 ∷ 56 ∷ 10 ∷ 66 ∷ 9 ∷ 49 ∷ 10 ∷ 66 ∷ 9 ∷ 50 ∷ 53 ∷ 53 ∷ 10 ∷
          66 ∷ 9 ∷ 50 ∷ 10 ∷ 88 ∷ 10 ∷ [];
      output = 76 ∷ 9 ∷ 52 ∷ 10 ∷ 82 ∷ 9 ∷ 48 ∷ 48 ∷ 48 ∷ 55 ∷ 9 ∷ 76 ∷ 77 ∷ 82 ∷ 9 ∷ 45 ∷ 49 ∷ 50 ∷ 57 ∷ 9 ∷ 51 ∷ 10 ∷ 72 ∷ 9 ∷ 48 ∷ 10 ∷ [];
    }

-- bytes kept at the end: F S/B 148/B 5
-- L 4/H 2/
abbrev kept : Example
kept =
    record {
      input = 70 ∷ 9 ∷ 83 ∷ 10 ∷ 66 ∷ 9 ∷ 49 ∷ 52 ∷ 56 ∷ 10 ∷ 66 ∷ 9 ∷ 53 ∷ [];
      output = 76 ∷ 9 ∷ 52 ∷ 10 ∷ 72 ∷ 9 ∷ 50 ∷ 10 ∷ [];
    }

-- and dropped by a break: F S/B 148/B 5/X
-- L 4/D 0004 2/H 0/
abbrev dropped : Example
dropped =
    record {
      input = 70 ∷ 9 ∷ 83 ∷ 10 ∷ 66 ∷ 9 ∷ 49 ∷ 52 ∷ 56 ∷ 10 ∷ 66 ∷ 9 ∷ 53 ∷ 10 ∷ 88 ∷ [];
      output = 76 ∷ 9 ∷ 52 ∷ 10 ∷ 68 ∷ 9 ∷ 48 ∷ 48 ∷ 48 ∷ 52 ∷ 9 ∷ 50 ∷ 10 ∷ 72 ∷ 9 ∷ 48 ∷ 10 ∷ [];
    }

abbrev examples : List Example
examples =
    paper ∷ empty ∷ no_format_lem ∷ format_only ∷ second_format ∷ blank
    ∷ too_big ∷ leading_zero ∷ no_digits ∷ summed ∷ kept ∷ dropped ∷ []

-- what they compute with
unfoldable computing : Unit {0}
unfolding lines_in mark_in format_in said_by line_in found_in gave_of items_from line_of digits_of size_in places_of decimal_of
    readable plus_in number_in fresh_of step_of word_of byte_of keep start stray lose break_of silence_of dropping entered good
    known placed named_by size_by marked_by fits_by fits_at fits_first fits_later like report_by read_v read_u bit bits number untwos signed
computing = tt

-- at the width of these
pub computed : map (λ e. listing_at 4 e.input) examples ≡ map (λ e. e.output) examples
unfolding computing
computed = refl

-- and two of them at the width of new listings: L 6/D 000002 1/R 000005 L?- 5 3/H 0/, and L 6/E 000001/
pub at_six : map listing_of (paper.input ∷ empty.input ∷ []) ≡
    (76 ∷ 9 ∷ 54 ∷ 10 ∷ 68 ∷ 9 ∷ 48 ∷ 48 ∷ 48 ∷ 48 ∷ 48 ∷ 50 ∷ 9 ∷ 49 ∷ 10 ∷ 82 ∷ 9 ∷ 48 ∷ 48 ∷ 48 ∷ 48 ∷ 48 ∷ 53 ∷ 9 ∷ 76 ∷ 63 ∷ 45 ∷ 9 ∷ 53 ∷ 9 ∷ 51 ∷
    10 ∷ 72 ∷ 9 ∷ 48 ∷ 10 ∷ [])
    ∷ (76 ∷ 9 ∷ 54 ∷ 10 ∷ 69 ∷ 9 ∷ 48 ∷ 48 ∷ 48 ∷ 48 ∷ 48 ∷ 49 ∷ 10 ∷ []) ∷ []
unfolding listing_of computing
at_six = refl
