-- The lines of a recording as they are written: "It writes a recording that `mlist` takes: `F` and the letter, then `B`, `X`, `Q`."
use Rattle.std.specs.Prelude.{ℕ, cond, List, [], ◌∷◌, ◌++◌, eqb, pos, Option, None, Some}
use Rattle.frames.specs.Words.{break, silence}
use Rattle.text.specs.Decimals.{plain, decimal_of}
use Rattle.listing.specs.Lines.{newline, tab}
use Rattle.listing.specs.Printing.{over}
use Rattle.driver.specs.declared.Record.{Record}
use Rattle.driver.specs.declared.Record.TheVariants.{Format, Word, Bad, Over}

-- what is recorded of a line, in a list
abbrev pub records_in : Option Record → List Record
records_in None = []
records_in (Some r) = r ∷ []

-- "`B` decimal byte, `X` (256), `Q` (257)"
unfoldable pub word_bytes : ℕ → List ℕ
word_bytes w = cond (eqb w break) (0x58 ∷ []) (cond (eqb w silence) (0x51 ∷ []) (0x42 ∷ tab ∷ decimal_of plain (pos w)))

-- "A line that is bad, or an event that the box refuses, ends it with `E` and the line's number"
abbrev pub record_bytes : Record → List ℕ
record_bytes (Format f) = 0x46 ∷ tab ∷ f ∷ []
record_bytes (Word w) = word_bytes w
record_bytes (Bad n) = 0x45 ∷ tab ∷ decimal_of plain (pos n)
record_bytes Over = 0x45 ∷ tab ∷ over

-- a line, and one after the other
unfoldable pub record_line : Record → List ℕ
record_line r = record_bytes r ++ newline ∷ []

abbrev pub all_lines : List Record → List ℕ
all_lines [] = []
all_lines (r ∷ rs) = record_line r ++ all_lines rs
