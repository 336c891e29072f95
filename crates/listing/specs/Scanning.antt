-- The scanner: the input's lines to numbered words, or a bad line; and the same byte by byte.
use Rattle.std.specs.Prelude.{ℕ, ◌+◌, ◌-◌, ◌*◌, ◌^◌, Bool, true, false, cond, ◌&&◌, List, [], ◌∷◌, take, set, replicate, leb, eqb}
use Rattle.listing.specs.Lines.{newline, lines_in, said_by}
use Rattle.listing.specs.declared.Line.{Line}
use Rattle.listing.specs.declared.Line.TheVariants as line
use Rattle.listing.specs.declared.Found.{Found}
use Rattle.listing.specs.declared.Found.TheVariants.{Nothing, Format, Word, Bad, Over, End}
use Rattle.listing.specs.declared.Scan.{Scan}
use Rattle.listing.specs.declared.Scanner.{Scanner}

-- the most lines at a width of line numbers: "at most 9,999 lines" at 4, and "Raise the limit to 999,999"
abbrev pub most_at : ℕ → ℕ
most_at w = 10 ^ w - 1

-- "New listings begin with width 6 and print six-digit line numbers"
abbrev pub width : ℕ
width = 6

abbrev pub most_lines : ℕ
most_lines = most_at width

-- what is found on the line behind n others: "`F` letter first, then `B` decimal byte, `X` (256), `Q` (257)"
abbrev pub on_line : ℕ → Line → Found
on_line n line.Bad = Bad (n + 1)
on_line n (line.Format f) = cond (eqb n 0) (Format f) (Bad (n + 1))
on_line n (line.Word w) = cond (eqb n 0) (Bad (n + 1)) (Word (n + 1) w)

-- "line 1,000,000 gives `E` and `over`", and at any width the first whose number it has no place for
unfoldable pub line_in : ℕ → ℕ → Line → Found
line_in w n l = cond (leb (most_at w) n) Over (on_line n l)

-- "A bad line gives `E` and its number and ends"
abbrev pub ends : Found → Bool
ends Nothing = false
ends (Format f) = false
ends (Word n w) = false
ends (Bad n) = true
ends Over = true
ends End = true

-- the end behind n lines: "a missing first line gives `E` and `0001`"
abbrev pub end_in : ℕ → Found
end_in n = cond (eqb n 0) (Bad 1) End

-- what is found on the lines behind n others, as far as it goes
unfoldable pub found_in : ℕ → ℕ → List (List ℕ) → List Found
found_in w n [] = end_in n ∷ []
found_in w n (l ∷ ls) = line_in w n (said_by l) ∷ cond (ends (line_in w n (said_by l))) [] (found_in w (n + 1) ls)

-- what is found in an input: its format, numbered words, and how it ends
abbrev pub recording_of : ℕ → List ℕ → List Found
recording_of w input = found_in w 0 (lines_in input)

-- a scanner at the start of a line, behind n others, and what it found
abbrev pub scan : ℕ → Bool → Found → Scan
scan n ended f = record { next = record { line = n; ended = ended; held = replicate 5 0; count = 0 }; found = f }

-- the scanner that was fed nothing yet
abbrev pub unfed : Scanner
unfed = (scan 0 false Nothing).next

-- the bytes of the unfinished line
abbrev pub unfinished : Scanner → List ℕ
unfinished s = take s.count s.held

-- a line has passed, or it was the last
abbrev pub passing : ℕ → Found → Scan
passing n f = scan (cond (ends f) n (n + 1)) (ends f) f

-- a whole line: nothing is found after the end
unfoldable pub taken_of : Scanner → Line → Scan
taken_of s l = cond s.ended (scan s.line true Nothing) (passing s.line (line_in width s.line l))

-- a byte more of the unfinished line
abbrev pub more : Scanner → ℕ → Scan
more s c = record { next = record { line = s.line; ended = s.ended; held = set s.held s.count c; count = s.count + 1 }; found = Nothing }

-- a newline ends the line, and no line has more than five bytes: a sixth that is no newline makes it bad at once
unfoldable pub scanned_byte : Scanner → ℕ → Scan
scanned_byte s c =
    cond (eqb c newline) (taken_of s (said_by (unfinished s)))
    (cond (leb 5 s.count) (taken_of s line.Bad)
    (more s c))

-- "the last line may lack its newline"
unfoldable pub closed_of : Scanner → Scan
closed_of s = cond (eqb s.count 0) (record { next = s; found = Nothing }) (taken_of s (said_by (unfinished s)))

-- the end of the input
unfoldable pub end_of : Scanner → Scan
end_of s = scan s.line true (cond s.ended Nothing (end_in s.line))

-- no line too many, and a line of five bytes at most
unfoldable pub good : Scanner → Bool
good s = leb s.line most_lines && leb s.count 5

-- how far a scanner has come: six bytes for each line passed, and those of the unfinished line
abbrev pub passed : Scanner → ℕ
passed s = 6 * s.line + s.count

-- the bytes after which every scanner has ended
abbrev pub most_bytes : ℕ
most_bytes = 6 * (most_lines + 1)
