-- The lines of an input, and what each says.
use Rattle.std.specs.Prelude.{ℕ, ◌+◌, ◌<◌, ◌≡◌, cond, ◌&&◌, List, [], ◌∷◌, leb, eqb, pos, negsuc, get_or, take, Option, Some, None, ℤ}
use Rattle.frames.specs.Words.{break, silence}
use Rattle.wire.specs.Line.{known}
use Rattle.text.specs.Decimals.{plain, number_in}
use Rattle.text.specs.Lengths.{length_to}
use Rattle.listing.specs.declared.Line.{Line}
use Rattle.listing.specs.declared.Line.TheVariants as line
use Rattle.listing.specs.declared.Told.{Told}

abbrev pub newline : ℕ
newline = 0x0A

abbrev pub tab : ℕ
tab = 0x09

-- a byte in front of the first line
abbrev pub front : ℕ → List (List ℕ) → List (List ℕ)
front c [] = (c ∷ []) ∷ []
front c (l ∷ ls) = (c ∷ l) ∷ ls

-- the lines of an input: "the last line may lack its newline"
unfoldable pub lines_in : List ℕ → List (List ℕ)
lines_in [] = []
lines_in (c ∷ cs) = cond (eqb c newline) ([] ∷ lines_in cs) (front c (lines_in cs))

-- the bytes in front of the first newline
abbrev pub length_in : List ℕ → ℕ
length_in = length_to newline

-- "`B` decimal byte"; "Decimals have no leading zeros"
abbrev pub byte_of : Option ℤ → Line
byte_of None = line.Bad
byte_of (Some (pos n)) = cond (leb n 255) (line.Word n) line.Bad
byte_of (Some (negsuc n)) = line.Bad

abbrev pub byte_in : List ℕ → Line
byte_in ds = byte_of (number_in plain ds)

-- "`X` (256), `Q` (257)"
unfoldable pub mark_in : ℕ → Line
mark_in a = cond (eqb a 0x58) (line.Word break) (cond (eqb a 0x51) (line.Word silence) line.Bad)

-- "`F` letter": a letter of the table, and no more
unfoldable pub format_in : ℕ → List ℕ → Line
format_in c [] = cond (known c) (line.Format c) line.Bad
format_in c (d ∷ ds) = line.Bad

-- what a line says, with a "tab between fields"; "a blank line is bad"
unfoldable pub said_by : List ℕ → Line
said_by [] = line.Bad
said_by (a ∷ []) = mark_in a
said_by (a ∷ b ∷ []) = line.Bad
said_by (a ∷ b ∷ c ∷ cs) =
    cond (eqb a 0x46 && eqb b tab) (format_in c cs) (cond (eqb a 0x42 && eqb b tab) (byte_in (c ∷ cs)) line.Bad)

-- a line of a word lies whole at the front of six bytes: so many with its newline, and the word
abbrev pub Tells : List ℕ → Told → Type 0
Tells six t = (t.taken ≡ 0 → ⊥) → (t.taken ≡ length_in six + 1) × (length_in six < 6) × (said_by (take (length_in six) six) ≡ line.Word t.word)

-- six bytes from a place on
abbrev pub six_at : List ℕ → ℕ → List ℕ
six_at input at = get_or input at 0 ∷ get_or input (at + 1) 0 ∷ get_or input (at + 2) 0 ∷ get_or input (at + 3) 0 ∷ get_or input (at + 4) 0 ∷ get_or input (at + 5) 0 ∷ []
