-- A whole report at the front of a line: the quick way. It is told word by word, as the rules tell it.
use Rattle.std.specs.Prelude.{ℕ, ◌%◌, Bool, cond, ◌&&◌, List, [], ◌∷◌, get_or, ltb}
use Rattle.numbers.specs.Tests.{each}
use Rattle.frames.specs.Words.{is_byte}
use Rattle.wire.specs.Places.{fits_by}
use Rattle.reader.specs.Rules.{entered}

-- the byte that a word brings, as it enters, and whether the word is a byte that fits a place
abbrev pub brings : ℕ → ℕ → ℕ
brings letter w = entered letter (w % 256)

abbrev pub fits_word : ℕ → ℕ → ℕ → Bool
fits_word letter place w = is_byte w && fits_by letter place (brings letter w)

-- words begin with a whole report: each of the first of them is a byte that fits its place
abbrev pub whole_by : ℕ → ℕ → List ℕ → Bool
whole_by letter size words = each (λ i. fits_word letter i (get_or words i 0)) size

-- the bytes of the report, and 0 in the places behind them
abbrev pub bytes_at : ℕ → ℕ → List ℕ → List ℕ
bytes_at letter size words =
    let byte : ℕ → ℕ = λ i. cond (ltb i size) (brings letter (get_or words i 0)) 0 in
    byte 0 ∷ byte 1 ∷ byte 2 ∷ byte 3 ∷ byte 4 ∷ []
