-- What a program that listens says, in ASCII; its name and a colon stand before it.
use Rattle.std.specs.Prelude.{ℕ, List, [], ◌∷◌, ◌++◌}

-- "LETTER is ", "S, V, A, B, U, T or W"
abbrev letter_is : List ℕ
letter_is = 76 ∷ 69 ∷ 84 ∷ 84 ∷ 69 ∷ 82 ∷ 32 ∷ 105 ∷ 115 ∷ 32 ∷ []

abbrev letters : List ℕ
letters = 83 ∷ 44 ∷ 32 ∷ 86 ∷ 44 ∷ 32 ∷ 65 ∷ 44 ∷ 32 ∷ 66 ∷ 44 ∷ 32 ∷ 85 ∷ 44 ∷ 32 ∷ 84 ∷ 32 ∷ 111 ∷ 114 ∷ 32 ∷ 87 ∷ 10 ∷ []

abbrev pub wrong_letter : List ℕ
wrong_letter = letter_is ++ letters

-- "TENTHS is a number ", "from 1 to 255"
abbrev tenths_is : List ℕ
tenths_is = 84 ∷ 69 ∷ 78 ∷ 84 ∷ 72 ∷ 83 ∷ 32 ∷ 105 ∷ 115 ∷ 32 ∷ 97 ∷ 32 ∷ 110 ∷ 117 ∷ 109 ∷ 98 ∷ 101 ∷ 114 ∷ 32 ∷ []

abbrev from1to255 : List ℕ
from1to255 = 102 ∷ 114 ∷ 111 ∷ 109 ∷ 32 ∷ 49 ∷ 32 ∷ 116 ∷ 111 ∷ 32 ∷ 50 ∷ 53 ∷ 53 ∷ 10 ∷ []

abbrev pub wrong_tenths : List ℕ
wrong_tenths = tenths_is ++ from1to255

-- "the line is gone"
abbrev pub line_gone : List ℕ
line_gone = 116 ∷ 104 ∷ 101 ∷ 32 ∷ 108 ∷ 105 ∷ 110 ∷ 101 ∷ 32 ∷ 105 ∷ 115 ∷ 32 ∷ 103 ∷ 111 ∷ 110 ∷ 101 ∷ []
