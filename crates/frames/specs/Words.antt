-- "A line word is a 16-bit number: 0 to 255 a byte, 256 a break or a byte that arrived damaged, 257 a silence of one character time."
use Rattle.std.specs.Prelude.{ℕ, Bool, true, ◌&&◌, List, [], ◌∷◌, leb}

abbrev pub is_byte : ℕ → Bool
is_byte w = leb w 255

abbrev pub break : ℕ
break = 256

abbrev pub silence : ℕ
silence = 257

-- words of which none is above 257
unfoldable pub line_words : List ℕ → Bool
line_words [] = true
line_words (w ∷ words) = leb w silence && line_words words
