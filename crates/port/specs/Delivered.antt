-- What a tty with PARMRK, INPCK and neither IGNBRK, BRKINT, IGNPAR nor ISTRIP hands over for what came on the line
-- (Linux, drivers/tty/n_tty.c).
use Rattle.std.specs.Prelude.{ℕ, cond, List, [], ◌∷◌, ◌++◌, eqb}
use Rattle.frames.specs.Words.{break}
use Rattle.port.specs.Marks.{mark, cleared}

-- a byte that came whole, a byte that came damaged, or a break
pub data Came : Type 0 where
  sound : ℕ → Came
  damaged : ℕ → Came
  broken : Came

-- the bytes that the tty hands over
abbrev pub delivered_one : Came → List ℕ
delivered_one (sound b) = cond (eqb b mark) (mark ∷ mark ∷ []) (b ∷ [])
delivered_one (damaged b) = mark ∷ 0 ∷ b ∷ []
delivered_one broken = mark ∷ 0 ∷ 0 ∷ []

abbrev pub delivered : List Came → List ℕ
delivered [] = []
delivered (c ∷ came) = delivered_one c ++ delivered came

-- "0 to 255 a byte, 256 a break or a byte that arrived damaged"; of a byte its bits 6 to 0 where the port clears bit 7
abbrev pub word_of : ℕ → Came → ℕ
word_of clears (sound b) = cleared clears b
word_of clears (damaged b) = break
word_of clears broken = break

abbrev pub line_of : ℕ → List Came → List ℕ
line_of clears [] = []
line_of clears (c ∷ came) = word_of clears c ∷ line_of clears came
