-- What a line falls into: the runs that are picked, and "each longest run of neighbouring bytes left out".
use Rattle.std.specs.Prelude.{ℕ, zero, suc, ◌+◌, ◌-◌, ◌<◌, ◌≤◌, ◌≡◌, Bool, cond, List, [], ◌∷◌, ◌++◌}
use Rattle.frames.specs.Words.{is_byte}
use Rattle.choosing.specs.Earliest.{starts}

-- the run that starts at a place; so many bytes left out, the first at a place
pub data Piece : Type 0 where
  picked : ℕ → Piece
  left : ℕ → ℕ → Piece

-- so many places, one after the other
unfoldable pub up_from : ℕ → ℕ → List ℕ
up_from place zero = []
up_from place (suc n) = place ∷ up_from (suc place) n

-- the places of the bytes among words whose first has this place
unfoldable pub byte_places : ℕ → List ℕ → List ℕ
byte_places place [] = []
byte_places place (w ∷ words) = cond (is_byte w) (place ∷ []) [] ++ byte_places (suc place) words

-- the starting places of the runs among pieces
unfoldable pub picked_in : List Piece → List ℕ
picked_in [] = []
picked_in (picked s ∷ pieces) = s ∷ picked_in pieces
picked_in (left a n ∷ pieces) = picked_in pieces

-- the next piece is no bytes left out that begin at a place
abbrev pub Ends : ℕ → List Piece → Type 0
Ends place [] = Unit {0}
Ends place (picked s ∷ pieces) = Unit {0}
Ends place (left a n ∷ pieces) = place < a

-- a run of bytes left out has one at least, and ends where no other begins
unfoldable pub Longest : List Piece → Type 0
Longest [] = Unit {0}
Longest (picked s ∷ pieces) = Longest pieces
Longest (left a n ∷ pieces) = (1 ≤ n) × Ends (a + n) pieces × Longest pieces

-- reports of `size` bytes, of which `valid` tells one
module _ (size : ℕ) (valid : List ℕ → Bool) where
  -- the places of a piece, and of pieces one after the other
  abbrev pub places_of : Piece → List ℕ
  places_of (picked s) = up_from s size
  places_of (left a n) = up_from a n

  unfoldable pub places_in : List Piece → List ℕ
  places_in [] = []
  places_in (p ∷ pieces) = places_of p ++ places_in pieces

  -- pieces that a line falls into, of which these are the runs: every byte of the line is in exactly one of them, in the order of the line
  pub record Falls (words starts : List ℕ) (pieces : List Piece) : Type 0 where
    pub runs : picked_in pieces ≡ starts
    pub each_byte : places_in pieces ≡ byte_places 0 words
    pub longest : Longest pieces

  -- so many bytes left out, the last before a place, if any
  abbrev pub behind : ℕ → ℕ → List Piece
  behind place zero = []
  behind place (suc n) = left (place - suc n) (suc n) ∷ []

  -- the pieces of words whose first has this place, where the next `taken` words belong to a run already, and so many bytes before are left out
  unfoldable pub pieces_from : ℕ → ℕ → ℕ → List ℕ → List Piece
  pieces_from place taken n [] = behind place n
  pieces_from place (suc taken) n (w ∷ words) = pieces_from (suc place) taken n words
  pieces_from place zero n (w ∷ words) =
      cond (starts size valid (w ∷ words)) (behind place n ++ picked place ∷ pieces_from (suc place) (size - 1) 0 words)
      (cond (is_byte w) (pieces_from (suc place) 0 (suc n) words)
      (behind place n ++ pieces_from (suc place) 0 0 words))

  abbrev pub pieces : List ℕ → List Piece
  pieces words = pieces_from 0 0 0 words
