-- A choice of runs in a line, and which is best: "It picks separate runs of neighbouring bytes, each a valid report, none across a 256 or 257, so that
-- the fewest bytes are left out."
use Rattle.std.specs.Prelude.{ℕ, suc, ◌+◌, ◌<◌, ◌≤◌, ◌≡◌, Bool, true, false, not, cond, ◌&&◌, ◌||◌, List, [], ◌∷◌, length, take, drop, leb, ltb}
use Rattle.frames.specs.Words.{is_byte}

-- the bytes among words: 256 and 257 are none
unfoldable pub all_bytes : List ℕ → Bool
all_bytes [] = true
all_bytes (w ∷ words) = is_byte w && all_bytes words

unfoldable pub bytes_in : List ℕ → ℕ
bytes_in [] = 0
bytes_in (w ∷ words) = cond (is_byte w) 1 0 + bytes_in words

-- one list of places is smaller than another, "compared place by place"
pub data Smaller : List ℕ → List ℕ → Type 0 where
  here : {a b : ℕ} {l m : List ℕ} → a < b → Smaller (a ∷ l) (b ∷ m)
  there : {a : ℕ} {l m : List ℕ} → Smaller l m → Smaller (a ∷ l) (a ∷ m)

-- reports of `size` bytes, of which `valid` tells one
module _ (size : ℕ) (valid : List ℕ → Bool) where
  -- the words of the run that starts at a place
  abbrev pub run : List ℕ → ℕ → List ℕ
  run words start = take size (drop start words)

  -- `size` neighbouring bytes of the line, a valid report, with no 256 or 257 among them
  pub record Run (words : List ℕ) (start : ℕ) : Type 0 where
    pub within : start + size ≤ length words
    pub bytes : all_bytes (run words start) ≡ true
    pub report : valid (run words start) ≡ true

  -- starting places of separate runs, in order, none before a place
  abbrev pub ChoiceFrom : ℕ → List ℕ → List ℕ → Type 0
  ChoiceFrom from words [] = Unit {0}
  ChoiceFrom from words (s ∷ starts) = (from ≤ s) × Run words s × ChoiceFrom (s + size) words starts

  abbrev pub Choice : List ℕ → List ℕ → Type 0
  Choice words starts = ChoiceFrom 0 words starts

  -- a place lies in one of the runs
  unfoldable pub chosen : List ℕ → ℕ → Bool
  chosen [] place = false
  chosen (s ∷ starts) place = (leb s place && ltb place (s + size)) || chosen starts place

  -- the bytes left out: those at no place of a run; of words whose first has this place
  unfoldable pub left_from : List ℕ → ℕ → List ℕ → ℕ
  left_from starts place [] = 0
  left_from starts place (w ∷ words) = cond (is_byte w && not (chosen starts place)) 1 0 + left_from starts (suc place) words

  abbrev pub bytes_left_out : List ℕ → List ℕ → ℕ
  bytes_left_out words starts = left_from starts 0 words

  -- "so that the fewest bytes are left out. Among equals it takes the one whose list of starting places is smallest, compared place by place."
  pub record Best (words starts : List ℕ) : Type 0 where
    pub choice : Choice words starts
    pub fewest : (others : List ℕ) → Choice words others → bytes_left_out words starts ≤ bytes_left_out words others
    pub smallest : (others : List ℕ) → Choice words others → bytes_left_out words others ≡ bytes_left_out words starts → Smaller others starts → ⊥
