-- The listing in a lent slice, as it is printed: lines, and a walk through the words of a log.
use Rattle.std.specs.Prelude.{ℕ, ◌%◌, ◌<◌, ◌≤◌, ◌≡◌, cond, ◌⊎◌, List, [], ◌∷◌, ◌++◌, map, length, drop, get_or, eqb}
use Rattle.wire.specs.Line.{size_by}
use Rattle.text.specs.Growth.{text_of}
use Rattle.text.specs.declared.Text.{Text}
use Rattle.choosing.specs.Pieces.{Piece, behind, pieces_from}
use Rattle.salvage.specs.Picking.{most_words, valid_by}
use Rattle.salvaged.specs.Items.{item_of}
use Rattle.salvaged.specs.Writing.{Written, add_all}
use Rattle.salvaged.specs.Listing.{item_line}
use Rattle.salvaged.specs.declared.Salvaged.{Salvaged}
use Rattle.salvaged.specs.declared.Step.{Step}

-- a text is at the front of a slice that was this before, and so much is told of it
pub record Stands (before : List ℕ) (w : Written) (told : Salvaged) (out : List ℕ) : Type 0 where
  pub is : told ≡ record { written = length w.text; whole = w.whole }
  pub room : length w.text ≤ length before
  pub wrote : out ≡ w.text ++ drop (length w.text) before

-- a call adds lines to whatever text is there
pub record Adds (lines : List (List ℕ)) (told : Salvaged) (out : List ℕ) (next : Salvaged) (after : List ℕ) : Type 0 where
  pub to : (before : List ℕ) (w : Written) → Stands before w told out → Stands before (add_all (length before) w lines) next after

-- a text adds the line that it is of
abbrev pub AddsText : Text → Salvaged → List ℕ → Salvaged → List ℕ → Type 0
AddsText text told out next after = (line : List ℕ) → text ≡ text_of line → length line ≤ 40 → Adds (line ∷ []) told out next after

-- the lines of pieces of a log
abbrev pub lines_in : ℕ → List ℕ → List Piece → List (List ℕ)
lines_in letter words pieces = map item_line (map (item_of letter words) pieces)

-- bytes left out right before a place, whatever the log
abbrev pub AddsLeft : ℕ → ℕ → Salvaged → List ℕ → Salvaged → List ℕ → Type 0
AddsLeft at left told out next after =
    (letter : ℕ) (words : List ℕ) → Adds (lines_in letter words (behind (size_by letter) (valid_by letter) at left)) told out next after

-- what is left to be printed from a place on, where so many bytes before it are left out
abbrev pub rest_at : ℕ → List ℕ → ℕ → ℕ → List Piece
rest_at letter words at left = pieces_from (size_by letter) (valid_by letter) at 0 left (drop at words)

-- the words of a log, and the size of its reports
pub record Words (letter size : ℕ) (words : List ℕ) : Type 0 where
  pub sized : size ≡ size_by letter
  pub few : length words ≤ most_words

-- a run of three or five words starts at the front
pub record RunOf (size : ℕ) (words : List ℕ) : Type 0 where
  pub two : (size ≡ 3) ⊎ (size ≡ 5)
  pub within : size ≤ length words

-- its bytes, and 0 in the places behind them
abbrev pub byte_in : ℕ → List ℕ → ℕ
byte_in i words = get_or words i 0 % 256

abbrev pub five_in : ℕ → List ℕ → List ℕ
five_in size words =
    cond (eqb size 3) (byte_in 0 words ∷ byte_in 1 words ∷ byte_in 2 words ∷ 0 ∷ 0 ∷ [])
    (byte_in 0 words ∷ byte_in 1 words ∷ byte_in 2 words ∷ byte_in 3 words ∷ byte_in 4 words ∷ [])

-- the walk is at a place, where so many bytes before it are left out
pub record Here (words : List ℕ) (at left : ℕ) : Type 0 where
  pub in_words : at < length words
  pub small : left ≤ at

-- a step at a place of the words: it adds the lines of some pieces, and what is left is the rest
pub record Stepped (letter : ℕ) (words : List ℕ) (at left : ℕ) (told : Salvaged) (out : List ℕ) (s : Step) (after : List ℕ) : Type 0 where
  pub printed : List Piece
  pub rest : rest_at letter words at left ≡ printed ++ rest_at letter words s.at s.left
  pub adds : Adds (lines_in letter words printed) told out s.told after
  pub further : at < s.at
  pub within : s.at ≤ length words
  pub small : s.left ≤ s.at
