-- The theorems: what is picked is the best of all choices, and a log that was stopped for room goes on where it stopped.
use Rattle.std.specs.Prelude.{ℕ, ◌+◌, ◌≡◌, List, ◌++◌, map, take, drop}
use Rattle.wire.specs.Line.{size_by}
use Rattle.choosing.specs.Choice.{bytes_left_out}
use Rattle.salvage.specs.Picking.{valid_by, picked_by, BestBy}
use Rattle.salvage.specs.declared.Picked.{Picked}

-- of a log that was taken whole: the places are the best choice, and the bytes told are those that it leaves out
pub record WholeLog (letter : ℕ) (words : List ℕ) (answer : Picked) (after : List ℕ) : Type 0 where
  pub best : BestBy letter words (take answer.runs after)
  pub left_out : answer.left ≡ bytes_left_out (size_by letter) (valid_by letter) words (take answer.runs after)

-- of any that was not refused: the places, and behind them those of the words that were not taken, make the whole
abbrev pub GoesOn : ℕ → List ℕ → Picked → List ℕ → Type 0
GoesOn letter words answer after =
    picked_by letter words ≡ take answer.runs after ++ map (λ p. answer.taken + p) (picked_by letter (drop answer.taken words))
