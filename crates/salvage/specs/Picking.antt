-- The runs that are picked from a log of a format, and what is told of them.
use Rattle.std.specs.Prelude.{ℕ, ◌-◌, ◌*◌, Bool, false, not, cond, List, ◌++◌, length, take, drop, get_or, leb, ltb, eqb}
use Rattle.frames.specs.Words.{is_byte, line_words}
use Rattle.wire.specs.Line.{named_by, of_named, known, size_by, marked_by}
use Rattle.wire.specs.Places.{valid, fits_by}
use Rattle.wire.specs.Numbers.{success, bad_letter, bad_word}
use Rattle.choosing.specs.Choice.{bytes_in, Best}
use Rattle.choosing.specs.Earliest.{starts, earliest}
use Rattle.salvage.specs.declared.Picked.{Picked}

-- "each a valid report": as many bytes as the format's reports have, each valid in its place
unfoldable pub valid_by : ℕ → List ℕ → Bool
valid_by letter bytes = of_named false (λ f. valid f bytes) (named_by letter)

-- a run starts with the first of these words
abbrev pub starts_by : ℕ → List ℕ → Bool
starts_by letter words = starts (size_by letter) (valid_by letter) words

-- the starting places that are picked; that they are the best choice is `best_of_all` in proofs/Picks.antt
abbrev pub picked_by : ℕ → List ℕ → List ℕ
picked_by letter words = earliest (size_by letter) (valid_by letter) words

-- the paper's words, of a log of a format
abbrev pub BestBy : ℕ → List ℕ → List ℕ → Type 0
BestBy letter words places = Best (size_by letter) (valid_by letter) words places

-- "Add a tool for up to 4,096 words."
abbrev pub most_words : ℕ
most_words = 4096

-- "13 for a marked format, after 1"
abbrev pub marked_format : ℕ
marked_format = 13

-- "14 for more than 4,096 words, after 13"
abbrev pub long_log : ℕ
long_log = 14

-- 1, 13, 14 and 4, in this order, before any run
unfoldable pub refusal_of : ℕ → List ℕ → ℕ
refusal_of letter words =
    cond (not (known letter)) bad_letter
    (cond (marked_by letter) marked_format
    (cond (ltb most_words (length words)) long_log
    (cond (not (line_words words)) bad_word
    success)))

-- what is told, and every number of the lent slice
pub record Whole : Type 0 where
  pub picked : Picked
  pub places : List ℕ

abbrev pub whole : Picked → List ℕ → Whole
whole p places = record { picked = p; places = places }

-- "A refusal returns [..] counts of 0", and the slice is as it was
abbrev pub refused : ℕ → List ℕ → Whole
refused n before = whole (record { refusal = n; taken = 0; runs = 0; left = 0 }) before

-- the words taken: all, or those before the first run that has no place
unfoldable pub taken_of : ℕ → List ℕ → ℕ → ℕ
taken_of letter words room = cond (leb (length (picked_by letter words)) room) (length words) (get_or (picked_by letter words) room 0)

-- the bytes among the first words, less those of so many runs
unfoldable pub left_of : ℕ → List ℕ → ℕ → ℕ → ℕ
left_of letter words taken runs = bytes_in (take taken words) - size_by letter * runs

-- the places at the front of the slice, as many as it has, and nothing behind them
unfoldable pub picking : ℕ → List ℕ → List ℕ → Whole
picking letter words before =
    let shown = take (length before) (picked_by letter words) in
    let taken = taken_of letter words (length before) in
    whole (record { refusal = success; taken = taken; runs = length shown; left = left_of letter words taken (length shown) })
    (shown ++ drop (length shown) before)

-- `pick(letter, words, places)`
unfoldable pub pick_of : ℕ → List ℕ → List ℕ → Whole
pick_of letter words before = cond (eqb (refusal_of letter words) success) (picking letter words before) (refused (refusal_of letter words) before)

-- a byte, valid at a place of a report
unfoldable pub fits_word : ℕ → ℕ → ℕ → Bool
fits_word letter place w = cond (is_byte w) (fits_by letter place w) false
