-- The theorems: what is listed of an input, and where there is room for all of it.
use Rattle.std.specs.Prelude.{ℕ, ◌+◌, ◌*◌, ◌≡◌, true, List, [], ◌∷◌, ◌++◌, map, length, drop}
use Rattle.wire.specs.Line.{size_by}
use Rattle.wire.specs.Numbers.{success}
use Rattle.choosing.specs.Pieces.{Piece, Falls}
use Rattle.salvage.specs.Picking.{most_words, valid_by, refusal_of, BestBy}
use Rattle.listing.specs.declared.Item.{Item}
use Rattle.listing.specs.declared.Item.TheVariants as item
use Rattle.salvaged.specs.Log.{Log}
use Rattle.salvaged.specs.Items.{item_of}
use Rattle.salvaged.specs.Listing.{salvage_of}
use Rattle.salvaged.specs.declared.Salvaged.{Salvaged}

-- of a log where nothing stands alone: it is one that may be salvaged; the items are the picked reports, which are the best choice, and a `D` for each
-- longest run of bytes left out, every byte of the log in exactly one of them; then `H` and 0
pub record Account (l : Log) (items : List Item) : Type 0 where
  pub taken : refusal_of l.letter l.words ≡ success
  pub places : List ℕ
  pub best : BestBy l.letter l.words places
  pub pieces : List Piece
  pub falls : Falls (size_by l.letter) (valid_by l.letter) l.words places pieces
  pub items_are : items ≡ map (item_of l.letter l.words) pieces ++ item.H 0 ∷ []

-- the places with which every listing is whole: forty for each line, of which there is the first, one for each word at most, and `H`
abbrev pub enough : ℕ
enough = 40 * (most_words + 2)

-- the bytes of an input that decide: six for each line, of which there is the format's, one for each word, and one for a word too many
abbrev pub decides : ℕ
decides = 6 * (most_words + 2)

-- the whole text is at the front of the slice, and nothing behind it is touched
pub record AllThere (input before : List ℕ) (answer : Salvaged) (after : List ℕ) : Type 0 where
  pub whole : answer.whole ≡ true
  pub long : answer.written ≡ length (salvage_of input)
  pub text : after ≡ salvage_of input ++ drop (length (salvage_of input)) before
