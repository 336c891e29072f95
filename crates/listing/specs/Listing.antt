-- What the listing of an input is.
use Rattle.std.specs.Prelude.{ℕ, List, ◌++◌}
use Rattle.wire.specs.Line.{letter_of}
use Rattle.wire.specs.declared.Format.TheVariants.{FiveByte}
use Rattle.reader.specs.State as state
use Rattle.reader.specs.declared.Reader.{Reader}
use Rattle.listing.specs.Scanning.{width, recording_of}
use Rattle.listing.specs.Items.{items_from}
use Rattle.listing.specs.Printing.{line_of, opening, all_bytes}
use Rattle.listing.specs.declared.Item.{Item}

-- the reader before a format has come
abbrev pub waiting : Reader
waiting = state.fresh (letter_of FiveByte)

-- at a width: bytes to numbered words, words to items
abbrev pub items_at : ℕ → List ℕ → List Item
items_at w input = items_from waiting (recording_of w input)

-- items to bytes, behind the line that is always printed first
abbrev pub printed_at : ℕ → List Item → List ℕ
printed_at w items = line_of w (opening w) ++ all_bytes w items

abbrev pub listing_at : ℕ → List ℕ → List ℕ
listing_at w input = printed_at w (items_at w input)

-- and at the width of new listings
unfoldable pub listing_of : List ℕ → List ℕ
listing_of input = listing_at width input
