-- Lines of words, some at a time: the quick way. Where they lie in a piece, and what their words give.
use Rattle.std.specs.Prelude.{ℕ, ◌+◌, ◌<◌, ◌≤◌, ◌≡◌, Bool, true, false, not, cond, ◌&&◌, eqb, List, [], ◌∷◌, ◌++◌, map, length, get_or, take, replicate, ℤ, pos, negsuc, ◌+ℤ◌, Option, None, Some}
use Rattle.std.specs.Int.Signed.{lt_z}
use Rattle.fold.specs.Fold.{written, run}
use Rattle.frames.specs.Words.{silence}
use Rattle.reader.specs.Good.{good}
use Rattle.reader.specs.Telling.{tells}
use Rattle.reader.specs.Promises.{step_of}
use Rattle.reader.specs.declared.Reader.{Reader}
use Rattle.listing.specs.Lines.{Tells, six_at}
use Rattle.listing.specs.Items.{buttons_of, items_in, word_gave}
use Rattle.listing.specs.Scanning.{width}
use Rattle.listing.specs.Printing.{all_bytes}
use Rattle.text.specs.Growth.{slice, filled_by}
use Rattle.listing.specs.declared.Item.{Item}
use Rattle.listing.specs.declared.Item.TheVariants.{D, R}
use Rattle.listing.specs.declared.Told.{Told}

-- the line of a word lies at a place of a piece, and six bytes from there on are in it
abbrev pub LineAt : List ℕ → ℕ → Told → Type 0
LineAt input at t = (at + 6 ≤ length input) × Tells (six_at input at) t × (t.taken ≡ 0 → ⊥)

-- lines of words, one behind the other, from a place to another
unfoldable pub LinesAt : List ℕ → ℕ → List Told → ℕ → Type 0
LinesAt input at [] end = at ≡ end
LinesAt input at (t ∷ lines) end = LineAt input at t × LinesAt input (at + t.taken) lines end

-- these are the words of such lines, the first of some places
pub record Gathered (input : List ℕ) (from : ℕ) (words : List ℕ) (count end : ℕ) : Type 0 where
  pub lines : List Told
  pub lie : LinesAt input from lines end
  pub words_are : take count words ≡ map (λ (t : Told). t.word) lines
  pub many : length lines ≡ count
  pub held : count ≤ length words

-- lines of silences, which a reader that has no bytes and awaits nothing may pass unread, where the text of a line has room
pub record Unread (r : Reader) (input : List ℕ) (from room count end : ℕ) : Type 0 where
  pub lines : Gathered input from (replicate count silence) count end
  pub quiet : 0 < count → (eqb r.count 0 && not r.awaiting ≡ true) × (40 ≤ room)

-- what words give whose lines stand behind n others, and the reader behind them
unfoldable pub items_over : Reader → ℕ → List ℕ → List Item
items_over r n [] = []
items_over r n (w ∷ words) = items_in (word_gave r (n + 1) w).given ++ items_over (word_gave r (n + 1) w).next (n + 1) words

unfoldable pub reader_over : Reader → List ℕ → Reader
reader_over r [] = r
reader_over r (w ∷ words) = reader_over (step_of r w).next words

-- numbers that tell what these words are answered by, all of them, by a good reader
pub record ToldOf (r : Reader) (words : List ℕ) (told : List ℤ) : Type 0 where
  pub sound : good r ≡ true
  pub all : length (run tells r words (length told)).answers ≡ length words
  pub behind : List ℤ
  pub numbers : told ≡ written tells (run tells r words (length told)).answers ++ behind

-- what the numbers at a place tell of the word of line n: bytes dropped; a report, by the five behind its first; or nothing
abbrev pub plain_of : ℤ → ℕ
plain_of (pos n) = n
plain_of (negsuc n) = 0

unfoldable pub report_at : ℕ → ℕ → List ℤ → ℕ → Item
report_at letter n told from =
    let number : ℕ → ℤ = λ i. get_or told (from + i) (pos 0) in
    R n (buttons_of letter (plain_of (number 1))) (number 2 +ℤ number 4) (number 3 +ℤ number 5)

unfoldable pub given_at : ℕ → ℕ → List ℤ → ℕ → Option Item
given_at letter n told from =
    let first = get_or told from (pos 0) in
    cond (lt_z (pos 0) first) (Some (D n (plain_of first))) (cond (lt_z first (pos 0)) (Some (report_at letter n told from)) None)

-- the place of the next word's numbers
unfoldable pub next_at : List ℤ → ℕ → ℕ
next_at told from = from + cond (lt_z (get_or told from (pos 0)) (pos 0)) 6 1

-- what words left that were all taken: the reader behind them, and what they give in a slice from a place on; or nothing, where they were not
pub record Printed (r : Reader) (n : ℕ) (words before : List ℕ) (at : ℕ) (all : Bool) (next : Reader) (used : ℕ) (after : List ℕ) : Type 0 where
  pub reader : all ≡ true → reader_over r words ≡ next
  pub items : all ≡ true → slice after used ≡ filled_by (slice before at) (all_bytes width (items_over r n words))
  pub nothing : all ≡ false → after ≡ before
