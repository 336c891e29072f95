-- What is found in a recording, to items of the listing.
use Rattle.std.specs.Prelude.{ℕ, cond, List, [], ◌∷◌, ◌++◌, eqb, ◌+ℤ◌, Option, None, Some}
use Rattle.numbers.specs.Bits.{bit}
use Rattle.wire.specs.Line.{letter_of}
use Rattle.wire.specs.declared.Report.{Report}
use Rattle.wire.specs.declared.Format.TheVariants.{Microsoft}
use Rattle.reader.specs.Promises.{fresh_of, step_of}
use Rattle.reader.specs.declared.Reader.{Reader}
use Rattle.reader.specs.declared.Answer.{Answer}
use Rattle.reader.specs.declared.Answer.TheVariants as answer
use Rattle.listing.specs.declared.Found.{Found}
use Rattle.listing.specs.declared.Found.TheVariants as found
use Rattle.listing.specs.declared.Middle.{Middle}
use Rattle.listing.specs.declared.Middle.TheVariants.{Up, Down, Unknown}
use Rattle.listing.specs.declared.Buttons.{Buttons}
use Rattle.listing.specs.declared.Item.{Item}
use Rattle.listing.specs.declared.Item.TheVariants as item
use Rattle.listing.specs.declared.Gave.{Gave}

-- "buttons as L M R or `-` (middle `?` in V)"
abbrev pub middle_of : ℕ → ℕ → Middle
middle_of letter buttons = cond (eqb letter (letter_of Microsoft)) Unknown (cond (bit 1 buttons) Down Up)

abbrev pub buttons_of : ℕ → ℕ → Buttons
buttons_of letter buttons = record { left = bit 2 buttons; middle = middle_of letter buttons; right = bit 0 buttons }

-- what the answer to the word of line n gives: "`D`, line of the word so answered, bytes dropped (when not 0); `R`, line of the last byte, buttons
-- [..], x and y, both pairs summed"
abbrev pub report_item : ℕ → ℕ → Report → Item
report_item letter n p = item.R n (buttons_of letter p.buttons) (p.x1 +ℤ p.x2) (p.y1 +ℤ p.y2)

abbrev pub answer_given : ℕ → ℕ → Answer → Option Item
answer_given letter n answer.Nothing = None
answer_given letter n (answer.Report p) = Some (report_item letter n p)
answer_given letter n (answer.Dropped k) = Some (item.D n k)

abbrev pub gave : Reader → Option Item → Gave
gave r g = record { next = r; given = g }

-- a format's reader, and a word of line n
abbrev pub format_gave : ℕ → Gave
format_gave f = gave (fresh_of f).reader None

abbrev pub word_gave : Reader → ℕ → ℕ → Gave
word_gave r n w = gave (step_of r w).next (answer_given r.format n (step_of r w).answer)

-- what is found goes to the reader; "at the end `H` and bytes kept", "without `H`" where a line is bad
unfoldable pub gave_of : Reader → Found → Gave
gave_of r found.Nothing = gave r None
gave_of r (found.Format f) = format_gave f
gave_of r (found.Word n w) = word_gave r n w
gave_of r (found.Bad n) = gave r (Some (item.E n))
gave_of r found.Over = gave r (Some item.Over)
gave_of r found.End = gave r (Some (item.H r.count))

-- the number of an item's line, if it has one
abbrev pub line_number_of : Item → Option ℕ
line_number_of (item.D n k) = Some n
line_number_of (item.R n b x y) = Some n
line_number_of (item.H k) = None
line_number_of (item.E n) = Some n
line_number_of item.Over = None

abbrev pub items_in : Option Item → List Item
items_in None = []
items_in (Some i) = i ∷ []

-- one after the other
unfoldable pub items_from : Reader → List Found → List Item
items_from r [] = []
items_from r (f ∷ fs) = items_in (gave_of r f).given ++ items_from (gave_of r f).next fs
