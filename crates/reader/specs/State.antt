-- What a reader is, and what it answers.
use Rattle.std.specs.Prelude.{ℕ, Bool, not, false, List, [], ◌∷◌, take, replicate, ℤ, pos, Result, Ok, Err}
use Rattle.wire.specs.Line.{letter_of, marked_by}
use Rattle.wire.specs.Numbers.{success}
use Rattle.wire.specs.Refusals.{number_of}
use Rattle.wire.specs.declared.refusal.Refusal.{Refusal}
use Rattle.wire.specs.declared.Format.TheVariants.{FiveByte}
use Rattle.wire.specs.declared.Report.{Report}
use Rattle.reader.specs.declared.Reader.{Reader}
use Rattle.reader.specs.declared.Step.{Step}
use Rattle.reader.specs.declared.Answer.{Answer}
use Rattle.reader.specs.declared.Answer.TheVariants as answer

-- "A reader has a format, up to size minus one bytes, and in U, T, W a mark that it awaits silence."
abbrev pub reader : ℕ → List ℕ → ℕ → Bool → Reader
reader letter kept count awaiting = record { format = letter; kept = kept; count = count; awaiting = awaiting }

-- the kept bytes themselves: the first of its five places
abbrev pub kept_in : Reader → List ℕ
kept_in r = take r.count r.kept

-- "in U, T, W"
abbrev pub unmarked : ℕ → Bool
unmarked letter = not (marked_by letter)

-- a reader that has no bytes
abbrev pub no_bytes : ℕ → Bool → Reader
no_bytes letter awaiting = reader letter (replicate 5 0) 0 awaiting

-- "Fresh: no bytes, awaiting in U, T, W."
abbrev pub fresh : ℕ → Reader
fresh letter = no_bytes letter (unmarked letter)

-- "Ready: no bytes, not awaiting."
abbrev pub ready : ℕ → Reader
ready letter = no_bytes letter false

-- "five 16-bit signed numbers a report (buttons, x1, y1, x2, y2)"
abbrev pub five_of : Report → List ℤ
five_of p = pos p.buttons ∷ p.x1 ∷ p.y1 ∷ p.x2 ∷ p.y2 ∷ []

-- "Each word is answered by nothing, a report, or a number of bytes dropped": for each case its numbers
abbrev pub numbers_of : Answer → List ℤ
numbers_of answer.Nothing = []
numbers_of (answer.Report p) = five_of p
numbers_of (answer.Dropped k) = pos k ∷ []

-- what a new reader and a step give back, with the number of a refusal
pub record NewReader : Type 0 where
  pub refusal : ℕ
  pub reader : Reader

pub record Read : Type 0 where
  pub refusal : ℕ
  pub next : Reader
  pub answer : Answer

-- "(1 for a new reader: a fresh one of U)"
abbrev pub new_in : Result Reader Refusal → NewReader
new_in (Ok r) = record { refusal = success; reader = r }
new_in (Err refusal) = record { refusal = number_of refusal; reader = fresh (letter_of FiveByte) }

-- "A refusal returns the old state", and answers nothing
abbrev pub given : Step → Read
given s = record { refusal = success; next = s.next; answer = s.answer }

abbrev pub read_in : Reader → Result Step Refusal → Read
read_in r (Ok s) = given s
read_in r (Err refusal) = record { refusal = number_of refusal; next = r; answer = answer.Nothing }
