-- What the encoder does, for every letter, report and buffer.
use Rattle.std.specs.Prelude.{ℕ, not, cond, List, ◌++◌, length, drop, ltb, Option, Some, None, Result, Ok, Err}
use Rattle.wire.specs.Line.{named_by, size_of}
use Rattle.wire.specs.Table.{bytes_of}
use Rattle.wire.specs.Holds.{pressable, unheld, holds}
use Rattle.wire.specs.Numbers.{success, bad_letter, bad_buttons, short_buffer}
use Rattle.wire.specs.declared.Report.{Report}
use Rattle.wire.specs.declared.Format.{Format}
use Rattle.wire.specs.declared.Movement.{Movement}
use Rattle.wire.specs.declared.refusal.Refusal.{Refusal}
use Rattle.wire.specs.Refusals.{number_of, number_in, refusal_for}

-- what is left behind: the number given back, the length told, and every byte of the buffer
pub record Encoding : Type 0 where
  pub refusal : ℕ
  pub told : ℕ
  pub buffer : List ℕ

-- the encoder's answer: how many bytes it wrote, or why it refused
abbrev pub Encoded : Type 0
Encoded = Result ℕ Refusal

-- the number given back for it
abbrev pub refusal_of : Encoded → ℕ
refusal_of answer = number_in answer

-- and the length told
abbrev pub length_of : Encoded → ℕ
length_of (Ok n) = n
length_of (Err r) = 0

abbrev pub outcome : Encoded → List ℕ → Encoding
outcome answer buffer = record { refusal = refusal_of answer; told = length_of answer; buffer = buffer }

-- a refusal tells no length and writes nothing
abbrev pub refused : ℕ → List ℕ → Encoding
refused n buffer = record { refusal = n; told = 0; buffer = buffer }

-- "The encoder writes the report at the front and nothing after it."
abbrev pub written : Format → Report → List ℕ → Encoding
written f r buffer = record { refusal = success; told = size_of f; buffer = bytes_of f r ++ drop (size_of f) buffer }

-- or that they have no room there
abbrev pub writing : Format → Report → List ℕ → Encoding
writing f r buffer = cond (ltb (length buffer) (size_of f)) (refused short_buffer buffer) (written f r buffer)

-- the number for a movement that is not held: "The first fault in the order x1, y1, x2, y2 is the one told. A second pair that is not zero
-- outside U falls under the second pair's numbers."
abbrev pub unheld_number : Option Movement → ℕ
unheld_number None = success
unheld_number (Some movement) = number_of (refusal_for movement)

-- 1, 3, then 8, 9, 10 or 11, then 5: "Tested in that order, where they apply"
unfoldable pub encode_in : Option Format → Report → List ℕ → Encoding
encode_in None r buffer = refused bad_letter buffer
encode_in (Some f) r buffer =
    cond (not (pressable r)) (refused bad_buttons buffer)
    (cond (not (holds f r)) (refused (unheld_number (unheld f r)) buffer)
    (writing f r buffer))

abbrev pub encode_of : ℕ → Report → List ℕ → Encoding
encode_of letter r buffer = encode_in (named_by letter) r buffer
