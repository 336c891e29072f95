-- What each public function promises: for every argument one answer.
use Rattle.std.specs.Prelude.{ℕ, ◌≡◌, Bool, List, [], ◌∷◌, Result}
use Rattle.wire.specs.Line.{known, size_by, marked_by}
use Rattle.wire.specs.Places.{fits_by}
use Rattle.wire.specs.Reading.{report_by}
use Rattle.wire.specs.Numbers.{bad_letter, bad_buttons, bad_first_x, bad_first_y, bad_second_x, bad_second_y, short_buffer, RefusesRightly}
use Rattle.wire.specs.Encoder.{Encoding, Encoded, length_of, outcome, refused, encode_of}
use Rattle.wire.specs.Refusals.{number_of, number_in}
use Rattle.wire.specs.declared.Report.{Report}
use Rattle.wire.specs.declared.refusal.Refusal.{Refusal}

-- `known(letter)`
abbrev pub KnownPromise : ℕ → Bool → Type 0
KnownPromise letter answer = answer ≡ known letter

-- `size(letter)`
abbrev pub SizePromise : ℕ → ℕ → Type 0
SizePromise letter answer = answer ≡ size_by letter

-- `marked(letter)`
abbrev pub MarkedPromise : ℕ → Bool → Type 0
MarkedPromise letter answer = answer ≡ marked_by letter

-- `fits(letter, place, byte)`
abbrev pub FitsPromise : ℕ → ℕ → ℕ → Bool → Type 0
FitsPromise letter place byte answer = answer ≡ fits_by letter place byte

-- `report_of(letter, bytes)`
abbrev pub ReportPromise : ℕ → List ℕ → Report → Type 0
ReportPromise letter bytes answer = answer ≡ report_by letter bytes

-- `encode(letter, report, buffer)`: the answer, and every byte of the buffer after it
abbrev pub EncodePromise : ℕ → Report → List ℕ → Encoded → List ℕ → Type 0
EncodePromise letter report before answer after = outcome answer after ≡ encode_of letter report before

-- the encoder's refusals: each "returns [..] counts of 0", tells no length and leaves the buffer
abbrev pub unwritten : List ℕ → List Encoding
unwritten before =
    refused bad_letter before ∷ refused bad_buttons before
    ∷ refused bad_first_x before ∷ refused bad_first_y before ∷ refused bad_second_x before ∷ refused bad_second_y before
    ∷ refused short_buffer before ∷ []

abbrev pub EncodeRefusal : List ℕ → Encoding → Type 0
EncodeRefusal before e = RefusesRightly (λ (x : Encoding). x.refusal) (unwritten before) e

-- `Refusal::number(self)`
abbrev pub NumberPromise : Refusal → ℕ → Type 0
NumberPromise refusal answer = answer ≡ number_of refusal

-- `number_in(answer)` and `length_in(answer)`
abbrev pub RefusalPromise : {A : Type 0} → Result A Refusal → ℕ → Type 0
RefusalPromise given answer = answer ≡ number_in given

abbrev pub LengthPromise : Encoded → ℕ → Type 0
LengthPromise encoded answer = answer ≡ length_of encoded
