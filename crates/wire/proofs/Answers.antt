-- What follows from the promises: one answer for every argument, what a refusal leaves, and what a success writes.
use native.Mathlib.Omega.{arith}
use Prim.Native.Nat.{ℕ, ◌<◌, ◌≤◌}
use mathlib.Core.Path.{◌≡◌, refl, sym, ◌∙◌, ap, ap₂, subst}
use mathlib.Core.Bool.{Bool, true, false, not, cond}
use mathlib.Core.List.{List, [], ◌∷◌, ◌++◌}
use borrow.Author.Tests.{le-leb, lt-leb, lt-ltb, ne_eqb}
use Rattle.std.proofs.Common.{Result}
use lib.ListN.{length, drop}
use lib.Dec.{eqb, ltb}
use lib.IntN.{pos}
use Rattle.wire.proofs.Front.{size_small}
use Rattle.numbers.proofs.Choices.{cases}
use Rattle.wire.proofs.Accepts.{buttons_first, movement_next, room_last, accepts}
use Rattle.wire.proofs.Refusals.{refusals, unwritten_leaves}
use Rattle.wire.proofs.Letters.{letter_named}
use Rattle.wire.specs.Line.{letter_of, named_by, size_of}
use Rattle.wire.specs.Table.{bytes_of}
use Rattle.wire.specs.Holds.{pressable, unheld, holds, accepted}
use Rattle.wire.specs.Encoder.{Encoding, Encoded, refusal_of, length_of, outcome, refused, unheld_number, encode_in}
use Rattle.wire.specs.Refusals.{number_of}
use Rattle.wire.specs.Numbers.{success, bad_letter, bad_buttons, bad_first_x, bad_first_y, bad_second_x, bad_second_y, short_buffer, accepted as taken, refusal}
use Rattle.wire.specs.declared.refusal.Refusal.{Refusal}
use Rattle.wire.specs.Promises.{KnownPromise, SizePromise, MarkedPromise, FitsPromise, ReportPromise, EncodePromise, EncodeRefusal, NumberPromise, RefusalPromise, LengthPromise}
use Rattle.wire.specs.declared.Report.{Report}
use Rattle.wire.specs.declared.Format.{Format}
use Rattle.wire.specs.declared.Format.TheVariants.{FiveByte}
use Rattle.wire.specs.declared.refusal.Refusal.TheVariants.{NoSuchLetter, ButtonsAboveSeven, BufferTooShort}
use Rattle.std.proofs.Common.{Option, Some, None, Ok, Err}
use Rattle.wire.proofs.Numbered.{refusal_by, same_refusal, never_success}
use Rattle.wire.proofs.Codec.{second_unheld, second_unheld_y}

-- two answers that meet a promise are equal
pub one_known : (letter : ℕ) {a b : Bool} → KnownPromise letter a → KnownPromise letter b → a ≡ b
one_known letter p q = p ∙ sym q

pub one_size : (letter : ℕ) {a b : ℕ} → SizePromise letter a → SizePromise letter b → a ≡ b
one_size letter p q = p ∙ sym q

pub one_marked : (letter : ℕ) {a b : Bool} → MarkedPromise letter a → MarkedPromise letter b → a ≡ b
one_marked letter p q = p ∙ sym q

pub one_fits : (letter place byte : ℕ) {a b : Bool} → FitsPromise letter place byte a → FitsPromise letter place byte b → a ≡ b
one_fits letter place byte p q = p ∙ sym q

pub one_report : (letter : ℕ) (bytes : List ℕ) {a b : Report} → ReportPromise letter bytes a → ReportPromise letter bytes b → a ≡ b
one_report letter bytes p q = p ∙ sym q

pub one_refusal : {A : Type 0} (given : Result A Refusal) {a b : ℕ} → RefusalPromise given a → RefusalPromise given b → a ≡ b
one_refusal given p q = p ∙ sym q

pub one_number : (r : Refusal) {a b : ℕ} → NumberPromise r a → NumberPromise r b → a ≡ b
one_number r p q = p ∙ sym q

pub one_length : (encoded : Encoded) {a b : ℕ} → LengthPromise encoded a → LengthPromise encoded b → a ≡ b
one_length encoded p q = p ∙ sym q

-- the encoder's answer is told by the number given back and the length
answer_of : ℕ → ℕ → Encoded
answer_of number told =
    cond (eqb number 0) (Ok told) (Err (refusal_by number))

same_answer : (a : Encoded) → answer_of (refusal_of a) (length_of a) ≡ a
unfolding answer_of
same_answer (Ok n) = refl
same_answer (Err r) = rw (ne_eqb (number_of r) 0 (never_success r), same_refusal r)

pub one_encoding : (letter : ℕ) (r : Report) (before : List ℕ) {a b : Encoded} {after behind : List ℕ} → EncodePromise letter r before a after → EncodePromise letter r before b behind → (a ≡ b) × (after ≡ behind)
one_encoding letter r before {a} {b} p q =
    let e = p ∙ sym q in
    (sym (same_answer a) ∙ ap₂ answer_of (ap (λ (x : Encoding). x.refusal) e) (ap (λ (x : Encoding). x.told) e) ∙ same_answer b, ap (λ (x : Encoding). x.buffer) e)

-- a refusal tells no length and writes nothing, whatever the letter, the report and the buffer
pub refusal_leaves : (letter : ℕ) (r : Report) (before after : List ℕ) (a : Encoded) → EncodePromise letter r before a after → (refusal_of a ≡ success → ⊥) → (length_of a ≡ 0) × (after ≡ before)
refusal_leaves letter r before after a p n = go (refusals letter r before after a p)
  where
    go : EncodeRefusal before (outcome a after) → (length_of a ≡ 0) × (after ≡ before)
    go (taken e) = absurd (n e)
    go (refusal m) = unwritten_leaves before (bad_letter ∷ bad_buttons ∷ bad_first_x ∷ bad_first_y ∷ bad_second_x ∷ bad_second_y ∷ short_buffer ∷ []) m

-- an answer is what the definition says of a format
told : (f : Format) (r : Report) (before : List ℕ) {a b : Encoded} {after behind : List ℕ} → EncodePromise (letter_of f) r before a after → outcome b behind ≡ encode_in (Some f) r before → (a ≡ b) × (after ≡ behind)
told f r before p q = one_encoding (letter_of f) r before p (rw (letter_named f) q)

-- an accepted report is written at the front of a buffer that is long enough, and nothing after it
pub accepted_written : (f : Format) (r : Report) (before after : List ℕ) (a : Encoded) → accepted f r ≡ true → size_of f ≤ length before → EncodePromise (letter_of f) r before a after → (a ≡ Ok (size_of f)) × (after ≡ bytes_of f r ++ drop (size_of f) before)
accepted_written f r before after a e h p = told f r before p (sym (accepts f r before e h))

-- what is not accepted, and what finds no room, is refused in the order of the numbers
pub letter_refused : (letter : ℕ) (r : Report) (before after : List ℕ) (a : Encoded) → named_by letter ≡ None → EncodePromise letter r before a after → (a ≡ Err NoSuchLetter) × (after ≡ before)
unfolding encode_in
letter_refused letter r before after a e p = one_encoding letter r before p (rw e)

pub buttons_refused : (f : Format) (r : Report) (before after : List ℕ) (a : Encoded) → 7 < r.buttons → EncodePromise (letter_of f) r before a after → (a ≡ Err ButtonsAboveSeven) × (after ≡ before)
buttons_refused f r before after a h p = told f r before p (sym (buttons_first f r before (lt-leb r.buttons 7 h)))

pub movement_refused : (f : Format) (r : Report) (before after : List ℕ) (a : Encoded) → r.buttons ≤ 7 → holds f r ≡ false → EncodePromise (letter_of f) r before a after → outcome a after ≡ refused (unheld_number (unheld f r)) before
movement_refused f r before after a h e p = p ∙ rw (letter_named f) (movement_next f r before (le-leb r.buttons 7 h) e)

pub room_refused : (f : Format) (r : Report) (before after : List ℕ) (a : Encoded) → accepted f r ≡ true → length before < size_of f → EncodePromise (letter_of f) r before a after → (a ≡ Err BufferTooShort) × (after ≡ before)
room_refused f r before after a e h p = told f r before p (sym (room_last f r before e (lt-ltb (length before) (size_of f) h)))

-- a second pair outside U is refused
pub second_refused : (f : Format) (r : Report) (before after : List ℕ) (a : Encoded) → (f ≡ FiveByte → ⊥) → r.buttons ≤ 7 → (r.x2 ≡ pos 0 → ⊥) → EncodePromise (letter_of f) r before a after → outcome a after ≡ refused (unheld_number (unheld f r)) before
second_refused f r before after a u h n = movement_refused f r before after a h (second_unheld f r u n)

pub second_refused_y : (f : Format) (r : Report) (before after : List ℕ) (a : Encoded) → (f ≡ FiveByte → ⊥) → r.buttons ≤ 7 → (r.y2 ≡ pos 0 → ⊥) → EncodePromise (letter_of f) r before a after → outcome a after ≡ refused (unheld_number (unheld f r)) before
second_refused_y f r before after a u h n = movement_refused f r before after a h (second_unheld_y f r u n)

-- no report has more than five bytes
told_small : (named : Option Format) (r : Report) (before : List ℕ) → (encode_in named r before).told ≤ 5
unfolding encode_in
told_small None r before = omega arith
told_small (Some f) r before =
    let P : Encoding → Type 0 = λ e. e.told ≤ 5 in
    cases P (not (pressable r)) (λ _. omega arith)
    (λ _. cases P (not (holds f r)) (λ _. omega arith)
    (λ _. cases P (ltb (length before) (size_of f)) (λ _. omega arith) (λ _. size_small f)))

pub length_small : (letter : ℕ) (r : Report) (before after : List ℕ) (a : Encoded) → EncodePromise letter r before a after → length_of a ≤ 5
length_small letter r before after a p = subst (λ (e : Encoding). e.told ≤ 5) (sym p) (told_small (named_by letter) r before)
