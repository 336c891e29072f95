-- Two answers that meet a promise are equal.
use Prim.Native.Nat.{ℕ}
use mathlib.Core.Path.{◌≡◌, sym, ◌∙◌, ap}
use mathlib.Core.Bool.{Bool, false}
use mathlib.Core.List.{List}
use lib.IntN.{ℤ}
use Rattle.text.specs.Growth.{slice}
use Rattle.text.proofs.Laws.{put_none}
use Rattle.text.specs.Promises.{NonePromise, WithPromise, DecimalPromise, NumberPromise, PutPromise, ByteToPromise, BytesToPromise, DecimalToPromise, LengthToPromise}
use Rattle.std.proofs.Common.{Option}
use Rattle.text.specs.declared.Text.{Text}

pub one_none : {a b : Text} → NonePromise a → NonePromise b → a ≡ b
one_none p q = p ∙ sym q

pub one_with : (t : Text) (byte : ℕ) {a b : Text} → WithPromise t byte a → WithPromise t byte b → a ≡ b
one_with t byte p q = p ∙ sym q

pub one_decimal : (t : Text) (width : ℕ) (x : ℤ) {a b : Text} → DecimalPromise t width x a → DecimalPromise t width x b → a ≡ b
one_decimal t width x p q = p ∙ sym q

pub one_number : (bytes : List ℕ) (width : ℕ) {a b : Option ℤ} → NumberPromise bytes width a → NumberPromise bytes width b → a ≡ b
one_number bytes width p q = p ∙ sym q

pub one_put : (t : Text) (at : ℕ) (before : List ℕ) {a b : Bool} {left right : List ℕ} → PutPromise t at before a left → PutPromise t at before b right
    → (a ≡ b) × (left ≡ right)
one_put t at before p q = (p.0 ∙ sym q.0, p.1 ∙ sym q.1)

-- what is not put leaves the slice as it was
pub put_leaves : (t : Text) (at : ℕ) (before after : List ℕ) → PutPromise t at before false after → after ≡ before
put_leaves t at before after p = p.1 ∙ put_none t at before (sym p.0)

same_slice : {a b : ℕ} {left right : List ℕ} → slice left a ≡ slice right b → (a ≡ b) × (left ≡ right)
same_slice e = (ap (λ (t : Text). t.len) e, ap (λ (t : Text). t.bytes) e)

pub one_byte_to : (before : List ℕ) (at byte : ℕ) {a b : ℕ} {left right : List ℕ} → ByteToPromise before at byte a left → ByteToPromise before at byte b right
    → (a ≡ b) × (left ≡ right)
one_byte_to before at byte p q = same_slice (p ∙ sym q)

pub one_bytes_to : (before : List ℕ) (at : ℕ) (bytes : List ℕ) {a b : ℕ} {left right : List ℕ} → BytesToPromise before at bytes a left → BytesToPromise before at bytes b right
    → (a ≡ b) × (left ≡ right)
one_bytes_to before at bytes p q = same_slice (p ∙ sym q)

pub one_decimal_to : (before : List ℕ) (at width : ℕ) (x : ℤ) {a b : ℕ} {left right : List ℕ} → DecimalToPromise before at width x a left
    → DecimalToPromise before at width x b right → (a ≡ b) × (left ≡ right)
one_decimal_to before at width x p q = same_slice (p ∙ sym q)

pub one_length_to : (bytes : List ℕ) (stop : ℕ) {a b : ℕ} → LengthToPromise bytes stop a → LengthToPromise bytes stop b → a ≡ b
one_length_to bytes stop p q = p ∙ sym q
