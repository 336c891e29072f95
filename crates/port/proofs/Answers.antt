-- Each promise permits one answer, and of `bytes` every word of the lent slice with it.
use Prim.Native.Nat.{ℕ}
use mathlib.Core.Path.{◌≡◌, sym, ◌∙◌, ap}
use mathlib.Core.List.{List}
use Rattle.port.specs.Line.{Long}
use Rattle.port.specs.Promises.{FreshPromise, ClearingPromise, BytePromise, QuietPromise, LostPromise, BytesPromise}
use Rattle.port.specs.declared.Port.{Port}
use Rattle.port.specs.declared.Heard.{Heard}
use Rattle.port.specs.declared.Words.{Words}

pub one_fresh : (silence : ℕ) (a b : Port) → FreshPromise silence a → FreshPromise silence b → a ≡ b
one_fresh silence a b e f = e ∙ sym f

pub one_clearing : (silence : ℕ) (a b : Port) → ClearingPromise silence a → ClearingPromise silence b → a ≡ b
one_clearing silence a b e f = e ∙ sym f

pub one_byte : (p : Port) (byte : ℕ) (a b : Heard) → BytePromise p byte a → BytePromise p byte b → a ≡ b
one_byte p byte a b e f = e ∙ sym f

pub one_quiet : (p : Port) (wait : ℕ) (a b : Heard) → QuietPromise p wait a → QuietPromise p wait b → a ≡ b
one_quiet p wait a b e f = e ∙ sym f

pub one_lost : (p : Port) (a b : Heard) → LostPromise p a → LostPromise p b → a ≡ b
one_lost p a b e f = e ∙ sym f

pub one_bytes : (p : Port) (raw out : List ℕ) (a b : Words) (x y : List ℕ) → BytesPromise p raw out a x → BytesPromise p raw out b y
    → (a ≡ b) × (x ≡ y)
one_bytes p raw out a b x y e f =
    let s = e ∙ sym f in
    let same : a ≡ b = λ i. record { next = (s i).next; taken = (s i).taken; written = (s i).counts } in
    (same, ap (λ (l : Long). l.out) s)
