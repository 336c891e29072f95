-- Two answers that meet a promise are equal, and so is every byte of the slice.
use Rattle.std.proofs.Common.{Option}
use Prim.Native.Nat.{ℕ}
use mathlib.Core.Path.{◌≡◌, sym, ◌∙◌, ap, ap₂}
use mathlib.Core.List.{List}
use Rattle.wire.specs.declared.refusal.Refusal.{Refusal}
use Rattle.wire.proofs.Numbered.{if_apart}
use Rattle.driver.specs.declared.Driven as drivings
use Rattle.driver.specs.Promises.{Driven, Whole, whole, driven_in, FreshPromise, FeedPromise, FinishPromise}
use Rattle.driver.specs.declared.Driver.{Driver}

parts : {a b : Driven} {left right : List ℕ} → whole a left ≡ whole b right → (a ≡ b) × (left ≡ right)
parts e = (ap (λ (w : Whole). w.driven) e, ap (λ (w : Whole). w.out) e)

pub one_fresh : {a b : Driver} → FreshPromise a → FreshPromise b → a ≡ b
one_fresh p q = p ∙ sym q

pub one_feed : (m : Driver) (input before : List ℕ) {a b : Driven} {left right : List ℕ} → FeedPromise m input before a left → FeedPromise m input before b right
    → (a ≡ b) × (left ≡ right)
one_feed m input before p q = parts (p ∙ sym q)

pub one_finish : (m : Driver) (before : List ℕ) {a b : Driven} {left right : List ℕ} → FinishPromise m before a left → FinishPromise m before b right
    → (a ≡ b) × (left ≡ right)
one_finish m before p q = parts (p ∙ sym q)

-- What `feed` and `finish` give is told apart by what their promises read of it: so that is one, too.
pub driven_apart : (a b : drivings.Driven) → driven_in a ≡ driven_in b → a ≡ b
driven_apart a b e =
    let given : Driven → Option Refusal → drivings.Driven = λ t why. record { refusal = why; next = t.next; taken = t.taken; written = t.written; ended = t.ended } in
    ap₂ given e (if_apart a.refusal b.refusal (ap (λ (t : Driven). t.refusal) e))
