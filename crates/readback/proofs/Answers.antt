-- Two answers that meet a promise are equal, and so is every number of the slice.
use Prim.Native.Nat.{ℕ}
use mathlib.Core.Path.{◌≡◌, sym, ◌∙◌, ap}
use mathlib.Core.List.{List}
use lib.IntN.{ℤ}
use Rattle.readback.specs.Pieces.{Whole, back}
use Rattle.readback.specs.Rewriting.{rewritten}
use Rattle.readback.specs.Promises.{FreshPromise, ReadPromise, FinishPromise, RewritePromise}
use Rattle.readback.specs.declared.Readback.{Readback}
use Rattle.readback.specs.declared.Back.{Back}
use Rattle.readback.specs.declared.Rewritten.{Rewritten}

pub one_fresh : {a b : Readback} → FreshPromise a → FreshPromise b → a ≡ b
one_fresh p q = p ∙ sym q

pub one_read : (r : Readback) (input : List ℕ) (before : List ℤ) {a b : Back} {left right : List ℤ} → ReadPromise r input before a left → ReadPromise r input before b right
    → (a ≡ b) × (left ≡ right)
one_read r input before p q = (ap (λ (w : Whole ℤ). back w.refusal w.next w.taken w.count w.line) (p ∙ sym q), ap (λ (w : Whole ℤ). w.out) (p ∙ sym q))

pub one_finish : (r : Readback) (left : ℕ) {a b : Back} → FinishPromise r left a → FinishPromise r left b → a ≡ b
one_finish r left p q = p ∙ sym q

pub one_rewrite : (r : Readback) (input before : List ℕ) {a b : Rewritten} {left right : List ℕ} → RewritePromise r input before a left → RewritePromise r input before b right
    → (a ≡ b) × (left ≡ right)
one_rewrite r input before p q = (ap (λ (w : Whole ℕ). rewritten w.refusal w.next w.taken w.count w.line) (p ∙ sym q), ap (λ (w : Whole ℕ). w.out) (p ∙ sym q))
