-- What a reader of listings refuses: 6 for one that breaks its rules, which is handed back with an unchanged slice, and 7 for a faulty line, which leaves all as it
-- stands before that line; a good one is refused for nothing else, and no other is ever made.
use Prim.Native.Nat.{ℕ, ◌+◌}
use mathlib.Core.Path.{◌≡◌, refl, sym, ◌∙◌, ap, subst}
use mathlib.Core.Bool.{true, false, ◌&&◌}
use mathlib.Core.Logic.{◌⊎◌, inl, inr, ⊎_elim}
use mathlib.Core.List.Memᴰ
use mathlib.Core.List.{List, [], ◌∷◌}
use lib.Dec.{eqb}
use lib.IntN.{ℤ}
use lib.ListN.{length, take}
use Rattle.numbers.proofs.Choices.{cases}
use Rattle.wire.specs.Numbers.{success, RefusesRightly, accepted, refusal}
use Rattle.readback.specs.Steps.{good, has_ended}
use Rattle.readback.specs.Pieces.{faulty_line, lines_of, back, whole, faultless, read_lines}
use Rattle.readback.specs.Promises.{refused, finish_of, FreshPromise, ReadPromise, FinishPromise}
use Rattle.readback.specs.declared.Readback.{Readback}
use Rattle.readback.specs.declared.Back.{Back}
use Rattle.readback.proofs.Goodness as goodness
use Rattle.readback.proofs.Calls.{reads_lawful, number_of}
use Rattle.readback.proofs.OverLines as over_lines
use Rattle.readback.proofs.OverLines.{refusal_is}

pub bad_state_read : (r : Readback) (piece : List ℕ) (before after : List ℤ) (a : Back) → good r ≡ false → ReadPromise r piece before a after → whole a after ≡ whole (refused r) before
bad_state_read r piece before after a = over_lines.bad_state_lem read_lines r piece before

pub bad_state_finish : (r : Readback) (left : ℕ) (a : Back) → good r ≡ false → FinishPromise r left a → a ≡ refused r
unfolding finish_of
bad_state_finish r left a g p = rw g at p

-- a good reader
pub good_read : (r : Readback) (piece : List ℕ) (before after : List ℤ) (a : Back) → good r ≡ true → ReadPromise r piece before a after → (a.refusal ≡ success) ⊎ (a.refusal ≡ faulty_line)
good_read r piece before after a g p =
    let e = refusal_is read_lines reads_lawful r piece before g p in
    ⊎_elim (λ z. inl (e ∙ z)) (λ seven. inr (e ∙ seven)) (number_of (lines_of piece) r (length before))

pub good_finish : (r : Readback) (left : ℕ) (a : Back) → good r ≡ true → FinishPromise r left a → (a.refusal ≡ success) ⊎ (a.refusal ≡ faulty_line)
unfolding finish_of
good_finish r left a g p =
    let P : Back → Type 0 = λ b. (b.refusal ≡ success) ⊎ (b.refusal ≡ faulty_line) in
    rw (rw g at p) (cases P (has_ended r && eqb left 0) (λ _. inl refl) (λ _. inr refl))

pub fresh_is_good : (r : Readback) → FreshPromise r → good r ≡ true
fresh_is_good r p = ap good p ∙ goodness.fresh_is_good

pub finish_stays_good : (r : Readback) (left : ℕ) (a : Back) → good r ≡ true → FinishPromise r left a → good a.next ≡ true
unfolding finish_of
finish_stays_good r left a g p =
    rw (rw g at p) (cases (λ (b : Back). good b.next ≡ true) (has_ended r && eqb left 0) (λ _. g) (λ _. g))

-- an end that is missing leaves the reader as it was, with counts of 0
pub finish_refusals : (r : Readback) (left : ℕ) (a : Back) → FinishPromise r left a → RefusesRightly (λ (b : Back). b.refusal) (refused r ∷ back faulty_line r 0 0 (r.lines + 1) ∷ []) a
unfolding finish_of
finish_refusals r left a p =
    let P : Back → Type 0 = RefusesRightly (λ (b : Back). b.refusal) (refused r ∷ back faulty_line r 0 0 (r.lines + 1) ∷ []) in
    subst P (sym p)
    (cases P (good r) (λ _. cases P (has_ended r && eqb left 0) (λ _. accepted refl) (λ _. refusal (Memᴰ.tail (Memᴰ.head refl)))) (λ _. refusal (Memᴰ.head refl)))

-- AS IT STANDS: with a fault, a call gives what a call of the bytes taken gives, but for the number and the line
pub as_before : (r : Readback) (piece : List ℕ) (before after rest : List ℤ) (a b : Back) → good r ≡ true → ReadPromise r piece before a after → ReadPromise r (take a.taken piece) before b rest
    → whole b rest ≡ faultless (whole a after)
as_before r piece before after rest a b = over_lines.as_before read_lines reads_lawful r piece before
