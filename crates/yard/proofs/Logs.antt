-- A log, word by word.
use Prim.Native.Nat.{ℕ, zero, suc, ◌+◌, ◌<◌, ◌≤◌}
use mathlib.Core.Path.{◌≡◌, refl, sym, ap, ◌∙◌}
use mathlib.Core.Bool.{Bool, true, false, cond}
use mathlib.Core.List.{List, [], ◌∷◌}
use native.Mathlib.Omega.{arith}
use native.Mathlib.Nat.{add-zero}
use lib.ListN.{length, take}
use lib.Dec.{eqb, leb}
use borrow.Author.Tests.{eqb-true}
use Rattle.numbers.specs.Bits.{value}
use Rattle.numbers.proofs.Tested.{holds}
use Rattle.frames.specs.Words.{silence, line_words}
use Rattle.wire.specs.Numbers.{success, bad_word}
use Rattle.yard.specs.State.{over}
use Rattle.std.proofs.Common.{Err}
use Rattle.wire.specs.Refusals.{number_of}
use Rattle.wire.specs.declared.refusal.Refusal.{Refusal}
use Rattle.wire.proofs.Numbered.{never_success}
use Rattle.yard.specs.declared.Judged.{Judged}
use Rattle.yard.specs.Rules.{can, cannot, sent, told, word_of}
use Rattle.yard.specs.Log.{sendable, judgement, passes, refused, checked_of}
use Rattle.yard.specs.declared.Yard.{Yard}
use Rattle.yard.specs.declared.Checked.{Checked}
use Rattle.yard.proofs.Keeps.{by_word}

-- behind a word that cannot be sent none can
ends : (y : Yard) (w : ℕ) → leb w silence ≡ true → sent (word_of y w) ≡ false → ((word_of y w).can ≡ 0) × ((word_of y w).next ≡ over y.format)
ends y w l =
    by_word (λ j. sent j ≡ false → (j.can ≡ 0) × (j.next ≡ over y.format)) y w (λ b. absurd (holds (sym b ∙ l))) (λ _ _. (refl, refl)) (λ _ e. absurd (holds (sym e))) (λ _ _ _ e. absurd (holds (sym e)))

-- a word counts one or none
pub can_small : (y : Yard) (w : ℕ) → (word_of y w).can ≤ 1
can_small y w = by_word (λ j. j.can ≤ 1) y w (λ _. omega arith) (λ _. omega arith) (λ _. omega arith) (λ _ _ _. omega arith)

-- a word is refused where it is above 257
pub is_word : (y : Yard) (w : ℕ) → (word_of y w).refusal ≡ success → leb w silence ≡ true
is_word y w = by_word (λ j. j.refusal ≡ success → leb w silence ≡ true) y w (λ b e. absurd (omega arith)) (λ l _. l) (λ l _. l) (λ l _ _ _. l)

pub no_word : (y : Yard) (w : ℕ) → ((word_of y w).refusal ≡ success → ⊥) → leb w silence ≡ false
no_word y w = by_word (λ j. (j.refusal ≡ success → ⊥) → leb w silence ≡ false) y w (λ b _. b) (λ _ e. absurd (e refl)) (λ _ e. absurd (e refl)) (λ _ _ _ e. absurd (e refl))

-- a word that is refused is so with 4
above_257 : (y : Yard) (w : ℕ) → leb w silence ≡ false → (word_of y w).refusal ≡ bad_word
unfolding word_of
above_257 y w l = rw l

pub only_bad_word : (y : Yard) (w : ℕ) (r : Refusal) → told y (Err r) ≡ word_of y w → (leb w silence ≡ false) × (number_of r ≡ bad_word)
only_bad_word y w r e =
    let n : number_of r ≡ (word_of y w).refusal = ap (λ (j : Judged). j.refusal) e in
    let bad = no_word y w (λ z. never_success r (n ∙ z)) in
    (bad, n ∙ above_257 y w bad)

pub over_none : (letter : ℕ) (words : List ℕ) → sendable (over letter) words ≡ 0
unfolding sendable word_of
over_none letter [] = refl
over_none letter (w ∷ words) = go (leb w silence) refl
  where
    go : (t : Bool) → leb w silence ≡ t → sendable (over letter) (w ∷ words) ≡ 0
    go true e = rw e
    go false e = rw e

-- one word, and then the rest
pub one_word : (y : Yard) (w : ℕ) (words : List ℕ) → leb w silence ≡ true → sendable y (w ∷ words) ≡ (word_of y w).can + sendable (word_of y w).next words
unfolding sendable
one_word y w words l = go (sent (word_of y w)) refl
  where
    go : (t : Bool) → sent (word_of y w) ≡ t → sendable y (w ∷ words) ≡ (word_of y w).can + sendable (word_of y w).next words
    go true e = rw (e, eqb-true (word_of y w).can 1 e) (omega arith)
    go false e = let n = ends y w l e in rw (e, n.0, n.1, over_none y.format words)

-- it says yes where all can be sent
pub judged_passes : (place count : ℕ) → passes (judgement place count) ≡ eqb place count
judged_passes place count = go (eqb place count)
  where
    go : (t : Bool) → eqb (value t) 1 ≡ t
    go true = refl
    go false = refl

-- what is told of a log of so many words, of which so many could be sent before these
abbrev pub rest : Yard → ℕ → ℕ → List ℕ → Checked
rest y before count words = cond (line_words words) (judgement (before + sendable y words) count) (refused bad_word)

pub rest_start : (y : Yard) (words : List ℕ) → checked_of y words ≡ rest y 0 (length words) words
unfolding checked_of
rest_start y words = let a : 0 + sendable y words ≡ sendable y words = omega arith in rw a

pub rest_bad : (y : Yard) (before count w : ℕ) (words : List ℕ) → leb w silence ≡ false → rest y before count (w ∷ words) ≡ refused bad_word
unfolding line_words
rest_bad y before count w words l = rw l

pub rest_step : (y : Yard) (before count w : ℕ) (words : List ℕ) → leb w silence ≡ true → rest y before count (w ∷ words) ≡ rest (word_of y w).next (before + (word_of y w).can) count words
unfolding line_words
rest_step y before count w words l =
    let a : before + sendable y (w ∷ words) ≡ before + (word_of y w).can + sendable (word_of y w).next words = omega (arith, one_word y w words l) in
    rw (l, a)

-- a word that can be sent, and one that cannot
pub rest_can : (y next : Yard) (before count w : ℕ) (words : List ℕ) → can next ≡ word_of y w → rest y before count (w ∷ words) ≡ rest next (before + 1) count words
rest_can y next before count w words e =
    let l = is_word y w (sym (ap (λ (j : Judged). j.refusal) e)) in
    rest_step y before count w words l ∙ rw (← e)

pub rest_cannot : (y : Yard) (before count w : ℕ) (words : List ℕ) → cannot y.format ≡ word_of y w → rest y before count (w ∷ words) ≡ rest (over y.format) before count words
rest_cannot y before count w words e =
    let l = is_word y w (sym (ap (λ (j : Judged). j.refusal) e)) in
    rest_step y before count w words l ∙ rw (← e, add-zero before)

pub rest_end : (y : Yard) (before count : ℕ) → rest y before count [] ≡ judgement before count
unfolding line_words sendable
rest_end y before count = let a : before + 0 ≡ before = omega arith in rw a

-- of the first words of a log as many can be sent, if so many can be sent at all
pub sendable_front : (y : Yard) (n : ℕ) (words : List ℕ) → n ≤ sendable y words → sendable y (take n words) ≡ n
unfolding sendable
sendable_front y zero words h = refl
sendable_front y (suc n) [] h = absurd (omega arith)
sendable_front y (suc n) (w ∷ words) h = go (sent (word_of y w)) refl (sendable_front (word_of y w).next n words)
  where
    go : (t : Bool) → sent (word_of y w) ≡ t → (n ≤ sendable (word_of y w).next words → sendable (word_of y w).next (take n words) ≡ n) → sendable y (take (suc n) (w ∷ words)) ≡ suc n
    go true e r = let q : suc n ≤ suc (sendable (word_of y w).next words) = rw e at h in rw e (ap suc (r (omega arith)))
    go false e r = let q : suc n ≤ 0 = rw e at h in absurd (omega arith)

-- and with the first that cannot be sent, or more, no more than before
pub sendable_beyond : (y : Yard) (n : ℕ) (words : List ℕ) → sendable y words < n → sendable y (take n words) ≡ sendable y words
unfolding sendable
sendable_beyond y zero words h = absurd (omega arith)
sendable_beyond y (suc n) [] h = refl
sendable_beyond y (suc n) (w ∷ words) h = go (sent (word_of y w)) refl (sendable_beyond (word_of y w).next n words)
  where
    go : (t : Bool) → sent (word_of y w) ≡ t → (sendable (word_of y w).next words < n → sendable (word_of y w).next (take n words) ≡ sendable (word_of y w).next words) → sendable y (take (suc n) (w ∷ words)) ≡ sendable y (w ∷ words)
    go true e r = let q : suc (sendable (word_of y w).next words) < suc n = rw e at h in rw e (ap suc (r (omega arith)))
    go false e r = rw e

pub sendable_most : (y : Yard) (words : List ℕ) → sendable y words ≤ length words
unfolding sendable
sendable_most y [] = omega arith
sendable_most y (w ∷ words) = go (sent (word_of y w)) refl (sendable_most (word_of y w).next words)
  where
    go : (t : Bool) → sent (word_of y w) ≡ t → sendable (word_of y w).next words ≤ length words → sendable y (w ∷ words) ≤ suc (length words)
    go true e r = rw e (omega arith)
    go false e r = rw e (omega arith)
