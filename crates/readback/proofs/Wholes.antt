-- Whole lines in front of more bytes: they are cut off as they were, and what they gave comes in front.
use Prim.Native.Nat.{ℕ, zero, suc, ◌<◌, ◌≤◌}
use mathlib.Core.Path.{◌≡◌, refl, sym, ◌∙◌, ap}
use mathlib.Core.Bool.{Bool, true, false}
use mathlib.Core.List.{List, [], ◌∷◌, ◌++◌, append_assoc}
use native.Mathlib.Omega.{arith}
use lib.Dec.{eqb}
use lib.ListN.{length, take, length-append}
use lib.Seq.{take-add, take_at, drop_at}
use borrow.Author.Tests.{ltb-true, lt-ltb}
use Rattle.numbers.proofs.Choices.{cases}
use Rattle.fold.specs.Fold.{MachineOver, run}
use Rattle.fold.proofs.Laws.{over_taken}
use Rattle.text.specs.Lengths.{length_to}
use Rattle.listing.specs.Lines.{newline, front}
use Rattle.listing.specs.declared.Item.{Item}
use Rattle.readback.specs.Pieces.{cut_in, bytes_in, is_whole, cut_off, handed, lines_of}
use Rattle.readback.specs.Whole.{Reading, reading}
use Rattle.readback.specs.declared.Readback.{Readback}
use Rattle.readback.proofs.Cuts.{bytes_cut}
use Rattle.readback.proofs.Again.{Tidy, cut_tidy}

-- lines that are whole, and have no newline but their last byte
abbrev pub Wholes : List (List ℕ) → Type 0
Wholes [] = Unit {0}
Wholes (l ∷ ls) = (is_whole l ≡ true) × (length l ≤ suc (length_to newline l)) × Wholes ls

pub cut_whole : (l rest : List ℕ) → is_whole l ≡ true → length l ≤ suc (length_to newline l) → cut_in (l ++ rest) ≡ l ∷ cut_in rest
unfolding cut_in
cut_whole [] rest h k = absurd (omega (arith, ltb-true 0 0 h))
cut_whole (c ∷ l) rest h k = go (eqb c newline) refl (cut_whole l rest) l refl
  where
    go : (t : Bool) → eqb c newline ≡ t → (is_whole l ≡ true → length l ≤ suc (length_to newline l) → cut_in (l ++ rest) ≡ l ∷ cut_in rest) → (m : List ℕ) → l ≡ m → cut_in (c ∷ l ++ rest) ≡ (c ∷ l) ∷ cut_in rest
    go true e ih [] em = rw (e, em)
    go true e ih (d ∷ m) em = absurd (omega (arith, rw e at k, ap length em))
    go false e ih m em =
        let there : suc (length_to newline l) < suc (length l) = ltb-true (suc (length_to newline l)) (suc (length l)) (rw e at h) in
        let few : suc (length l) ≤ suc (suc (length_to newline l)) = rw e at k in
        rw e (ap (front c) (ih (lt-ltb (length_to newline l) (length l) (omega arith)) (omega arith)))

pub cut_wholes : (ls : List (List ℕ)) (rest : List ℕ) → Wholes ls → cut_in (bytes_in ls ++ rest) ≡ ls ++ cut_in rest
cut_wholes [] rest h = refl
cut_wholes (l ∷ ls) rest h =
    ap cut_in (append_assoc l (bytes_in ls) rest) ∙ cut_whole l (bytes_in ls ++ rest) h.0 h.1 ∙ ap (λ (k : List (List ℕ)). l ∷ k) (cut_wholes ls rest h.2)

handed_wholes : (ls more : List (List ℕ)) → Wholes ls → handed (ls ++ more) ≡ ls ++ handed more
handed_wholes [] more h = refl
handed_wholes (l ∷ ls) more h = rw h.0 (ap (λ (k : List (List ℕ)). l ∷ k) (handed_wholes ls more h.2))

pub lines_wholes : (ls : List (List ℕ)) (rest : List ℕ) → Wholes ls → lines_of (bytes_in ls ++ rest) ≡ ls ++ lines_of rest
unfolding lines_of
lines_wholes ls rest h = ap handed (cut_wholes ls rest h) ∙ handed_wholes ls (cut_in rest) h

-- the lines handed over stand at the front of the piece
front_of : (ls : List (List ℕ)) (k : ℕ) → take (length (bytes_in (take k (handed ls)))) (bytes_in ls) ≡ bytes_in (take k (handed ls))
front_of ls zero = refl
front_of [] (suc k) = refl
front_of (l ∷ ls) (suc k) = go (cut_off l) refl (front_of ls k)
  where
    go : (t : Bool) → cut_off l ≡ t → take (length (bytes_in (take k (handed ls)))) (bytes_in ls) ≡ bytes_in (take k (handed ls))
        → take (length (bytes_in (take (suc k) (handed (l ∷ ls))))) (l ++ bytes_in ls) ≡ bytes_in (take (suc k) (handed (l ∷ ls)))
    go true e ih = rw e
    go false e ih =
        let x = bytes_in (take k (handed ls)) in
        rw (e, length-append l x, take-add (length l) (length x) (l ++ bytes_in ls), take_at l (bytes_in ls) (length l) refl, drop_at l (bytes_in ls) (length l) refl, ih)

tidy_handed : (ls : List (List ℕ)) → Tidy ls → Tidy (handed ls)
tidy_handed [] h = tt
tidy_handed (l ∷ ls) h = cases Tidy (cut_off l) (λ _. tt) (λ _. (h.0, tidy_handed ls h.1))

tidy_take : (ls : List (List ℕ)) (k : ℕ) → Tidy ls → Tidy (take k ls)
tidy_take ls zero h = tt
tidy_take [] (suc k) h = tt
tidy_take (l ∷ ls) (suc k) h = (h.0, tidy_take ls k h.1)

-- so many lines stand at the front of the piece; and those that a machine took are whole, if it refuses all others
pub lines_front : (piece : List ℕ) (k : ℕ) → take (length (bytes_in (take k (lines_of piece)))) piece ≡ bytes_in (take k (lines_of piece))
unfolding lines_of
lines_front piece k = ap (take (length (bytes_in (take k (lines_of piece))))) (sym (bytes_cut piece)) ∙ front_of (cut_in piece) k

pub lines_whole : {A X : Type 0} (m : MachineOver (List ℕ) Readback A X) → ((r : Readback) (l : List ℕ) → m.refusal r l ≡ 0 → is_whole l ≡ true)
    → (r : Readback) (piece : List ℕ) (room : ℕ) → Wholes (take (length (run m r (lines_of piece) room).answers) (lines_of piece))
unfolding lines_of
lines_whole m whole r piece room =
    over_taken m (λ r ls answers next. Tidy ls → Wholes ls) (λ r h. tt) (λ r l ls answers next z ih h. (whole r l z, h.0, ih h.1)) (lines_of piece) r room
    (tidy_take (lines_of piece) (length (run m r (lines_of piece) room).answers) (tidy_handed (cut_in piece) (cut_tidy piece)))

-- what lines gave in front of what the rest says
abbrev pub before : List Item → Reading → Reading
before is k = reading k.salvage (is ++ k.items) k.fault
