-- Slices that are filled from a place on.
use mathlib.Core.Path.{◌≡◌, refl, sym, ◌∙◌, ap}
use mathlib.Core.Bool.{Bool, true, false}
use mathlib.Core.List.{List, [], ◌∷◌, ◌++◌}
use Prim.Native.Nat.{ℕ, suc, ◌+◌, ◌<◌, ◌≤◌}
use native.Mathlib.Omega.{arith}
use native.Mathlib.Nat.{add-zero}
use native.Mathlib.Numerals.{add-one}
use lib.Dec.{ltb, leb}
use lib.ListN.{length, length-set, set, take, drop}
use lib.Seq.{set_comm, set_out, sets, sets-eq}
use borrow.Author.Tests.{le-leb, lt-leb, leb-true, ltb-true, ltb-false}
use Rattle.numbers.proofs.Choices.{cases}
use Rattle.text.specs.Growth.{grown, grown_by, slice, filled, filled_by}
use Rattle.text.specs.declared.Text.{Text}

-- one after the other
pub both_filled : (t : Text) (a b : List ℕ) → filled_by (filled_by t a) b ≡ filled_by t (a ++ b)
both_filled t [] b = refl
both_filled t (c ∷ a) b = both_filled (filled t c) a b

-- where there is a place, and where there is none
pub fills : (t : Text) (b : ℕ) → t.len < length t.bytes → filled t b ≡ slice (set t.bytes t.len b) (t.len + 1)
unfolding filled
fills t b h = rw (lt-leb (length t.bytes) t.len h)

pub is_full : (t : Text) (b : ℕ) → length t.bytes ≤ t.len → filled t b ≡ t
unfolding filled
is_full t b h = rw (le-leb (length t.bytes) t.len h)

pub all_full : (l : List ℕ) (t : Text) → length t.bytes ≤ t.len → filled_by t l ≡ t
all_full [] t h = refl
all_full (b ∷ l) t h = ap (λ (s : Text). filled_by s l) (is_full t b h) ∙ all_full l t h

-- as many places as before
filled_long : (t : Text) (b : ℕ) → length (filled t b).bytes ≡ length t.bytes
unfolding filled
filled_long t b = cases (λ (s : Text). length s.bytes ≡ length t.bytes) (leb (length t.bytes) t.len) (λ _. refl) (λ _. length-set t.bytes t.len b)

-- a text is a slice of forty
pub filled_text : (l : List ℕ) (t : Text) → length t.bytes ≡ 40 → filled_by t l ≡ grown_by t l
unfolding filled grown
filled_text [] t h = refl
filled_text (b ∷ l) t h =
    let one : filled t b ≡ grown t b = rw h in
    filled_text l (filled t b) (filled_long t b ∙ h) ∙ ap (λ (s : Text). grown_by s l) one

-- the bytes, where they lie
sets_out : (vs l : List ℕ) (i : ℕ) → length l ≤ i → sets l i vs ≡ l
sets_out [] l i h = refl
sets_out (a ∷ vs) l i h = rw (set_out l i a h) (sets_out vs l (suc i) (omega arith))

pub filled_bytes : (l : List ℕ) (t : Text) → (filled_by t l).bytes ≡ sets t.bytes t.len l
unfolding filled
filled_bytes [] t = refl
filled_bytes (b ∷ l) t =
    let n = length t.bytes in
    filled_bytes l (filled t b)
    ∙ cases (λ (s : Text). sets s.bytes s.len l ≡ sets (set t.bytes t.len b) (suc t.len) l) (leb n t.len)
    (λ e. rw (set_out t.bytes t.len b (leb-true _ _ e)) (sets_out l t.bytes t.len (leb-true _ _ e) ∙ sym (sets_out l t.bytes (suc t.len) (omega (arith, leb-true n t.len e)))))
    (λ e. rw add-one)

-- the place behind them
pub filled_len : (l : List ℕ) (t : Text) → t.len + length l ≤ length t.bytes → (filled_by t l).len ≡ t.len + length l
filled_len [] t h = omega arith
filled_len (b ∷ l) t h =
    let k : t.len < length t.bytes = omega arith in
    let t' = slice (set t.bytes t.len b) (t.len + 1) in
    ap (λ (s : Text). (filled_by s l).len) (fills t b k) ∙ filled_len l t' (omega (arith, length-set t.bytes t.len b)) ∙ omega arith

pub filled_end : (l : List ℕ) (t : Text) → t.len ≤ length t.bytes → length t.bytes ≤ t.len + length l → (filled_by t l).len ≡ length t.bytes
filled_end [] t h k = omega arith
filled_end (b ∷ l) t h k = go (filled_end l) (ltb t.len (length t.bytes)) refl
  where
    go : ((t : Text) → t.len ≤ length t.bytes → length t.bytes ≤ t.len + length l → (filled_by t l).len ≡ length t.bytes)
        → (u : Bool) → ltb t.len (length t.bytes) ≡ u → (filled_by t (b ∷ l)).len ≡ length t.bytes
    go ih true e =
        let t' = slice (set t.bytes t.len b) (t.len + 1) in
        let same = length-set t.bytes t.len b in
        ap (λ (s : Text). (filled_by s l).len) (fills t b (ltb-true _ _ e)) ∙ ih t' (omega (arith, same, ltb-true t.len (length t.bytes) e)) (omega (arith, same)) ∙ same
    go ih false e = let full = ltb-false t.len (length t.bytes) e in ap (λ (s : Text). s.len) (all_full (b ∷ l) t full) ∙ omega arith

-- both, and all of them
pub filled_is : (l : List ℕ) (t : Text) (out : List ℕ) (n : ℕ) → out ≡ sets t.bytes t.len l → n ≡ (filled_by t l).len → slice out n ≡ filled_by t l
filled_is l t out n e f = ap (λ (o : List ℕ). slice o n) (e ∙ sym (filled_bytes l t)) ∙ ap (slice (filled_by t l).bytes) f

pub filled_all : (l : List ℕ) (t : Text) → t.len + length l ≤ length t.bytes
    → filled_by t l ≡ slice (take t.len t.bytes ++ l ++ drop (t.len + length l) t.bytes) (t.len + length l)
filled_all l t h = sym (filled_is l t _ _ (sym (sets-eq l t.bytes t.len h)) (sym (filled_len l t h)))

-- the last of them first
pub last_first : (ds l : List ℕ) (i d : ℕ) → sets l i (ds ++ d ∷ []) ≡ sets (set l (i + length ds) d) i ds
last_first [] l i d = rw (add-zero i)
last_first (a ∷ ds) l i d =
    let j : suc i + length ds ≡ i + suc (length ds) = omega arith in
    last_first ds (set l i a) (suc i) d ∙ ap (λ (m : List ℕ). sets m (suc i) ds) (rw j (set_comm l i (i + suc (length ds)) a d (λ e. omega arith)))
