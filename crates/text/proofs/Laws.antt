-- Texts that grow.
use mathlib.Core.Path.{◌≡◌, refl, sym, ◌∙◌, ap}
use mathlib.Core.List.{List, [], ◌∷◌, ◌++◌, append-nil}
use mathlib.Core.Bool.{true, false}
use Prim.Native.Nat.{ℕ, ◌+◌, ◌<◌, ◌≤◌}
use native.Mathlib.Omega.{arith}
use native.Mathlib.Numerals.{add-one}
use lib.ListN.{length, length-set, set}
use lib.Seq.{take-suc-set, append_snoc, paste}
use Rattle.std.proofs.lemmas.List.{take-take}
use borrow.Author.Tests.{le-leb, lt-leb}
use Rattle.text.specs.Growth.{shown, none, grown, grown_by, text_of, fits_at, put_of}
use Rattle.text.specs.Promises.{PutPromise}
use Rattle.text.specs.declared.Text.{Text}

-- one growth after the other
pub both : (t : Text) (a b : List ℕ) → grown_by (grown_by t a) b ≡ grown_by t (a ++ b)
both t [] b = refl
both t (c ∷ a) b = both (grown t c) a b

-- a text with room for a byte
pub room : (t : Text) (b : ℕ) → t.len < 40 → grown t b ≡ record { bytes = set t.bytes t.len b; len = t.len + 1 }
unfolding grown
room t b h = rw (lt-leb 40 t.len h)

pub full : (t : Text) (b : ℕ) → 40 ≤ t.len → grown t b ≡ t
unfolding grown
full t b h = rw (le-leb 40 t.len h)

-- what a text shows, and how long it is
pub long : (t : Text) (l : List ℕ) → t.len + length l ≤ 40 → (grown_by t l).len ≡ t.len + length l
long t [] h = omega arith
long t (c ∷ l) h =
    let k : t.len < 40 = omega arith in
    ap (λ (s : Text). (grown_by s l).len) (room t c k) ∙ long (record { bytes = set t.bytes t.len c; len = t.len + 1 }) l (omega arith) ∙ omega arith

pub shows : (t : Text) (l : List ℕ) → length t.bytes ≡ 40 → t.len + length l ≤ 40 → shown (grown_by t l) ≡ shown t ++ l
shows t [] e h = sym (append-nil (shown t))
shows t (c ∷ l) e h =
    let k : t.len < 40 = omega arith in
    let i : t.len < length t.bytes = omega arith in
    let t' : Text = record { bytes = set t.bytes t.len c; len = t.len + 1 } in
    ap (λ (s : Text). shown (grown_by s l)) (room t c k) ∙ shows t' l (length-set t.bytes t.len c ∙ e) (omega arith)
    ∙ rw (add-one, take-suc-set t.bytes t.len c i) (append_snoc (shown t) c l)

pub text_shows : (l : List ℕ) → length l ≤ 40 → shown (text_of l) ≡ l
text_shows l h = shows none l refl (omega arith)

pub text_long : (l : List ℕ) → length l ≤ 40 → (text_of l).len ≡ length l
text_long l h = long none l (omega arith) ∙ omega arith

-- room in a slice
unfit : (t : Text) (at : ℕ) (out : List ℕ) → fits_at t at out ≡ false → PutPromise t at out false out
unfolding put_of
unfit t at out e = rw e (refl, refl)

pub too_long : (t : Text) (at : ℕ) (out : List ℕ) → 40 < t.len → PutPromise t at out false out
too_long t at out h = unfit t at out (rw (lt-leb t.len 40 h) refl)

pub no_room : (t : Text) (at : ℕ) (out : List ℕ) → t.len ≤ 40 → length out < at + t.len → PutPromise t at out false out
no_room t at out h k = unfit t at out (rw (le-leb t.len 40 h, lt-leb (at + t.len) (length out) k) refl)

pub fits : (t : Text) (at : ℕ) (out : List ℕ) → t.len ≤ 40 → at + t.len ≤ length out → fits_at t at out ≡ true
fits t at out h k = rw (le-leb t.len 40 h, le-leb (at + t.len) (length out) k) refl

pub put_is : (t : Text) (at : ℕ) (out : List ℕ) → t.len ≤ 40 → at + t.len ≤ length out → PutPromise t at out true (paste out at (shown t) t.len)
unfolding put_of
put_is t at out h k = rw (fits t at out h k, take-take t.len t.len t.bytes (omega arith)) (refl, refl)

-- a text that has no room is not put
pub put_none : (t : Text) (at : ℕ) (out : List ℕ) → fits_at t at out ≡ false → put_of t at out ≡ out
unfolding put_of
put_none t at out e = rw e
