-- Lines in a slice: one more, none, and some behind others.
use Prim.Native.Nat.{ℕ, ◌+◌, ◌<◌, ◌≤◌}
use mathlib.Core.Path.{◌≡◌, refl, sym, ap, ◌∙◌}
use mathlib.Core.Bool.{true, false}
use mathlib.Core.List.{List, [], ◌∷◌, ◌++◌}
use native.Mathlib.Omega.{arith}
use lib.ListN.{length, take, drop, length-append, length-drop}
use lib.Seq.{take_at, drop-drop, drop-append-add}
use lib.Dec.{leb}
use borrow.Author.Tests.{leb-true, leb-false, le-leb, lt-leb}
use Rattle.numbers.proofs.Tested.{right}
use Rattle.text.specs.Growth.{shown, fits_at, put_of}
use Rattle.text.specs.declared.Text.{Text}
use Rattle.text.proofs.Laws.{text_shows, text_long, put_none}
use Rattle.salvaged.specs.Writing.{Written, add, add_all, start}
use Rattle.salvaged.specs.Walk.{Stands, Adds, AddsText}
use Rattle.salvaged.specs.declared.Salvaged.{Salvaged}

add_append : (room : ℕ) (w : Written) (a b : List (List ℕ)) → add_all room w (a ++ b) ≡ add_all room (add_all room w a) b
unfolding add_all
add_append room w [] b = refl
add_append room w (line ∷ a) b = add_append room (add room w line) a b

-- lines behind others, and none
pub adds_both : {a b : List (List ℕ)} {told next last : Salvaged} {out after end : List ℕ} → Adds a told out next after → Adds b next after last end → Adds (a ++ b) told out last end
adds_both {a} {b} p q = record { to = λ before w s. rw (add_append (length before) w a b) (q.to before (add_all (length before) w a) (p.to before w s)) }

pub adds_none : (told : Salvaged) (out : List ℕ) → Adds [] told out told out
unfolding add_all
adds_none told out = record { to = λ before w s. s }

-- the text of an empty slice
pub begins : (before : List ℕ) → Stands before start (record { written = 0; whole = true }) before
begins before = record { is = refl; room = omega arith; wrote = refl }

-- a line more: behind one that had no room, with room, and without
module _ {before : List ℕ} {w : Written} {told : Salvaged} {out : List ℕ} (s : Stands before w told out) (line : List ℕ) where
  pub full : told.whole ≡ false → Stands before (add_all (length before) w (line ∷ [])) told out
  unfolding add_all add
  full e =
      let f : w.whole ≡ false = sym (ap (λ (t : Salvaged). t.whole) s.is) ∙ e in
      rw f (record { is = s.is ∙ rw f; room = s.room; wrote = s.wrote })

  module _ (goes : told.whole ≡ true) where
    going : w.whole ≡ true
    going = sym (ap (λ (t : Salvaged). t.whole) s.is) ∙ goes

    used : told.written ≡ length w.text
    used = ap (λ (t : Salvaged). t.written) s.is

    long : length out ≡ length before
    long = ap length s.wrote ∙ length-append w.text (drop (length w.text) before) ∙ omega (arith, s.room, length-drop (length w.text) before)

    -- the slice then
    kept : let out = w.text ++ drop (length w.text) before in
        take (length w.text) out ++ line ++ drop (length w.text + length line) out ≡ w.text ++ line ++ drop (length (w.text ++ line)) before
    kept =
        let text = w.text in
        rw (take_at text (drop (length text) before) (length text) refl, drop-append-add text (drop (length text) before) (length line), drop-drop (length line) (length text) before, ← length-append text line)

    pub fitting : told.written + length line ≤ length out
        → Stands before (add_all (length before) w (line ∷ [])) (record { written = told.written + length line; whole = true })
        (take told.written out ++ line ++ drop (told.written + length line) out)
    unfolding add_all add
    fitting h =
        let text = w.text in
        let room : length text + length line ≤ length before = omega (arith, used, long) in
        let more : told.written + length line ≡ length (text ++ line) = omega (arith, used, length-append text line) in
        rw (going, le-leb (length text + length line) (length before) room)
        (record { is = rw more; room = omega (arith, length-append text line); wrote = rw (used, s.wrote) kept })

    pub unfit : length out < told.written + length line → Stands before (add_all (length before) w (line ∷ [])) (record { written = told.written; whole = false }) out
    unfolding add_all add
    unfit h =
        let room : length before < length w.text + length line = omega (arith, used, long) in
        rw (going, lt-leb (length w.text + length line) (length before) room) (record { is = rw used; room = s.room; wrote = s.wrote })

-- the text of a line: behind one that had no room, put, and not put
module _ (told : Salvaged) (out : List ℕ) where
  pub text_behind : (t : Text) → told.whole ≡ false → AddsText t told out told out
  text_behind t e line z few = record { to = λ before w s. full s line e }

  module _ (goes : told.whole ≡ true) where
    pub text_put : (t : Text) → fits_at t told.written out ≡ true → AddsText t told out (record { written = told.written + t.len; whole = true }) (put_of t told.written out)
    unfolding put_of
    text_put t f line z few =
        let long : t.len ≡ length line = ap (λ (x : Text). x.len) z ∙ text_long line few in
        let bytes : shown t ≡ line = ap shown z ∙ text_shows line few in
        let room = leb-true (told.written + t.len) (length out) (right (leb t.len 40) (leb (told.written + t.len) (length out)) f) in
        rw (f, bytes, long) (record { to = λ before w s. fitting s line goes (omega arith) })

    pub text_unput : (t : Text) → fits_at t told.written out ≡ false → AddsText t told out (record { written = told.written; whole = false }) (put_of t told.written out)
    text_unput t f line z few =
        let long : t.len ≡ length line = ap (λ (x : Text). x.len) z ∙ text_long line few in
        let g : leb t.len 40 ≡ true = le-leb t.len 40 (omega arith) in
        let none : leb (told.written + t.len) (length out) ≡ false = rw g at f in
        rw (put_none t told.written out f)
        (record { to = λ before w s. unfit s line goes (omega (arith, leb-false (told.written + t.len) (length out) none)) })
