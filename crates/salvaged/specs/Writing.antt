-- Lines to a lent slice, one after the other, up to the first that has no room.
use Rattle.std.specs.Prelude.{ℕ, ◌+◌, Bool, true, false, cond, List, [], ◌∷◌, ◌++◌, length, leb}

-- the text so far, and whether every line had room
pub record Written : Type 0 where
  pub text : List ℕ
  pub whole : Bool

abbrev pub written : List ℕ → Bool → Written
written text whole = record { text = text; whole = whole }

-- a line more, with so many places in all
unfoldable pub add : ℕ → Written → List ℕ → Written
add room t line =
    cond t.whole (cond (leb (length t.text + length line) room) (written (t.text ++ line) true) (written t.text false))
    (written t.text false)

unfoldable pub add_all : ℕ → Written → List (List ℕ) → Written
add_all room t [] = t
add_all room t (line ∷ lines) = add_all room (add room t line) lines

abbrev pub start : Written
start = written [] true
