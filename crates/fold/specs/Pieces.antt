-- Calls in pieces, one after the other, each with the state that the one before handed back and whatever answer the
-- promise permits.
use Rattle.std.specs.Prelude.{ℕ, List, [], ◌∷◌, ◌++◌, take}

-- what is promised of a call, by the state, the piece, the lent slice before, the answer and the slice after it; the
-- state that an answer hands back; and how much of the piece was taken, and of the slice written
pub record InPieces (S A X : Type 0) : Type 1 where
  pub Promise : S → List ℕ → List X → A → List X → Type 0
  pub next : A → S
  pub taken : A → ℕ
  pub written : A → ℕ

-- a call: the piece of the input, the lent slice before and after, and the answer
pub record Call (A X : Type 0) : Type 0 where
  pub piece : List ℕ
  pub before : List X
  pub answer : A
  pub after : List X

module _ {S A X : Type 0} (c : InPieces S A X) where
  -- each call has the state that came back from the one before
  abbrev pub Permitted : S → List (Call A X) → Type 0
  Permitted s [] = Unit {0}
  Permitted s (k ∷ ks) = c.Promise s k.piece k.before k.answer k.after × Permitted (c.next k.answer) ks

  -- the state after them
  abbrev pub after : S → List (Call A X) → S
  after s [] = s
  after s (k ∷ ks) = after (c.next k.answer) ks

  -- what they took of the input, and what they wrote
  abbrev pub taken_by : List (Call A X) → List ℕ
  taken_by [] = []
  taken_by (k ∷ ks) = take (c.taken k.answer) k.piece ++ taken_by ks

  abbrev pub written_by : List (Call A X) → List X
  written_by [] = []
  written_by (k ∷ ks) = take (c.written k.answer) k.after ++ written_by ks
