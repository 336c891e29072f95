-- Whatever sends reports word by word: what each of its steps does to the line.
use Rattle.std.specs.Prelude.{ℕ, ◌+◌, cond, List, [], ◌∷◌, ◌++◌, length, eqb}
use Rattle.frames.specs.Passages.{Passage, silent, finished, broken, UnderWay, nothing, first}

-- the passages that a step ends, and what is under way then
pub record Told (K : Type 0) : Type 0 where
  pub passages : List (Passage K)
  pub going : UnderWay K

abbrev pub told : {K : Type 0} → List (Passage K) → UnderWay K → Told K
told passages going = record { passages = passages; going = going }

-- one word more has gone: of what is under way its next byte, and where nothing is a silence
abbrev pub sent_one : {K : Type 0} → (K → List ℕ) → UnderWay K → Told K
sent_one bytes nothing = told (silent ∷ []) nothing
sent_one bytes (first n k) = cond (eqb (n + 1) (length (bytes k))) (told (finished k ∷ []) nothing) (told [] (first (n + 1) k))

-- what is under way is broken off
abbrev pub broken_off : {K : Type 0} → UnderWay K → List (Passage K)
broken_off nothing = []
broken_off (first n k) = broken n k ∷ []

-- over a list of events, where next is the sender's step: the passages that they end, and what is under way after them
module _ {K B E : Type 0} (next : B → E → B) (tells : B → E → UnderWay K → Told K) where
  unfoldable pub passages_over : B → UnderWay K → List E → List (Passage K)
  passages_over b g [] = []
  passages_over b g (e ∷ events) = (tells b e g).passages ++ passages_over (next b e) (tells b e g).going events

  unfoldable pub going_over : B → UnderWay K → List E → UnderWay K
  going_over b g [] = g
  going_over b g (e ∷ events) = going_over (next b e) (tells b e g).going events
