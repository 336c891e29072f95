-- A wrong call, and how the program ends.
use Rattle.std.specs.Prelude.{ℕ, ◌≡◌, Bool, List, [], ◌∷◌, ◌++◌, take, Option, Some, None}
use Rattle.shell.specs.Outside.{Trace}
use Rattle.shell.specs.Standing.{Leaves}
use Rattle.hearing.specs.Words.{wrong_letter, wrong_tenths}
use Rattle.mrecord.specs.Recording.{speaks, mrecord}

-- "behind TENTHS ", "stands Q or nothing"
abbrev behind_tenths : List ℕ
behind_tenths = 98 ∷ 101 ∷ 104 ∷ 105 ∷ 110 ∷ 100 ∷ 32 ∷ 84 ∷ 69 ∷ 78 ∷ 84 ∷ 72 ∷ 83 ∷ 32 ∷ []

abbrev stands_q : List ℕ
stands_q = 115 ∷ 116 ∷ 97 ∷ 110 ∷ 100 ∷ 115 ∷ 32 ∷ 81 ∷ 32 ∷ 111 ∷ 114 ∷ 32 ∷ 110 ∷ 111 ∷ 116 ∷ 104 ∷ 105 ∷ 110 ∷ 103 ∷ 10 ∷ []

-- what a wrong call is told: a letter, a number of tenths or a third word is none where it is wrong
abbrev pub refusal_of : Option ℕ → Option ℕ → Option Bool → Option (List ℕ)
refusal_of None tenths begins = Some (speaks wrong_letter)
refusal_of (Some letter) None begins = Some (speaks wrong_tenths)
refusal_of (Some letter) (Some tenths) None = Some (speaks (behind_tenths ++ stands_q))
refusal_of (Some letter) (Some tenths) (Some begins) = None

-- HOW IT ENDS: the recording; or, where it was called wrongly, nothing but what is wrong, on standard error
pub record Ended (letter tenths : Option ℕ) (begins : Option Bool) (t : ℕ) (well : Bool) : Type 0 where
  pub recorded : (l n : ℕ) (b : Bool) → letter ≡ Some l → tenths ≡ Some n → begins ≡ Some b → Leaves (mrecord l n b) t well
  pub refused : (words : List ℕ) → refusal_of letter tenths begins ≡ Some words → (n : ℕ) × Trace t [] [] (take n words)
