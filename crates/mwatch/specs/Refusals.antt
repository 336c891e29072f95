-- A wrong call, and how the program ends.
use Rattle.std.specs.Prelude.{ℕ, ◌≡◌, Bool, List, [], take, Option, Some, None}
use Rattle.shell.specs.Outside.{Trace}
use Rattle.shell.specs.Standing.{Leaves}
use Rattle.hearing.specs.Words.{wrong_letter, wrong_tenths}
use Rattle.mwatch.specs.Watching.{speaks, mwatch}

-- what a wrong call is told: a letter or a number of tenths is none where it is wrong
abbrev pub refusal_of : Option ℕ → Option ℕ → Option (List ℕ)
refusal_of None tenths = Some (speaks wrong_letter)
refusal_of (Some letter) None = Some (speaks wrong_tenths)
refusal_of (Some letter) (Some tenths) = None

-- HOW IT ENDS: all that was heard is told; or, where it was called wrongly, nothing but what is wrong, on standard error
pub record Ended (letter tenths : Option ℕ) (t : ℕ) (well : Bool) : Type 0 where
  pub watched : (l n : ℕ) → letter ≡ Some l → tenths ≡ Some n → Leaves (mwatch l n) t well
  pub refused : (words : List ℕ) → refusal_of letter tenths ≡ Some words → (n : ℕ) × Trace t [] [] (take n words)
