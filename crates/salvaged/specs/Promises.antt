-- What the public function promises: for every argument one answer, and every byte of the slice.
use Rattle.std.specs.Prelude.{ℕ, ◌≡◌, List, ◌++◌, length, drop}
use Rattle.salvaged.specs.Log.{log_of}
use Rattle.salvaged.specs.Items.{items_of}
use Rattle.salvaged.specs.Writing.{Written, start, add_all}
use Rattle.salvaged.specs.Listing.{lines_of}
use Rattle.salvaged.specs.declared.Salvaged.{Salvaged}

-- what is told, and every byte of the lent slice
pub record Whole : Type 0 where
  pub salvaged : Salvaged
  pub out : List ℕ

abbrev pub whole : Salvaged → List ℕ → Whole
whole s out = record { salvaged = s; out = out }

-- the text at the front of the slice, and nothing behind it
abbrev pub told : Written → List ℕ → Whole
told w before = whole (record { written = length w.text; whole = w.whole }) (w.text ++ drop (length w.text) before)

-- `list(input, out)`
unfoldable pub list_of : List ℕ → List ℕ → Whole
list_of input before = told (add_all (length before) start (lines_of (items_of (log_of input)))) before

abbrev pub ListPromise : List ℕ → List ℕ → Salvaged → List ℕ → Type 0
ListPromise input before answer after = whole answer after ≡ list_of input before
