-- What each public function promises: for every argument one answer, and every number of the slice.
use Rattle.std.specs.Prelude.{ℕ, ◌≡◌, Bool, List, [], ◌∷◌}
use Rattle.wire.specs.Numbers.{bad_letter, bad_word, RefusesRightly}
use Rattle.salvage.specs.Picking.{starts_by, marked_format, long_log, Whole, whole, refused, pick_of}
use Rattle.salvage.specs.declared.Picked.{Picked}

-- `starts(letter, words)`
abbrev pub StartsPromise : ℕ → List ℕ → Bool → Type 0
StartsPromise letter words answer = answer ≡ starts_by letter words

-- `pick(letter, words, places)`
abbrev pub PickPromise : ℕ → List ℕ → List ℕ → Picked → List ℕ → Type 0
PickPromise letter words before answer after = whole answer after ≡ pick_of letter words before

-- the refusals: each "returns [..] counts of 0" and leaves the slice
abbrev pub unpicked : List ℕ → List Whole
unpicked before = refused bad_letter before ∷ refused marked_format before ∷ refused long_log before ∷ refused bad_word before ∷ []

abbrev pub PickRefusal : List ℕ → Whole → Type 0
PickRefusal before w = RefusesRightly (λ (x : Whole). x.picked.refusal) (unpicked before) w
