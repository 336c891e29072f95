-- A machine that hears bytes and waits one by one, and its text in a lent slice. `rest m q` is what the machine is to write of
-- whatever it hears next, and `told m q` what the program is to tell where it ends behind that.
use Rattle.std.specs.Prelude.{ℕ, ◌*◌, ◌≤◌, ◌≡◌, List, ◌∷◌, ◌++◌, length, drop}
use Rattle.text.specs.Growth.{slice, filled_by}

module _ {M : Type 0} (rest told : M → List ℕ → List ℕ) where
  -- a byte or a wait: its text, of so many bytes at most, stands from a place on
  pub record Step (most : ℕ) (m : M) (h : ℕ) (before : List ℕ) (at : ℕ) (next : M) (after : List ℕ) (behind : ℕ) : Type 0 where
    pub text : List ℕ
    pub so : slice after behind ≡ filled_by (slice before at) text
    pub few : length text ≤ most
    pub goes : (q : List ℕ) → rest m (h ∷ q) ≡ text ++ rest next q
    pub says : (q : List ℕ) → told m (h ∷ q) ≡ told next q

  -- the first so many: their text stands from the front on
  pub record Far (most : ℕ) (m : M) (heard before : List ℕ) (i : ℕ) (next : M) (after : List ℕ) (behind : ℕ) : Type 0 where
    pub text : List ℕ
    pub so : slice after behind ≡ filled_by (slice before 0) text
    pub few : length text ≤ most * i
    pub goes : (q : List ℕ) → rest m (heard ++ q) ≡ text ++ rest next (drop i heard ++ q)
    pub says : (q : List ℕ) → told m (heard ++ q) ≡ told next (drop i heard ++ q)
