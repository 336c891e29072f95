-- An input that has no more lines than either of two widths has numbers for gives the same items at both.
use Prim.Native.Nat.{ℕ, ◌+◌, ◌<◌, ◌≤◌}
use mathlib.Core.Path.{◌≡◌, refl, ap}
use mathlib.Core.Bool.{cond}
use mathlib.Core.List.{List, [], ◌∷◌}
use native.Mathlib.Omega.{arith}
use lib.ListN.{length}
use borrow.Author.Tests.{lt-leb}
use Rattle.listing.specs.Lines.{lines_in, said_by}
use Rattle.listing.specs.Scanning.{most_at, on_line, line_in, ends, found_in}
use Rattle.listing.specs.Items.{items_from}
use Rattle.listing.specs.Listing.{waiting, items_at}
use Rattle.listing.specs.declared.Line.{Line}

numbered : (w n : ℕ) (l : Line) → n < most_at w → line_in w n l ≡ on_line n l
unfolding line_in
numbered w n l h = rw (lt-leb (most_at w) n h)

module _ (v w : ℕ) where
  same_found : (n : ℕ) (ls : List (List ℕ)) → n + length ls ≤ most_at v → n + length ls ≤ most_at w → found_in v n ls ≡ found_in w n ls
  unfolding found_in
  same_found n [] h k = refl
  same_found n (l ∷ ls) h k =
      rw (numbered v n (said_by l) (omega (arith, h)), numbered w n (said_by l) (omega (arith, k)))
      (ap (λ later. on_line n (said_by l) ∷ cond (ends (on_line n (said_by l))) [] later) (same_found (n + 1) ls (omega (arith, h)) (omega (arith, k))))

  pub same_items : (input : List ℕ) → length (lines_in input) ≤ most_at v → length (lines_in input) ≤ most_at w → items_at v input ≡ items_at w input
  same_items input h k = ap (items_from waiting) (same_found 0 (lines_in input) (omega (arith, h)) (omega (arith, k)))

-- the listings of an input of at most 9,999 lines at widths 4 and 6
pub same_at_four_and_six : (input : List ℕ) → length (lines_in input) ≤ 9999 → items_at 4 input ≡ items_at 6 input
same_at_four_and_six input h = same_items 4 6 input h (omega (arith, h))
