-- Rows of items that were read, as numbers: what they stand for, and where the rows are written.
use Rattle.std.specs.Prelude.{ℕ, ◌*◌, ◌≤◌, ◌≡◌, List, [], ◌∷◌, ◌++◌, ℤ, pos, length, take}
use Rattle.listing.specs.declared.Buttons.{Buttons}
use Rattle.listing.specs.declared.Item.{Item}
use Rattle.readback.specs.Items.{pressed_number, numbers_of, all_numbers, Small}

-- a number that stands for buttons, and five for an item
abbrev pub Stand : ℤ → Buttons → Type 0
Stand number b = number ≡ pos (pressed_number b)

abbrev pub Five : ℤ → ℤ → ℤ → ℤ → ℤ → Item → Type 0
Five kind line a b c i = kind ∷ line ∷ a ∷ b ∷ c ∷ [] ≡ numbers_of i

-- items that are no more than what is read
abbrev pub AllSmall : List Item → Type 0
AllSmall [] = Unit {0}
AllSmall (i ∷ is) = Small i × AllSmall is

-- so many items at the front of numbers
pub record Among (count : ℕ) (numbers : List ℤ) (items : List Item) : Type 0 where
  pub there : 5 * count ≤ length numbers
  pub small : AllSmall items
  pub are : take (5 * count) numbers ≡ all_numbers items

-- text that was written behind so many bytes, and the place behind it
pub record Written (before : List ℕ) (at : ℕ) (text after : List ℕ) (to : ℕ) : Type 0 where
  pub there : to ≤ length after
  pub so : take to after ≡ take at before ++ text
