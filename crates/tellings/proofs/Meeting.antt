-- Two ways to split the items of a line, and where they meet.
use Prim.Native.Nat.{ℕ, ◌+◌, ◌<◌, ◌≤◌}
use mathlib.Core.Path.{◌≡◌, refl, sym, ap}
use mathlib.Core.List.{List, [], ◌∷◌, ◌++◌, tail-eq_of_cons-eq, head-eq_of_cons-eq}
use native.Mathlib.Omega.{arith}
use lib.ListN.{length}
use Rattle.tellings.specs.Items.{Item, word, telling, as_items, words_in}

-- how many words an item has
abbrev words_of_item : Item → ℕ
words_of_item (word w) = 1
words_of_item (telling asked) = 0

first_words : (i : Item) (is : List Item) → length (words_in (i ∷ is)) ≡ words_of_item i + length (words_in is)
first_words (word w) is = omega arith
first_words (telling asked) is = omega arith

-- `b` begins with a word, and `c` has no more words than `a`
pub meet : (w : ℕ) (b a c d : List Item) → a ++ (word w ∷ b) ≡ c ++ d → length (words_in c) ≤ length (words_in a)
    → (m : List Item) × (a ≡ c ++ m) × (d ≡ m ++ (word w ∷ b))
meet w b a [] d e l = (a, refl, sym e)
meet w b [] (i ∷ c) d e l =
    let n = ap words_of_item (head-eq_of_cons-eq e) in
    absurd (omega (arith, first_words i c, n))
meet w b (j ∷ a) (i ∷ c) d e l =
    let n = ap words_of_item (head-eq_of_cons-eq e) in
    let r : (m : List Item) × (a ≡ c ++ m) × (d ≡ m ++ (word w ∷ b)) = meet w b a c d (tail-eq_of_cons-eq e) (omega (arith, first_words i c, first_words j a)) in
    (r.0, cc (head-eq_of_cons-eq e, r.1), r.2)

-- items at the front of words are words
pub only_words : (bytes : List ℕ) (m rest d : List Item) → as_items bytes ++ rest ≡ m ++ d → length (words_in m) < length bytes → (front : List ℕ) × (m ≡ as_items front)
only_words bytes [] rest d e l = ([], refl)
only_words [] (i ∷ m) rest d e l = absurd (omega arith)
only_words (b ∷ bytes) (i ∷ m) rest d e l =
    let head = head-eq_of_cons-eq e in
    let r : (front : List ℕ) × (m ≡ as_items front) = only_words bytes m rest d (tail-eq_of_cons-eq e) (omega (arith, first_words i m, ap words_of_item head)) in
    (b ∷ r.0, cc (head, r.1))

-- the same where `b` begins with the bytes of a report
pub meet_bytes : (bytes : List ℕ) (rest a c d : List Item) → 0 < length bytes → a ++ (as_items bytes ++ rest) ≡ c ++ d → length (words_in c) ≤ length (words_in a)
    → (m : List Item) × (a ≡ c ++ m) × (d ≡ m ++ (as_items bytes ++ rest))
meet_bytes [] rest a c d h e l = absurd (omega arith)
meet_bytes (b ∷ bytes) rest a c d h e l = meet b (as_items bytes ++ rest) a c d e l
