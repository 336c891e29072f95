-- The lines of bytes: the first, those behind it, and a line that was cut off.
use Prim.Native.Nat.{ℕ, zero, suc, ◌<◌, ◌≤◌}
use mathlib.Core.Path.{◌≡◌, refl, sym, ◌∙◌, ap}
use mathlib.Core.Bool.{Bool, true, false}
use mathlib.Core.List.{List, [], ◌∷◌, ◌++◌, append_assoc}
use native.Mathlib.Omega.{arith}
use lib.Dec.{eqb}
use lib.ListN.{length, take, drop, length-append}
use lib.Seq.{length-take-le, take-take}
use borrow.Author.Tests.{lt-ltb, le-ltb, le-leb, lt-leb}
use Rattle.numbers.proofs.Choices.{cases}
use Rattle.text.specs.Lengths.{length_to}
use Rattle.text.proofs.Lengths.{same_length_to}
use Rattle.listing.specs.Lines.{newline, front}
use Rattle.readback.specs.Pieces.{cut_in, bytes_in, is_whole, body_of, longest, cut_off, handed, lines_of}

-- no newline
pub cut_none : (l : List ℕ) → 0 < length l → length_to newline l ≡ length l → cut_in l ≡ l ∷ []
unfolding cut_in
cut_none [] h e = absurd (omega arith)
cut_none (c ∷ []) h e = go (eqb c newline) refl
  where
    go : (t : Bool) → eqb c newline ≡ t → cut_in (c ∷ []) ≡ (c ∷ []) ∷ []
    go true b = absurd (omega (arith, rw b at e))
    go false b = rw b
cut_none (c ∷ d ∷ l) h e = go (eqb c newline) refl (cut_none (d ∷ l))
  where
    go : (t : Bool) → eqb c newline ≡ t → (0 < suc (length l) → length_to newline (d ∷ l) ≡ suc (length l) → cut_in (d ∷ l) ≡ (d ∷ l) ∷ []) → cut_in (c ∷ d ∷ l) ≡ (c ∷ d ∷ l) ∷ []
    go true b ih = absurd (omega (arith, rw b at e))
    go false b ih = let k : suc (length_to newline (d ∷ l)) ≡ suc (suc (length l)) = rw b at e in rw b (ap (front c) (ih (omega arith) (omega arith)))

-- a newline: a line, and the lines behind it
pub cut_line : (l : List ℕ) → length_to newline l < length l → cut_in l ≡ take (suc (length_to newline l)) l ∷ cut_in (drop (suc (length_to newline l)) l)
unfolding cut_in
cut_line [] h = absurd (omega arith)
cut_line (c ∷ l) h = go (eqb c newline) refl (cut_line l)
  where
    go : (t : Bool) → eqb c newline ≡ t → (length_to newline l < length l → cut_in l ≡ take (suc (length_to newline l)) l ∷ cut_in (drop (suc (length_to newline l)) l))
        → cut_in (c ∷ l) ≡ take (suc (length_to newline (c ∷ l))) (c ∷ l) ∷ cut_in (drop (suc (length_to newline (c ∷ l))) (c ∷ l))
    go true b ih = rw b
    go false b ih = let k : suc (length_to newline l) < suc (length l) = rw b at h in rw b (ap (front c) (ih (omega arith)))

-- the first line is whole
module _ (l : List ℕ) (there : length_to newline l < length l) where
  pub first_long : length (take (suc (length_to newline l)) l) ≡ suc (length_to newline l)
  first_long = length-take-le (suc (length_to newline l)) l (omega arith)

  pub first_whole : is_whole (take (suc (length_to newline l)) l) ≡ true
  first_whole = let k = take (suc (length_to newline l)) l in lt-ltb (length_to newline k) (length k) (omega (arith, same_length_to newline l, first_long))

  pub first_body : body_of (take (suc (length_to newline l)) l) ≡ take (length_to newline l) l
  first_body = rw (same_length_to newline l) (take-take (length_to newline l) (suc (length_to newline l)) l (omega arith))

  pub lines_line : lines_of l ≡ take (suc (length_to newline l)) l ∷ lines_of (drop (suc (length_to newline l)) l)
  unfolding lines_of
  lines_line = rw (cut_line l there, first_whole)

module _ (l : List ℕ) (some : 0 < length l) (none : length_to newline l ≡ length l) where
  pub not_whole : is_whole l ≡ false
  not_whole = le-ltb (length_to newline l) (length l) (omega (arith, none))

  pub lines_short : length l ≤ longest → lines_of l ≡ []
  unfolding lines_of
  lines_short h = rw (cut_none l some none, not_whole, le-leb (length l) longest h)

  pub lines_long : longest < length l → lines_of l ≡ l ∷ []
  unfolding lines_of
  lines_long h = rw (cut_none l some none, not_whole, lt-leb (length l) longest h)

-- the bytes of lines
pub bytes_append : (a b : List (List ℕ)) → bytes_in (a ++ b) ≡ bytes_in a ++ bytes_in b
bytes_append [] b = refl
bytes_append (l ∷ a) b = ap (λ (k : List ℕ). l ++ k) (bytes_append a b) ∙ sym (append_assoc l (bytes_in a) (bytes_in b))

front_bytes : (c : ℕ) (ls : List (List ℕ)) → bytes_in (front c ls) ≡ c ∷ bytes_in ls
front_bytes c [] = refl
front_bytes c (l ∷ ls) = refl

pub bytes_cut : (l : List ℕ) → bytes_in (cut_in l) ≡ l
unfolding cut_in
bytes_cut [] = refl
bytes_cut (c ∷ l) = cases (λ (ls : List (List ℕ)). bytes_in ls ≡ c ∷ l) (eqb c newline) (λ _. ap (λ (k : List ℕ). c ∷ k) (bytes_cut l)) (λ _. front_bytes c (cut_in l) ∙ ap (λ (k : List ℕ). c ∷ k) (bytes_cut l))

take_few : (ls : List (List ℕ)) (n : ℕ) → length (bytes_in (take n ls)) ≤ length (bytes_in ls)
take_few ls zero = omega arith
take_few [] (suc n) = omega arith
take_few (l ∷ ls) (suc n) = omega (arith, length-append l (bytes_in (take n ls)), length-append l (bytes_in ls), take_few ls n)

handed_few : (ls : List (List ℕ)) → length (bytes_in (handed ls)) ≤ length (bytes_in ls)
handed_few [] = omega arith
handed_few (l ∷ ls) =
    cases (λ (k : List (List ℕ)). length (bytes_in k) ≤ length (l ++ bytes_in ls)) (cut_off l) (λ _. omega arith)
    (λ _. omega (arith, length-append l (bytes_in (handed ls)), length-append l (bytes_in ls), handed_few ls))

pub lines_few : (l : List ℕ) (n : ℕ) → length (bytes_in (take n (lines_of l))) ≤ length l
unfolding lines_of
lines_few l n = omega (arith, take_few (lines_of l) n, handed_few (cut_in l), ap length (bytes_cut l))
