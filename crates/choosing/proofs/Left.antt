-- What a choice leaves out: the bytes of the line, less those of its runs.
use Prim.Native.Nat.{ℕ, suc, ◌+◌, ◌-◌, ◌*◌, ◌<◌, ◌≤◌}
use mathlib.Core.Path.{◌≡◌, refl, sym, ap, ◌∙◌}
use mathlib.Core.Bool.{Bool, true, false, cond}
use mathlib.Core.List.{List, [], ◌∷◌, ◌++◌}
use native.Mathlib.Omega.{arith}
use native.Mathlib.Nat.{mul-suc}
use lib.ListN.{length, take, drop, take-append-drop, length-drop}
use lib.Seq.{length-take-le, drop-drop}
use borrow.Author.Tests.{le-leb, lt-leb, lt-ltb, le-ltb}
use Rattle.frames.specs.Words.{is_byte}
use Rattle.choosing.specs.Choice.{all_bytes, bytes_in, run, ChoiceFrom, chosen, left_from}

pub never : {A : Type 0} → false ≡ true → A
never e = let z : ◌≡◌ {A = ℕ} 0 1 = cc in absurd (omega arith)

pub bytes_append : (a b : List ℕ) → bytes_in (a ++ b) ≡ bytes_in a + bytes_in b
unfolding bytes_in
bytes_append [] b = omega arith
bytes_append (w ∷ a) b = omega (arith, bytes_append a b)

-- no more than the words
pub few_bytes : (a : List ℕ) → bytes_in a ≤ length a
unfolding bytes_in
few_bytes [] = omega arith
few_bytes (w ∷ a) = go (is_byte w) (few_bytes a)
  where
    go : (t : Bool) → bytes_in a ≤ length a → cond t 1 0 + bytes_in a ≤ suc (length a)
    go true r = omega arith
    go false r = omega arith

-- of bytes, all are
pub all_counted : (a : List ℕ) → all_bytes a ≡ true → bytes_in a ≡ length a
unfolding all_bytes bytes_in
all_counted [] h = refl
all_counted (w ∷ a) h = go (is_byte w) refl (all_counted a)
  where
    go : (t : Bool) → is_byte w ≡ t → (all_bytes a ≡ true → bytes_in a ≡ length a) → bytes_in (w ∷ a) ≡ suc (length a)
    go true e r = rw e (omega (arith, r (rw e at h)))
    go false e r = never (rw e at h)

-- the bytes that as many runs have
unfoldable pub in_runs : ℕ → List ℕ → ℕ
in_runs size [] = 0
in_runs size (s ∷ starts) = size + in_runs size starts

pub in_runs_lem : (size : ℕ) (starts : List ℕ) → in_runs size starts ≡ size * length starts
unfolding in_runs
in_runs_lem size [] = omega arith
in_runs_lem size (s ∷ starts) = omega (arith, in_runs_lem size starts, mul-suc size (length starts))

module _ (size : ℕ) (valid : List ℕ → Bool) where
  abbrev In : List ℕ → ℕ → Bool
  In starts place = chosen size valid starts place

  abbrev Left : List ℕ → ℕ → List ℕ → ℕ
  Left starts place words = left_from size valid starts place words

  -- a place before all the runs lies in none, one in the first lies in it, and one behind it may lie in another
  before : (starts words : List ℕ) (from place : ℕ) → ChoiceFrom size valid from words starts → place < from → In starts place ≡ false
  unfolding chosen
  before [] words from place c h = refl
  before (s ∷ starts) words from place c h =
      let l : from ≤ s = c.0 in
      rw (lt-leb s place (omega arith)) (before starts words (s + size) place c.2 (omega arith))

  inside : (s : ℕ) (starts : List ℕ) (place : ℕ) → s ≤ place → place < s + size → In (s ∷ starts) place ≡ true
  unfolding chosen
  inside s starts place l h = rw (le-leb s place l, lt-ltb place (s + size) h)

  behind : (s : ℕ) (starts : List ℕ) (place : ℕ) → s + size ≤ place → In (s ∷ starts) place ≡ In starts place
  unfolding chosen
  behind s starts place h = rw (le-leb s place (omega arith), le-ltb place (s + size) h)

  left_append : (starts : List ℕ) (place q : ℕ) (a b : List ℕ) → length a + place ≡ q → Left starts place (a ++ b) ≡ Left starts place a + Left starts q b
  unfolding left_from
  left_append starts place q [] b e = let h : place ≡ q = omega arith in rw h (omega arith)
  left_append starts place q (w ∷ a) b e = omega (arith, left_append starts (suc place) q a b (omega arith))

  -- words of which none, or all, lie in a run
  left_none : (starts : List ℕ) (place : ℕ) (a : List ℕ) → ((p : ℕ) → place ≤ p → p < length a + place → In starts p ≡ false) → Left starts place a ≡ bytes_in a
  unfolding left_from bytes_in
  left_none starts place [] h = refl
  left_none starts place (w ∷ a) h = go (is_byte w) refl (left_none starts (suc place) a (λ p l u. h p (omega arith) (omega arith)))
    where
      go : (t : Bool) → is_byte w ≡ t → Left starts (suc place) a ≡ bytes_in a → Left starts place (w ∷ a) ≡ bytes_in (w ∷ a)
      go true e r = rw (e, h place (omega arith) (omega arith)) (omega arith)
      go false e r = rw e (omega arith)

  left_all : (starts : List ℕ) (place : ℕ) (a : List ℕ) → ((p : ℕ) → place ≤ p → p < length a + place → In starts p ≡ true) → Left starts place a ≡ 0
  unfolding left_from
  left_all starts place [] h = refl
  left_all starts place (w ∷ a) h = go (is_byte w) refl (left_all starts (suc place) a (λ p l u. h p (omega arith) (omega arith)))
    where
      go : (t : Bool) → is_byte w ≡ t → Left starts (suc place) a ≡ 0 → Left starts place (w ∷ a) ≡ 0
      go true e r = rw (e, h place (omega arith) (omega arith)) (omega arith)
      go false e r = rw e (omega arith)

  left_behind : (s : ℕ) (starts : List ℕ) (place : ℕ) (a : List ℕ) → s + size ≤ place → Left (s ∷ starts) place a ≡ Left starts place a
  unfolding left_from
  left_behind s starts place [] h = refl
  left_behind s starts place (w ∷ a) h = rw (behind s starts place h, left_behind s starts (suc place) a (omega arith))

  -- the bytes left out and those of the runs are all the bytes
  module _ (words : List ℕ) where
    pub parts : (starts : List ℕ) (place : ℕ) → place ≤ length words → ChoiceFrom size valid place words starts
        → Left starts place (drop place words) + in_runs size starts ≡ bytes_in (drop place words)
    unfolding in_runs
    parts [] place l c = omega (arith, left_none [] place (drop place words) (λ p x y. before [] words (suc p) p tt (omega arith)))
    parts (s ∷ starts) place l c =
        let from : place ≤ s = c.0 in
        let whole : s + size ≤ length words = c.1.within in
        let rest = drop place words in
        let a = take (s - place) rest in
        let far : place + (s - place) ≡ s = omega arith in
        let there : drop (s - place) rest ≡ drop s words = drop-drop (s - place) place words ∙ ap (λ (n : ℕ). drop n words) far in
        let b = run size valid words s in
        let d = drop (s + size) words in
        let split : rest ≡ a ++ (b ++ d) =
        sym (take-append-drop (s - place) rest)
        ∙ ap (λ (l : List ℕ). a ++ l) (there ∙ sym (take-append-drop size (drop s words)) ∙ ap (λ (l : List ℕ). b ++ l) (drop-drop size s words)) in
        let la : length a ≡ s - place = length-take-le (s - place) rest (omega (arith, length-drop place words)) in
        let lb : length b ≡ size = length-take-le size (drop s words) (omega (arith, length-drop s words)) in
        let ea = left_none (s ∷ starts) place a (λ p x y. before (s ∷ starts) words s p (omega arith, c.1, c.2) (omega arith)) in
        let eb = left_all (s ∷ starts) s b (λ p x y. inside s starts p x (omega arith)) in
        let ed = left_behind s starts (s + size) d (omega arith) in
        let eab = left_append (s ∷ starts) place s a (b ++ d) (omega arith) in
        let ebd = left_append (s ∷ starts) s (s + size) b d (omega arith) in
        let k = all_counted b c.1.bytes in
        let r = parts starts (s + size) whole c.2 in
        rw split (omega (arith, bytes_append a (b ++ d), bytes_append b d))
