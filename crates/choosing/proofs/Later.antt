-- The runs from a place on: they are those of the words from there on, and behind the first of them come those of the words behind it.
use Prim.Native.Nat.{ℕ, zero, suc, ◌+◌, ◌-◌, ◌<◌, ◌≤◌}
use mathlib.Core.Path.{◌≡◌, refl, ap}
use mathlib.Core.Bool.{Bool, true, false}
use mathlib.Core.List.{List, [], ◌∷◌, map}
use native.Mathlib.Omega.{arith}
use lib.ListN.{length, drop, get_or}
use Rattle.numbers.proofs.Choices.{cases}
use Rattle.choosing.specs.Choice.{ChoiceFrom}
use Rattle.choosing.specs.Earliest.{starts, earliest_from}
use Rattle.choosing.proofs.Best.{tail}

-- each run lies within the words
pub choice_within : (size : ℕ) (valid : List ℕ → Bool) (words : List ℕ) (from : ℕ) (cs : List ℕ) (i : ℕ) → ChoiceFrom size valid from words cs → i < length cs
    → get_or cs i 0 + size ≤ length words
choice_within size valid words from [] i c h = absurd (omega arith)
choice_within size valid words from (s ∷ cs) zero c h = c.1.within
choice_within size valid words from (s ∷ cs) (suc i) c h = choice_within size valid words (s + size) cs i c.2 (omega arith)

module _ (size : ℕ) (valid : List ℕ → Bool) where
  -- as many places further on
  pub further : (k place taken : ℕ) (words : List ℕ) → earliest_from size valid (k + place) taken words ≡ map (λ p. k + p) (earliest_from size valid place taken words)
  unfolding earliest_from
  further k place taken [] = refl
  further k place (suc taken) (w ∷ words) = let e : suc (k + place) ≡ k + suc place = omega arith in rw e (further k (suc place) taken words)
  further k place zero (w ∷ words) =
      go (starts size valid (w ∷ words)) refl (further k (suc place) (size - 1) words) (further k (suc place) 0 words)
    where
      next : suc (k + place) ≡ k + suc place
      next = omega arith

      go : (t : Bool) → starts size valid (w ∷ words) ≡ t
          → earliest_from size valid (k + suc place) (size - 1) words ≡ map (λ p. k + p) (earliest_from size valid (suc place) (size - 1) words)
          → earliest_from size valid (k + suc place) 0 words ≡ map (λ p. k + p) (earliest_from size valid (suc place) 0 words)
          → earliest_from size valid (k + place) 0 (w ∷ words) ≡ map (λ p. k + p) (earliest_from size valid place 0 (w ∷ words))
      go true h r q = rw (h, next) (ap (λ (l : List ℕ). (k + place) ∷ l) r)
      go false h r q = rw (h, next) q

  -- from each of them on
  module _ (some : 1 ≤ size) (words : List ℕ) where
    abbrev pub FromEach : List ℕ → Type 0
    FromEach l = (i : ℕ) → i < length l → drop i l ≡ earliest_from size valid (get_or l i 0) 0 (drop (get_or l i 0) words)

    one_before : (place : ℕ) (l : List ℕ) → place ∷ l ≡ earliest_from size valid place 0 (drop place words) → FromEach l → FromEach (place ∷ l)
    one_before place l e f zero h = e
    one_before place l e f (suc i) h = f i (omega arith)

    pub from_each : (place taken : ℕ) (rest : List ℕ) → rest ≡ drop place words → FromEach (earliest_from size valid place taken rest)
    unfolding earliest_from
    from_each place taken [] e = λ i h. absurd (omega arith)
    from_each place (suc taken) (w ∷ rest) e = from_each (suc place) taken rest (tail size valid some words place w rest e)
    from_each place zero (w ∷ rest) e =
        cases FromEach (starts size valid (w ∷ rest))
        (λ t. one_before place (earliest_from size valid (suc place) (size - 1) rest) (rw (← e, t)) (from_each (suc place) (size - 1) rest (tail size valid some words place w rest e)))
        (λ t. from_each (suc place) 0 rest (tail size valid some words place w rest e))
