-- The earliest choice is a best one, and there is no other.
use Prim.Native.Nat.{ℕ, zero, suc, ◌+◌, ◌-◌, ◌*◌, ◌<◌, ◌≤◌}
use mathlib.Core.Path.{◌≡◌, refl, sym, ap, ◌∙◌}
use mathlib.Core.Bool.{Bool, true, false, ◌&&◌}
use mathlib.Core.List.{List, [], ◌∷◌}
use mathlib.Core.Logic.{◌⊎◌, inl, inr}
use native.Mathlib.Omega.{arith}
use lib.ListN.{length, take, drop, length-drop}
use lib.Seq.{drop-drop}
use lib.Dec.{leb, ltb}
use borrow.Author.Tests.{le-leb, leb-true, ltb-true, ltb-false}
use Rattle.numbers.proofs.Tested.{left, right}
use Rattle.choosing.specs.Choice.{all_bytes, bytes_in, Smaller, here, there, Run, ChoiceFrom, Choice, bytes_left_out, Best}
use Rattle.choosing.specs.Earliest.{starts, earliest_from, earliest}
use Rattle.choosing.proofs.Left.{never, in_runs, in_runs_lem, parts}

-- each place of a list is met by one of the other that is no greater
abbrev Ahead : List ℕ → List ℕ → Type 0
Ahead l [] = Unit {0}
Ahead [] (c ∷ cs) = ⊥
Ahead (a ∷ l) (c ∷ cs) = (a ≤ c) × Ahead l cs

more_runs : (size : ℕ) (l cs : List ℕ) → Ahead l cs → in_runs size cs ≤ in_runs size l
unfolding in_runs
more_runs size l [] h = omega arith
more_runs size [] (c ∷ cs) h = absurd h
more_runs size (a ∷ l) (c ∷ cs) h = omega (arith, more_runs size l cs h.1)

none_smaller : (l cs : List ℕ) → Ahead l cs → Smaller cs l → ⊥
none_smaller [] cs h x = elim x [ ]
none_smaller (a ∷ l) [] h x = elim x [ ]
none_smaller (a ∷ l) (c ∷ cs) h (here b) = omega (arith, h.0)
none_smaller (a ∷ l) (c ∷ cs) h (there s) = none_smaller l cs h.1 s

-- of two lists with as many runs, one is smaller unless they are one list
pub data Order (l m : List ℕ) : Type 0 where
  less : Smaller l m → Order l m
  same : l ≡ m → Order l m
  more : Smaller m l → Order l m

order : (a b : ℕ) → (a < b) ⊎ ((a ≡ b) ⊎ (b < a))
order a b = go (ltb a b) refl (ltb b a) refl
  where
    go : (t : Bool) → ltb a b ≡ t → (u : Bool) → ltb b a ≡ u → (a < b) ⊎ ((a ≡ b) ⊎ (b < a))
    go true e u f = inl (ltb-true a b e)
    go false e true f = inr (inr (ltb-true b a f))
    go false e false f = inr (inl (omega (arith, ltb-false a b e, ltb-false b a f)))

compared : (size : ℕ) → 1 ≤ size → (l m : List ℕ) → in_runs size l ≡ in_runs size m → Order l m
unfolding in_runs
compared size some [] [] e = same refl
compared size some [] (b ∷ m) e = absurd (omega arith)
compared size some (a ∷ l) [] e = absurd (omega arith)
compared size some (a ∷ l) (b ∷ m) e = go (order a b) (compared size some l m (omega arith))
  where
    go : (a < b) ⊎ ((a ≡ b) ⊎ (b < a)) → Order l m → Order (a ∷ l) (b ∷ m)
    go (inl h) r = less (here h)
    go (inr (inr h)) r = more (here h)
    go (inr (inl h)) (less r) = rw h (less (there r))
    go (inr (inl h)) (same r) = same (cc)
    go (inr (inl h)) (more r) = rw h (more (there r))

module _ (size : ℕ) (valid : List ℕ → Bool) (some : 1 ≤ size) (words : List ℕ) where
  -- `starts` tells a run
  a_run : (s : ℕ) → s ≤ length words → starts size valid (drop s words) ≡ true → Run size valid words s
  unfolding starts
  a_run s l e =
      let d = drop s words in
      let b = take size d in
      let t = left (leb size (length d) && all_bytes b) (valid b) e in
      record {
        within = omega (arith, leb-true size (length d) (left (leb size (length d)) (all_bytes b) t), length-drop s words);
        bytes = right (leb size (length d)) (all_bytes b) t;
        report = right (leb size (length d) && all_bytes b) (valid b) e;
      }

  tells : (s : ℕ) → Run size valid words s → starts size valid (drop s words) ≡ true
  unfolding starts
  tells s r = rw (le-leb size (length (drop s words)) (omega (arith, length-drop s words, r.within)), r.bytes) r.report

  sooner : (cs : List ℕ) (from to : ℕ) → from ≤ to → ChoiceFrom size valid to words cs → ChoiceFrom size valid from words cs
  sooner [] from to l c = tt
  sooner (s ∷ cs) from to l c = (omega (arith, c.0), c.1, c.2)

  pub tail : (place w : ℕ) (rest : List ℕ) → w ∷ rest ≡ drop place words → rest ≡ drop (suc place) words
  tail place w rest e =
      let n : place + 1 ≡ suc place = omega arith in
      ap (λ (l : List ℕ). drop 1 l) e ∙ drop-drop 1 place words ∙ ap (λ (m : ℕ). drop m words) n

  shorter : (place w : ℕ) (rest : List ℕ) → w ∷ rest ≡ drop place words → place < length words
  shorter place w rest e = omega (arith, ap length e, length-drop place words)

  -- the earliest choice is one
  chosen_well : (place taken : ℕ) (rest : List ℕ) → rest ≡ drop place words
      → ChoiceFrom size valid (place + taken) words (earliest_from size valid place taken rest)
  unfolding earliest_from
  chosen_well place taken [] e = tt
  chosen_well place (suc taken) (w ∷ rest) e = sooner (earliest_from size valid (suc place) taken rest) (place + suc taken) (suc place + taken) (omega arith) (chosen_well (suc place) taken rest (tail place w rest e))
  chosen_well place zero (w ∷ rest) e =
      go (starts size valid (w ∷ rest)) refl (chosen_well (suc place) (size - 1) rest (tail place w rest e)) (chosen_well (suc place) 0 rest (tail place w rest e))
    where
      go : (t : Bool) → starts size valid (w ∷ rest) ≡ t → ChoiceFrom size valid (suc place + (size - 1)) words (earliest_from size valid (suc place) (size - 1) rest)
          → ChoiceFrom size valid (suc place + 0) words (earliest_from size valid (suc place) 0 rest)
          → ChoiceFrom size valid (place + 0) words (earliest_from size valid place 0 (w ∷ rest))
      go true h r q =
          rw h
          (omega arith, a_run place (omega (arith, shorter place w rest e)) (rw e at h), sooner (earliest_from size valid (suc place) (size - 1) rest) (place + size) (suc place + (size - 1)) (omega arith) r)
      go false h r q = rw h (sooner (earliest_from size valid (suc place) 0 rest) (place + 0) (suc place + 0) (omega arith) q)

  -- and it is ahead of every other
  ahead : (place taken : ℕ) (rest cs : List ℕ) → rest ≡ drop place words → ChoiceFrom size valid (place + taken) words cs
      → Ahead (earliest_from size valid place taken rest) cs
  unfolding earliest_from
  ahead place taken rest [] e c = tt
  ahead place taken [] (s ∷ cs) e c = absurd (omega (arith, c.0, c.1.within, ap length e, length-drop place words))
  ahead place (suc taken) (w ∷ rest) (s ∷ cs) e c = ahead (suc place) taken rest (s ∷ cs) (tail place w rest e) (omega (arith, c.0), c.1, c.2)
  ahead place zero (w ∷ rest) (s ∷ cs) e c =
      go (starts size valid (w ∷ rest)) refl
      (λ d. ahead (suc place) (size - 1) rest cs (tail place w rest e) d)
      (λ d. ahead (suc place) 0 rest (s ∷ cs) (tail place w rest e) d)
    where
      go : (t : Bool) → starts size valid (w ∷ rest) ≡ t
          → (ChoiceFrom size valid (suc place + (size - 1)) words cs → Ahead (earliest_from size valid (suc place) (size - 1) rest) cs)
          → (ChoiceFrom size valid (suc place + 0) words (s ∷ cs) → Ahead (earliest_from size valid (suc place) 0 rest) (s ∷ cs))
          → Ahead (earliest_from size valid place 0 (w ∷ rest)) (s ∷ cs)
      go true h r q = rw h (omega (arith, c.0), r (sooner cs (suc place + (size - 1)) (s + size) (omega (arith, c.0)) c.2))
      go false h r q = rw h (q (omega (arith, c.0, other), c.1, c.2))
        where
          other : s ≡ place → ⊥
          other f = never (sym h ∙ ap (λ (l : List ℕ). starts size valid l) e ∙ rw f at (tells s c.1))

-- THE CENTRAL FACT: no choice leaves out fewer bytes than the earliest, and none that leaves out as many is smaller
module _ (size : ℕ) (valid : List ℕ → Bool) (some : 1 ≤ size) (words : List ℕ) where
  whole : (cs : List ℕ) → Choice size valid words cs → bytes_left_out size valid words cs + in_runs size cs ≡ bytes_in words
  whole cs c = parts size valid words cs 0 (omega arith) c

  -- the bytes left out, and those of the runs, are all the bytes
  pub left_and_runs : (cs : List ℕ) → Choice size valid words cs → bytes_left_out size valid words cs + size * length cs ≡ bytes_in words
  left_and_runs cs c = omega (arith, whole cs c, in_runs_lem size cs)

  pub earliest_is_best : Best size valid words (earliest size valid words)
  earliest_is_best =
      let g = earliest size valid words in
      let c : Choice size valid words g = chosen_well size valid some words 0 0 words refl in
      record {
        choice = c;
        fewest = λ cs d. omega (arith, whole g c, whole cs d, more_runs size g cs (ahead size valid some words 0 0 words cs refl d));
        smallest = λ cs d e s. none_smaller g cs (ahead size valid some words 0 0 words cs refl d) s;
      }

  -- so that the paper's words tell one choice
  pub best_is_one : (a b : List ℕ) → Best size valid words a → Best size valid words b → a ≡ b
  best_is_one a b p q = go (compared size some a b runs)
    where
      equal : bytes_left_out size valid words a ≡ bytes_left_out size valid words b
      equal = omega (arith, p.fewest b q.choice, q.fewest a p.choice)

      runs : in_runs size a ≡ in_runs size b
      runs = omega (arith, equal, whole a p.choice, whole b q.choice)

      go : Order a b → a ≡ b
      go (less s) = absurd (q.smallest a p.choice equal s)
      go (same e) = e
      go (more s) = absurd (p.smallest b q.choice (sym equal) s)
