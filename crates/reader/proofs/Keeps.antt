-- A word leaves a good reader good.
use Prim.Native.Nat.{ℕ, ◌+◌, ◌<◌}
use mathlib.Core.Path.{◌≡◌, refl, ◌∙◌}
use mathlib.Core.Bool.{Bool, true, false, not, ◌||◌}
use mathlib.Core.List.{[], ◌∷◌}
use native.Mathlib.Omega.{arith}
use lib.ListN.{length, get_or, length-set}
use lib.Seq.{get_or-set_same, get_or-set_other}
use lib.Dec.{ltb, eqb}
use borrow.Author.Tests.{lt-ltb, le-ltb, ltb-true, ltb-false, eqb-true, eqb-false}
use Rattle.numbers.proofs.Tested.{right}
use Rattle.wire.specs.Line.{size_by, marked_by, known}
use Rattle.wire.specs.Places.{fits_by}
use Rattle.reader.specs.State.{reader, unmarked, no_bytes, fresh, ready, Read}
use Rattle.reader.specs.Good.{placed, good}
use Rattle.reader.specs.Rules.{entered, fitting, more, word_of}
use Rattle.reader.specs.declared.Reader.{Reader}
use Rattle.wire.proofs.Letters.{at_least_three, size_positive}
use Rattle.reader.proofs.Parts.{Parts, parts, made, one_more_lem}
use Rattle.reader.proofs.Word.{by_word}

-- a reader that has no bytes
none_good : (letter : ℕ) (awaiting : Bool) → known letter ≡ true → not awaiting || unmarked letter ≡ true → good (no_bytes letter awaiting) ≡ true
unfolding good placed
none_good letter false k e = rw (k, lt-ltb 0 (size_by letter) (size_positive letter k))
none_good letter true k e = rw (k, lt-ltb 0 (size_by letter) (size_positive letter k), e)

-- awaiting is right in U, T, W, and is false elsewhere
rightly : (marked : Bool) → not (not marked) || not marked ≡ true
rightly true = refl
rightly false = refl

pub fresh_good : (letter : ℕ) → known letter ≡ true → good (fresh letter) ≡ true
fresh_good letter k = none_good letter (unmarked letter) k (rightly (marked_by letter))

pub ready_good : (letter : ℕ) → known letter ≡ true → good (ready letter) ≡ true
ready_good letter k = none_good letter false k refl

-- a byte that starts a report
started_good : (letter b : ℕ) → known letter ≡ true → 1 < size_by letter → fits_by letter 0 b ≡ true → good (reader letter (b ∷ 0 ∷ 0 ∷ 0 ∷ 0 ∷ []) 1 false) ≡ true
unfolding good placed
started_good letter b k l f = rw (k, lt-ltb 1 (size_by letter) l, f)

-- a byte that is kept behind the others
module _ (r : Reader) (b : ℕ) (long : r.count < length r.kept) (fit : fitting r b ≡ true) where
  abbrev next : Reader
  next = reader r.format (more r b) (r.count + 1) false

  more_placed : (i : ℕ) → placed r i (get_or r.kept i 0) ≡ true → placed next i (get_or (more r b) i 0) ≡ true
  unfolding placed
  more_placed i h = go (ltb i r.count) refl (eqb i r.count) refl
    where
      go : (t : Bool) → ltb i r.count ≡ t → (u : Bool) → eqb i r.count ≡ u → placed next i (get_or (more r b) i 0) ≡ true
      go true e u eu =
          let lt = ltb-true i r.count e in
          rw (get_or-set_other r.kept r.count i b 0 (λ q. omega arith), lt-ltb i (r.count + 1) (omega arith)) (rw e at h)
      go false e true eu =
          let q = eqb-true i r.count eu in
          rw (q, get_or-set_same r.kept r.count b 0 long, lt-ltb r.count (r.count + 1) (omega arith)) fit
      go false e false eu =
          let ge = ltb-false i r.count e in
          let ne = eqb-false i r.count eu in
          rw (get_or-set_other r.kept r.count i b 0 ne, le-ltb i (r.count + 1) (omega arith)) (rw e at h)

module _ (r : Reader) (g : good r ≡ true) where
  abbrev p : Parts r
  p = parts r g

  abbrev Fine : Read → Type 0
  Fine s = good s.next ≡ true

  kept_good : (b : ℕ) → fitting r b ≡ true → (r.count + 1 ≡ size_by r.format → ⊥) → good (reader r.format (more r b) (r.count + 1) false) ≡ true
  kept_good b fit ne =
      let room = one_more_lem r g in
      made (reader r.format (more r b) (r.count + 1) false)
      (record {
        of_known = p.of_known;
        below = omega (arith, p.below);
        five = length-set r.kept r.count b ∙ p.five;
        places = λ i l. more_placed r b room fit i (p.places i l);
        awaits = refl;
      })

  pub word_good : (w : ℕ) → good (word_of r w).next ≡ true
  word_good w =
      by_word Fine r w (λ _ _. g) (λ _ _ _ _. is_ready) (λ _ _ fit e. kept_good (entered r.format w) fit (eqb-false (r.count + 1) (size_by r.format) e))
      (λ _ _ _ s. started_good r.format (entered r.format w) p.of_known (omega (arith, at_least_three r.format r.count p.below)) (right (marked_by r.format) _ s))
      (λ _ _ _ _. is_fresh) (λ _. is_fresh) (λ _. is_ready) (λ _. g)
    where
      is_ready : good (ready r.format) ≡ true
      is_ready = ready_good r.format p.of_known

      is_fresh : good (fresh r.format) ≡ true
      is_fresh = fresh_good r.format p.of_known
