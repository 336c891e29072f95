-- What follows from the promise of `pick`: one answer; the best of all choices; a log that was stopped for room goes on; and when there is room for all.
use Prim.Native.Nat.{ℕ, ◌+◌, ◌*◌, ◌<◌, ◌≤◌}
use mathlib.Core.Path.{◌≡◌, refl, sym, ap, ◌∙◌}
use mathlib.Core.Bool.{Bool, true, false, cond}
use mathlib.Core.List.{List, map, append-nil}
use native.Mathlib.Omega.{arith}
use lib.ListN.{length, take, drop, get_or, drop_of_length-le, take-append-drop}
use native.Mathlib.Nat.{mul-le-mul_right}
use lib.Seq.{take_all, take_at}
use lib.Dec.{leb, eqb}
use borrow.Author.Tests.{leb-true, leb-false, eqb-true, eqb-false}
use Rattle.wire.specs.Line.{size_by}
use Rattle.wire.specs.Numbers.{success}
use Rattle.wire.proofs.Letters.{size_positive, at_least_three}
use Rattle.choosing.specs.Earliest.{earliest_from}
use Rattle.choosing.proofs.Left.{few_bytes}
use Rattle.choosing.proofs.Best.{earliest_is_best, left_and_runs}
use Rattle.choosing.proofs.Later.{choice_within, further, from_each}
use Rattle.salvage.specs.Picking.{valid_by, picked_by, BestBy, Whole, whole, refused, refusal_of, picking, taken_of, left_of, pick_of}
use Rattle.salvage.specs.Promises.{StartsPromise, PickPromise}
use Rattle.salvage.specs.Best.{WholeLog, GoesOn}
use Rattle.salvage.specs.declared.Picked.{Picked}
use Rattle.salvage.proofs.Refusals.{Taken, taken}

-- two answers that meet a promise are equal, and so are the slices
pub one_starts : (letter : ℕ) (words : List ℕ) {a b : Bool} → StartsPromise letter words a → StartsPromise letter words b → a ≡ b
one_starts letter words p q = p ∙ sym q

pub one_pick : (letter : ℕ) (words before : List ℕ) {a b : Picked} {x y : List ℕ} → PickPromise letter words before a x → PickPromise letter words before b y → (a ≡ b) × (x ≡ y)
one_pick letter words before p q = let e = p ∙ sym q in (ap (λ (w : Whole). w.picked) e, ap (λ (w : Whole). w.places) e)

module _ (letter : ℕ) (words before : List ℕ) (a : Picked) (after : List ℕ) (promise : PickPromise letter words before a after) (done : a.refusal ≡ success) where
  -- a log that is not refused is picked from
  abbrev Picks : Type 0
  Picks = (refusal_of letter words ≡ success) × (whole a after ≡ picking letter words before)

  picks : Picks
  unfolding pick_of
  picks = go (eqb (refusal_of letter words) success) refl promise
    where
      go : (t : Bool) → eqb (refusal_of letter words) success ≡ t → whole a after ≡ cond t (picking letter words before) (refused (refusal_of letter words) before) → Picks
      go true e p = (eqb-true (refusal_of letter words) success e, p)
      go false e p = absurd (eqb-false (refusal_of letter words) success e (sym (ap (λ (w : Whole). w.picked.refusal) p) ∙ done))

  fine : Taken letter words
  fine = taken letter words picks.0

  some : 0 < size_by letter
  some = size_positive letter fine.is_known

  -- the places written
  wrote : take a.runs after ≡ take (length before) (picked_by letter words)
  unfolding picking
  wrote =
      let s = take (length before) (picked_by letter words) in
      let e = picks.1 in
      rw (ap (λ (w : Whole). w.picked.runs) e, ap (λ (w : Whole). w.places) e) (take_at s (drop (length s) before) (length s) refl)

  took : a.taken ≡ taken_of letter words (length before)
  unfolding picking
  took = ap (λ (w : Whole). w.picked.taken) picks.1

  leaves : a.left ≡ left_of letter words a.taken (length (take (length before) (picked_by letter words)))
  unfolding picking
  leaves = ap (λ (w : Whole). w.picked.left) picks.1 ∙ rw (← took)

  best : BestBy letter words (picked_by letter words)
  best = earliest_is_best (size_by letter) (valid_by letter) some words

  -- all of it, or the words before a run
  pub data Far : Type 0 where
    all : length (picked_by letter words) ≤ length before → a.taken ≡ length words → Far
    until : length before < length (picked_by letter words) → a.taken ≡ get_or (picked_by letter words) (length before) 0 → Far

  far : Far
  unfolding taken_of
  far = go (leb (length (picked_by letter words)) (length before)) refl
    where
      go : (t : Bool) → leb (length (picked_by letter words)) (length before) ≡ t → Far
      go true e = all (leb-true (length (picked_by letter words)) (length before) e) (took ∙ rw e)
      go false e = until (leb-false (length (picked_by letter words)) (length before) e) (took ∙ rw e)

  -- THE CENTRAL FACT: where the log was taken whole, no choice leaves out fewer bytes, and none that leaves out as few has a smaller list of places
  pub best_of_all : a.taken ≡ length words → WholeLog letter words a after
  unfolding left_of
  best_of_all e = go far
    where
      go : Far → WholeLog letter words a after
      go (all room t) =
          let w : take a.runs after ≡ picked_by letter words = wrote ∙ take_all (length before) (picked_by letter words) room in
          record {
            best = rw w best;
            left_out = leaves ∙ rw (w, take_all (length before) (picked_by letter words) room, e, take_all (length words) words (omega arith))
                (omega (arith, left_and_runs (size_by letter) (valid_by letter) some words (picked_by letter words) best.choice));
          }
      go (until less t) = absurd (omega (arith, e, t, some, choice_within (size_by letter) (valid_by letter) words 0 (picked_by letter words) (length before) best.choice less))

  pub goes_on : GoesOn letter words a after
  unfolding earliest_from
  goes_on = go far
    where
      go : Far → GoesOn letter words a after
      go (all room t) = rw (wrote, take_all (length before) (picked_by letter words) room, t, drop_of_length-le words {i = length words} (omega arith)) (sym (append-nil (picked_by letter words)))
      go (until less t) =
          let p = get_or (picked_by letter words) (length before) 0 in
          let none : p + 0 ≡ p = omega arith in
          let later : drop (length before) (picked_by letter words) ≡ map (λ q. p + q) (picked_by letter (drop p words)) =
          from_each (size_by letter) (valid_by letter) some words 0 0 words refl (length before) less
          ∙ rw none at (further (size_by letter) (valid_by letter) p 0 0 (drop p words)) in
          rw (wrote, t, ← later) (sym (take-append-drop (length before) (picked_by letter words)))

  -- a slice with a place for every third word has room for all
  pub room_for_all : length words ≤ 3 * length before → a.taken ≡ length words
  room_for_all h = go far
    where
      go : Far → a.taken ≡ length words
      go (all room t) = t
      go (until less t) =
          let picked = picked_by letter words in
          let three : 3 * length picked ≤ size_by letter * length picked = mul-le-mul_right (length picked) (at_least_three letter 0 some) in
          absurd (omega (arith, three, left_and_runs (size_by letter) (valid_by letter) some words picked best.choice, few_bytes words))
