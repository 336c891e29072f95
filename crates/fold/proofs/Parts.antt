-- Parts of a line, one behind the other.
use Prim.Native.Nat.{ℕ, ◌+◌, ◌-◌, ◌≤◌}
use mathlib.Core.Path.{◌≡◌, refl, sym, ◌∙◌, ap}
use mathlib.Core.Bool.{true}
use mathlib.Core.List.{List, [], ◌∷◌, ◌++◌, append_assoc, append-nil}
use native.Mathlib.Omega.{arith}
use lib.ListN.{length, take, drop, length-append, length-drop, drop_of_length-le}
use lib.Seq.{take_all, drop-drop, take_at, drop_at}
use borrow.Rule.Slice.PartMut.{put_mid}
use Rattle.fold.specs.Fold.{MachineOver, ran, behind, written, places, takes, run, Part}
use Rattle.fold.proofs.Laws.{written_append, within}

-- a list from a place on, as the code lends it; and the list, when that part is back
module _ {X : Type 0} where
  pub rest_is : (l : List X) (a : ℕ) → take (length l - a) (drop a l) ≡ drop a l
  rest_is l a = take_all (length l - a) (drop a l) (simp length-drop (omega arith))

  none_after : (l : List X) (a : ℕ) → drop (length l - a) (drop a l) ≡ []
  none_after l a = drop_of_length-le (drop a l) {i = length l - a} (simp length-drop (omega arith))

  pub back : (l last : List X) (a : ℕ) → put_mid a (length l - a) l last ≡ take a l ++ last
  back l last a = rw (none_after l a, append-nil last)

module _ {W S A X : Type 0} (m : MachineOver W S A X) where
  -- nothing is taken yet; and one word
  pub none : (s : S) (words : List W) (out : List X) → Part m s words out [] 0 0 s out
  none s words out = let z : length out - 0 ≡ length out = omega arith in record { words_are = refl; places_are = refl; wrote = refl; is = rw z }

  pub one : (s : S) (w : W) (words : List W) (out : List X) → takes m s w (length out) ≡ true
      → Part m s (w ∷ words) out (m.answer s w ∷ []) 1 (places m s w) (m.next s w) (m.writes (m.answer s w) ++ drop (places m s w) out)
  unfolding run
  one s w words out e = record { words_are = refl; places_are = rw append-nil; wrote = rw append-nil; is = rw e }

  none_written : (l : List A) → length l ≡ 0 → written m l ≡ []
  none_written [] e = refl
  none_written (a ∷ l) e = absurd (omega arith)

  module _ {s t : S} {words : List W} {before mid : List X} {l : List A} {at used : ℕ} (p : Part m s words before l at used t mid) where
    abbrev later : List A
    later = (run m t (drop at words) (length before - used)).answers

    bounds : (length (l ++ later) ≤ length words) × (length (written m (l ++ later)) ≤ length before)
    bounds = rw p.is at (within m words s (length before))

    -- no more words than there are, and no more places
    pub part_within : at ≤ length words
    part_within = omega (arith, p.words_are, bounds.0, length-append l later)

    pub part_room : used ≤ length before
    part_room = omega (arith, p.places_are, bounds.1, ap length (written_append m l later), length-append (written m l) (written m later))

    pub part_used : take used mid ≡ written m l
    part_used = ap (take used) p.wrote ∙ take_at (written m l) (drop used before) used (sym p.places_are)

    pub part_left : drop used mid ≡ drop used before
    part_left = ap (drop used) p.wrote ∙ drop_at (written m l) (drop used before) used (sym p.places_are)

    pub part_long : length mid ≡ length before
    part_long = ap length p.wrote ∙ length-append (written m l) (drop used before) ∙ omega (arith, p.places_are, part_room, length-drop used before)

    -- where no word is taken the slice is as it was
    pub part_none : at ≡ 0 → mid ≡ before
    part_none z =
        let e = none_written l (sym p.words_are ∙ z) in
        let u : used ≡ 0 = p.places_are ∙ ap length e in
        p.wrote ∙ rw (e, u)

    -- a part, and then a part of the rest
    pub joins : {k : List A} {at' used' : ℕ} {u : S} {last : List X} → Part m t (drop at words) (drop used mid) k at' used' u last
        → Part m s words before (l ++ k) (at + at') (used + used') u (take used mid ++ last)
    joins {k} {at'} {used'} q =
        let room : length (drop used mid) - used' ≡ length before - (used + used') = omega (arith, ap length part_left, length-drop used before) in
        record {
          words_are = omega (arith, p.words_are, q.words_are, length-append l k);
          places_are = rw (written_append m l k) (omega (arith, p.places_are, q.places_are, length-append (written m l) (written m k)));
          wrote = rw (part_used, q.wrote, part_left, drop-drop used' used before, written_append m l k, append_assoc);
          is = p.is ∙ ap (behind l) (rw (ap length part_left, length-drop used before) at q.is) ∙ rw (drop-drop at' at words, append_assoc, ← room, ap length part_left, length-drop used before);
        }

    -- the run ends here
    pub part_ends : (number : ℕ) → run m t (drop at words) (length before - used) ≡ ran number t [] → run m s words (length before) ≡ ran number t l
    part_ends number e = p.is ∙ rw (e, append-nil)

    pub part_all : length words ≤ at → run m s words (length before) ≡ ran 0 t l
    unfolding run
    part_all h = part_ends 0 (rw (drop_of_length-le words h))
