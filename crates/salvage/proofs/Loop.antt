-- The loop of the picking: what the words passed have given, and what the others are still to give.
use Prim.Native.Nat.{ℕ, suc, ◌+◌, ◌-◌, ◌*◌, ◌<◌, ◌≤◌}
use mathlib.Core.Path.{◌≡◌, refl, ap, ◌∙◌}
use mathlib.Core.Bool.{Bool, true, false, cond}
use mathlib.Core.List.{List, [], ◌∷◌, ◌++◌, append_assoc, append-nil}
use native.Mathlib.Omega.{arith}
use native.Mathlib.Nat.{mul-add}
use lib.ListN.{length, take, drop, get_or, set, length-append, length-drop}
use lib.Seq.{take_all, take_at, get_or_at, set_at, drop-cons}
use borrow.Author.Tests.{le-leb, lt-leb}
use Rattle.frames.specs.Words.{is_byte}
use Rattle.wire.specs.Line.{size_by}
use Rattle.choosing.specs.Choice.{bytes_in}
use Rattle.choosing.specs.Earliest.{earliest_from}
use Rattle.choosing.proofs.Walk.{word_counted, picks, reaches, run_counted, passes, ended}
use Rattle.salvage.specs.Picking.{valid_by, starts_by, picked_by, whole, taken_of, left_of, picking}

-- the runs that start from a place on
abbrev later : ℕ → ℕ → List ℕ → List ℕ
later letter at words = earliest_from (size_by letter) (valid_by letter) at 0 (drop at words)

pub record Going (letter : ℕ) (words before : List ℕ) (out : List ℕ) (at runs left : ℕ) : Type 0 where
  pub front : List ℕ
  pub many : length front ≡ runs
  pub few : runs ≤ length before
  pub wrote : out ≡ front ++ drop runs before
  pub within : at ≤ length words
  pub small : left ≤ at
  pub rest : picked_by letter words ≡ front ++ later letter at words
  pub bytes : left + size_by letter * runs ≡ bytes_in (take at words)

pub one_at_most : (b : Bool) → cond b 1 0 ≤ 1
one_at_most true = omega arith
one_at_most false = omega arith

pub begins : (letter : ℕ) (words before : List ℕ) → Going letter words before before 0 0 0
unfolding bytes_in
begins letter words before = record { front = []; many = refl; few = omega arith; wrote = refl; within = omega arith; small = omega arith; rest = refl; bytes = omega arith }

module _ {letter : ℕ} {words before out : List ℕ} {at runs left : ℕ} (g : Going letter words before out at runs left) where
  pub long : length out ≡ length before
  long = ap length g.wrote ∙ length-append g.front (drop runs before) ∙ omega (arith, length-drop runs before, g.many, g.few)

  -- a run more
  pub run_more : 0 < size_by letter → at < length words → runs < length out → starts_by letter (drop at words) ≡ true
      → Going letter words before (set out runs at) (at + size_by letter) (runs + 1) left
  run_more some h room e =
      let place : drop runs before ≡ get_or before runs 0 ∷ drop (suc runs) before = drop-cons before runs 0 (omega (arith, long)) in
      let put : set out runs at ≡ g.front ++ at ∷ drop (suc runs) before =
      ap (λ (l : List ℕ). set l runs at) (g.wrote ∙ ap (λ (l : List ℕ). g.front ++ l) place)
      ∙ set_at g.front (get_or before runs 0) (drop (suc runs) before) at runs g.many in
      let next : runs + 1 ≡ suc runs = omega arith in
      record {
        front = g.front ++ at ∷ [];
        many = length-append g.front (at ∷ []) ∙ ap (λ (n : ℕ). n + 1) g.many;
        few = omega (arith, long);
        wrote = rw (next, append_assoc) put;
        small = omega (arith, g.small);
        within = reaches (size_by letter) (valid_by letter) words at h some e;
        rest = g.rest ∙ rw (picks (size_by letter) (valid_by letter) words at h some e, append_assoc);
        bytes = omega (arith, g.bytes, run_counted (size_by letter) (valid_by letter) words at h some e, mul-add (size_by letter) runs 1);
      }

  -- a word more that starts none
  pub word_more : at < length words → starts_by letter (drop at words) ≡ false
      → Going letter words before out (at + 1) runs (left + cond (is_byte (get_or words at 0)) 1 0)
  word_more h e =
      record {
        front = g.front;
        many = g.many;
        few = g.few;
        wrote = g.wrote;
        within = omega arith;
        small = omega (arith, g.small, one_at_most (is_byte (get_or words at 0)));
        rest = g.rest ∙ ap (λ (l : List ℕ). g.front ++ l) (passes (size_by letter) (valid_by letter) words at h e);
        bytes = omega (arith, g.bytes, word_counted words at h);
      }

  -- what is told then
  closes : take (length before) (picked_by letter words) ≡ g.front → taken_of letter words (length before) ≡ at
      → whole (record { refusal = 0; taken = at; runs = runs; left = left }) out ≡ picking letter words before
  unfolding picking left_of
  closes shown taken =
      let l : left ≡ bytes_in (take at words) - size_by letter * runs = omega (arith, g.bytes) in
      rw (shown, taken, g.many, ← l) (ap (λ (o : List ℕ). whole (record { refusal = 0; taken = at; runs = runs; left = left }) o) g.wrote)

  -- no place for a run, and the end of the words
  pub stops : 0 < size_by letter → at < length words → length out ≤ runs → starts_by letter (drop at words) ≡ true
      → whole (record { refusal = 0; taken = at; runs = runs; left = left }) out ≡ picking letter words before
  unfolding taken_of
  stops some h full e =
      let room : length before ≡ runs = omega (arith, long, g.few) in
      let more = later letter (at + size_by letter) words in
      let all : picked_by letter words ≡ g.front ++ at ∷ more = g.rest ∙ ap (λ (l : List ℕ). g.front ++ l) (picks (size_by letter) (valid_by letter) words at h some e) in
      let fewer : runs < length (g.front ++ at ∷ more) = omega (arith, length-append g.front (at ∷ more), g.many) in
      closes (rw (room, all) (take_at g.front (at ∷ more) runs g.many))
      (rw (room, all, lt-leb (length (g.front ++ at ∷ more)) runs fewer) (get_or_at g.front at more 0 runs g.many))

  pub finishes : length words ≤ at → whole (record { refusal = 0; taken = at; runs = runs; left = left }) out ≡ picking letter words before
  unfolding taken_of
  finishes h =
      let all : picked_by letter words ≡ g.front =
      g.rest ∙ ap (λ (l : List ℕ). g.front ++ l) (ended (size_by letter) (valid_by letter) words at h) ∙ append-nil g.front in
      let room : length g.front ≤ length before = omega (arith, g.many, g.few) in
      closes (rw all (take_all (length before) g.front room)) (rw (all, le-leb (length g.front) (length before) room) (omega (arith, g.within)))
