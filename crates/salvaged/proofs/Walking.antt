-- A walk through the words of a log: what a step prints, and what is printed so far.
use Prim.Native.Nat.{ℕ, zero, suc, ◌+◌, ◌-◌, ◌<◌, ◌≤◌}
use mathlib.Core.Path.{◌≡◌, refl, sym, ap, ◌∙◌}
use mathlib.Core.Bool.{true, false}
use mathlib.Core.List.{List, [], ◌∷◌, ◌++◌, map, map-append, append_assoc}
use native.Mathlib.Omega.{arith}
use lib.ListN.{length, drop, get_or}
use Rattle.frames.specs.Words.{is_byte}
use Rattle.wire.specs.Line.{size_by}
use Rattle.choosing.specs.Pieces as piece
use Rattle.choosing.specs.Pieces.{Piece, behind, pieces}
use Rattle.choosing.proofs.Walk.{pieces_picks, pieces_left, pieces_marked, pieces_ended}
use Rattle.salvage.specs.Picking.{valid_by, starts_by}
use Rattle.listing.specs.declared.Item.TheVariants as item
use Rattle.listing.specs.Scanning.{width}
use Rattle.listing.specs.Printing.{opening_s, line_of}
use Rattle.listing.proofs.Few.{few_form}
use Rattle.salvaged.specs.Items.{item_of, items_in}
use Rattle.salvaged.specs.Writing.{Written}
use Rattle.salvaged.specs.Listing.{item_line}
use Rattle.salvaged.specs.Walk.{Stands, Adds, AddsLeft, lines_in, rest_at, Stepped}
use Rattle.salvaged.specs.Promises.{whole, told}
use Rattle.salvaged.specs.declared.Salvaged.{Salvaged}
use Rattle.salvaged.specs.declared.Step.{Step}
use Rattle.salvaged.proofs.Writing.{adds_both, adds_none}
use Rattle.salvaged.proofs.Runs.{sized, within}

-- the lines of pieces behind others
lines_append : (letter : ℕ) (words : List ℕ) (a b : List Piece) → lines_in letter words (a ++ b) ≡ lines_in letter words a ++ lines_in letter words b
lines_append letter words a b =
    ap (map item_line) (map-append (item_of letter words) a b) ∙ map-append item_line (map (item_of letter words) a) (map (item_of letter words) b)

-- the line of bytes left out
left_line : (letter at n : ℕ) (words : List ℕ) → (n ≡ 0 → ⊥) → lines_in letter words (behind (size_by letter) (valid_by letter) at n) ≡ item_line (item.D (at - n + n + 1) n) ∷ []
unfolding item_of
left_line letter at zero words k = absurd (k refl)
left_line letter at (suc n) words k = refl

pub none_left : (at left : ℕ) (told : Salvaged) (out : List ℕ) → left ≡ 0 → AddsLeft at left told out told out
none_left at left told out e letter words = rw e (adds_none told out)

pub some_left : (at left : ℕ) {told next : Salvaged} {out after : List ℕ} → (left ≡ 0 → ⊥) → Adds (item_line (item.D (at - left + left + 1) left) ∷ []) told out next after → AddsLeft at left told out next after
some_left at left k a letter words = rw (left_line letter at left words k) a

module _ (letter : ℕ) (words : List ℕ) (at left : ℕ) (told : Salvaged) (out : List ℕ) (h : at < length words) (small : left ≤ at) where
  -- a run
  pub run_step : starts_by letter (drop at words) ≡ true → (middle : Salvaged) (between : List ℕ) (next : Salvaged) (after : List ℕ)
      → AddsLeft at left told out middle between → Adds (item_line (item_of letter words (piece.picked at)) ∷ []) middle between next after
      → Stepped letter words at left told out (record { at = at + size_by letter; left = 0; told = next }) after
  run_step e middle between next after p q =
      let b = behind (size_by letter) (valid_by letter) at left in
      record {
        printed = b ++ piece.picked at ∷ [];
        rest = pieces_picks (size_by letter) (valid_by letter) words at h (sized letter words at h e) e left ∙ sym (append_assoc b (piece.picked at ∷ []) (rest_at letter words (at + size_by letter) 0));
        adds = rw (lines_append letter words b (piece.picked at ∷ [])) (adds_both (p letter words) q);
        further = omega (arith, sized letter words at h e);
        within = within letter words at h e;
        small = omega arith;
      }

  -- a byte left out
  pub byte_step : starts_by letter (drop at words) ≡ false → is_byte (get_or words at 0) ≡ true → Stepped letter words at left told out (record { at = at + 1; left = left + 1; told = told }) out
  byte_step e b =
      record {
        printed = [];
        rest = pieces_left (size_by letter) (valid_by letter) words at h e b left;
        adds = adds_none told out;
        further = omega arith;
        within = omega arith;
        small = omega arith;
      }

  -- a 256 or 257
  pub mark_step : starts_by letter (drop at words) ≡ false → is_byte (get_or words at 0) ≡ false → (next : Salvaged) (after : List ℕ)
      → AddsLeft at left told out next after → Stepped letter words at left told out (record { at = at + 1; left = 0; told = next }) after
  mark_step e b next after p =
      record {
        printed = behind (size_by letter) (valid_by letter) at left;
        rest = pieces_marked (size_by letter) (valid_by letter) words at h e b left;
        adds = p letter words;
        further = omega arith;
        within = omega arith;
        small = omega arith;
      }

-- what is printed so far, and what is left
pub record Walking (letter : ℕ) (words : List ℕ) (told : Salvaged) (before : List ℕ) (s : Step) (out : List ℕ) : Type 0 where
  pub printed : List Piece
  pub rest : pieces (size_by letter) (valid_by letter) words ≡ printed ++ rest_at letter words s.at s.left
  pub adds : Adds (lines_in letter words printed) told before s.told out
  pub within : s.at ≤ length words
  pub small : s.left ≤ s.at

module _ {letter : ℕ} {words : List ℕ} {told : Salvaged} {before : List ℕ} where
  pub begins : Walking letter words told before (record { at = 0; left = 0; told = told }) before
  begins = record { printed = []; rest = refl; adds = adds_none told before; within = omega arith; small = omega arith }

  module _ {s : Step} {out : List ℕ} (w : Walking letter words told before s out) where
    pub goes_on : {next : Step} {after : List ℕ} → Stepped letter words s.at s.left s.told out next after → Walking letter words told before next after
    goes_on {next} {after} t =
        record {
          printed = w.printed ++ t.printed;
          rest = w.rest ∙ ap (λ (l : List Piece). w.printed ++ l) t.rest ∙ sym (append_assoc w.printed t.printed (rest_at letter words next.at next.left));
          adds = rw (lines_append letter words w.printed t.printed) (adds_both w.adds t.adds);
          within = t.within;
          small = t.small;
        }

    pub all_printed : {last : Salvaged} {after : List ℕ} → length words ≤ s.at → AddsLeft s.at s.left s.told out last after
        → Adds (lines_in letter words (pieces (size_by letter) (valid_by letter) words)) told before last after
    all_printed h p =
        let b = behind (size_by letter) (valid_by letter) s.at s.left in
        let e : pieces (size_by letter) (valid_by letter) words ≡ w.printed ++ b =
        w.rest ∙ ap (λ (l : List Piece). w.printed ++ l) (pieces_ended (size_by letter) (valid_by letter) words s.at s.left h) in
        rw (e, lines_append letter words w.printed b) (adds_both w.adds (p letter words))

-- the lines of a whole log: those of its pieces, and then `H` and 0
pub items_lines : (letter : ℕ) (words : List ℕ) → map item_line (items_in letter words) ≡ lines_in letter words (pieces (size_by letter) (valid_by letter) words) ++ item_line (item.H 0) ∷ []
items_lines letter words = map-append item_line (map (item_of letter words) (pieces (size_by letter) (valid_by letter) words)) (item.H 0 ∷ [])

-- the first line is short
pub opening_few : length (line_of width (opening_s width)) ≤ 40
opening_few = omega (arith, few_form (opening_s width) (omega arith, tt))

-- what is told in the end
pub in_the_end : {before : List ℕ} {w : Written} {s : Salvaged} {out : List ℕ} → Stands before w s out → whole s out ≡ told w before
in_the_end {before} {w} t = rw (t.is, t.wrote)
