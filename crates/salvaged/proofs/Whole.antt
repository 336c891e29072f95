-- What is listed of an input: its account, one answer, and all of it where there is room.
use Rattle.std.proofs.Common.{Option, None, Some}
use Prim.Native.Nat.{ℕ, ◌+◌, ◌≤◌}
use mathlib.Core.Path.{◌≡◌, refl, sym, ap, ◌∙◌}
use mathlib.Core.Bool.{true}
use mathlib.Core.List.{List, [], ◌∷◌, map}
use native.Mathlib.Omega.{arith}
use lib.ListN.{length, length-append, length-map}
use Rattle.wire.specs.Line.{size_by}
use Rattle.wire.proofs.Letters.{size_positive}
use Rattle.choosing.specs.Pieces.{pieces}
use Rattle.choosing.proofs.Best.{earliest_is_best}
use Rattle.choosing.proofs.Pieces.{falls, few_pieces}
use Rattle.salvage.specs.Picking.{most_words, valid_by, picked_by}
use Rattle.listing.specs.declared.Item.{Item}
use Rattle.listing.specs.declared.Item.TheVariants as item
use Rattle.salvaged.specs.Log.{log_of}
use Rattle.salvaged.specs.Items.{item_of, items_of}
use Rattle.salvaged.specs.Writing.{Written, written, start, add_all}
use Rattle.salvaged.specs.Listing.{item_line, lines_of, text_of, salvage_of}
use Rattle.salvaged.specs.Promises.{Whole, told, list_of, ListPromise}
use Rattle.salvaged.specs.Whole.{Account, enough, AllThere}
use Rattle.salvaged.specs.declared.Salvaged.{Salvaged}
use Rattle.salvaged.proofs.Walking.{opening_few, items_lines}
use Rattle.salvaged.proofs.Sound.{settled, may_be}
use Rattle.salvaged.proofs.Room.{AllFew, all_added, few_append, few_line, all_few, had_room}

-- two answers that meet the promise are equal, and so are the slices
pub one_list : (input before : List ℕ) {a b : Salvaged} {x y : List ℕ} → ListPromise input before a x → ListPromise input before b y → (a ≡ b) × (x ≡ y)
one_list input before p q = let e = p ∙ sym q in (ap (λ (w : Whole). w.salvaged) e, ap (λ (w : Whole). w.out) e)

module _ (input : List ℕ) (nothing : (log_of input).alone ≡ None) where
  sized : 1 ≤ size_by (log_of input).letter
  sized = size_positive (log_of input).letter ((settled input).fits nothing).0

  -- OF THE WHOLE: the items are the picked reports and each longest run left out, every byte in exactly one, and then `H` and 0
  pub account : Account (log_of input) (items_of (log_of input))
  account =
      let l = log_of input in
      let size = size_by l.letter in
      let valid = valid_by l.letter in
      record {
        taken = may_be input nothing;
        places = picked_by l.letter l.words;
        best = earliest_is_best size valid sized l.words;
        pieces = pieces size valid l.words;
        falls = falls size valid sized l.words;
        items_are = rw nothing;
      }

-- or what stands alone
pub alone : (input : List ℕ) (i : Item) → (log_of input).alone ≡ Some i → items_of (log_of input) ≡ i ∷ []
alone input i e = rw e

-- each line is short, and there are not too many
record Small (lines : List (List ℕ)) : Type 0 where
  few : AllFew lines
  many : length lines ≤ most_words + 2

beside_small : (input : List ℕ) → Small (lines_of (items_of (log_of input)))
beside_small input = go (log_of input).alone refl
  where
    go : (g : Option Item) → (log_of input).alone ≡ g → Small (lines_of (items_of (log_of input)))
    go (Some i) e = rw e (record { few = (opening_few, (few_line i (rw e at (settled input).sound.short), tt)); many = omega arith })
    go None e =
        let letter = (log_of input).letter in
        let words = (log_of input).words in
        let s = (settled input).sound in
        let p = pieces (size_by letter) (valid_by letter) words in
        rw (e, items_lines letter words)
        (record {
          few = (opening_few, few_append (map item_line (map (item_of letter words) p)) (item_line (item.H 0) ∷ []) (all_few letter words s.few) (few_line (item.H 0) (omega arith, tt), tt));
          many = omega (arith, s.few, few_pieces (size_by letter) (valid_by letter) (sized input e) words, length-append (map item_line (map (item_of letter words) p)) (item_line (item.H 0) ∷ []), length-map (map (item_of letter words) p) item_line, length-map p (item_of letter words));
        })

-- where every line had room all of it is there
module _ (input before : List ℕ) (a : Salvaged) (after : List ℕ) (p : ListPromise input before a after) where
  abbrev lines : List (List ℕ)
  lines = lines_of (items_of (log_of input))

  is_there : add_all (length before) start lines ≡ written (text_of lines) true → AllThere input before a after
  unfolding list_of salvage_of
  is_there all =
      let e = p ∙ ap (λ (w : Written). told w before) all in
      record {
        whole = ap (λ (w : Whole). w.salvaged.whole) e;
        long = ap (λ (w : Whole). w.salvaged.written) e;
        text = ap (λ (w : Whole). w.out) e;
      }

  pub all_there : a.whole ≡ true → AllThere input before a after
  unfolding list_of
  all_there h = is_there (had_room (length before) lines [] (sym (ap (λ (w : Whole). w.salvaged.whole) p) ∙ h))

  -- ROOM: with enough places it has
  pub room_for_all : enough ≤ length before → AllThere input before a after
  room_for_all h = let s = beside_small input in is_there (all_added (length before) lines [] s.few (omega (arith, s.many)))
