-- COMES BACK: the salvage of every input, read by the reader of listings in whatever calls, comes back as its items, without a fault, and as a salvage's.
use Rattle.std.proofs.Common.{Option, None, Some}
use Prim.Native.Nat.{ℕ, zero, suc, ◌+◌, ◌-◌, ◌<◌, ◌≤◌}
use mathlib.Core.Path.{◌≡◌, refl, sym, ap, ◌∙◌}
use mathlib.Core.Bool.{Bool, true, false}
use mathlib.Core.List.{List, [], ◌∷◌, ◌++◌, map}
use native.Mathlib.Omega.{arith}
use lib.IntN.{ℤ}
use lib.ListN.{length, take, drop}
use lib.Seq.{take_at}
use Rattle.frames.specs.Words.{is_byte}
use Rattle.fold.specs.Pieces.{Call, Permitted, after, taken_by, written_by}
use Rattle.wire.specs.Line.{size_by}
use Rattle.wire.specs.Numbers.{success}
use Rattle.choosing.specs.Pieces as piece
use Rattle.choosing.specs.Pieces.{Piece, behind, pieces_from, pieces}
use Rattle.choosing.specs.Earliest.{starts}
use Rattle.salvage.specs.Picking.{most_words, valid_by, starts_by}
use Rattle.listing.specs.Scanning.{width, most_lines}
use Rattle.listing.specs.Printing.{all_bytes}
use Rattle.listing.specs.declared.Item.{Item}
use Rattle.listing.specs.declared.Item.TheVariants as item
use Rattle.listing.proofs.Small.{small_report}
use Rattle.listing.proofs.Ordered.{Ordered}
use Rattle.readback.specs.Items.{all_numbers}
use Rattle.readback.specs.Steps.{fresh, of_salvage}
use Rattle.readback.specs.Promises.{ReadPromise, FinishPromise}
use Rattle.readback.specs.Calls.{read_calls}
use Rattle.readback.specs.Whole.{reading, reading_of, printed}
use Rattle.readback.specs.declared.Back.{Back}
use Rattle.readback.proofs.AsItWas.{printed_read, ordered_listed}
use Rattle.readback.proofs.Through.{all_back, all_taken}
use Rattle.salvaged.specs.Log.{log_of}
use Rattle.salvaged.specs.Items.{bytes_at, item_of, items_of}
use Rattle.salvaged.specs.Listing.{item_line, text_of, salvage_of}
use Rattle.salvaged.specs.Promises.{ListPromise}
use Rattle.salvaged.specs.declared.Salvaged.{Salvaged}
use Rattle.salvaged.proofs.Runs.{sized, within}
use Rattle.salvaged.proofs.Room.{next}
use Rattle.salvaged.proofs.Sound.{settled}
use Rattle.salvaged.proofs.Whole.{all_there}

-- the items of a log are in the order of its lines
module _ (letter : ℕ) (words : List ℕ) (few : length words ≤ most_words) where
  abbrev Goes : ℕ → List Piece → Type 0
  Goes last l = Ordered most_lines last (map (item_of letter words) l ++ item.H 0 ∷ [])

  -- bytes left out, the last before a place; and a run that starts at one
  behind_goes : (place n last : ℕ) (l : List Piece) → n ≤ place → place ≤ most_words → last ≤ place + 1 → (1 ≤ n → last ≤ place)
      → ((last : ℕ) → last ≤ place + 1 → Goes last l) → Goes last (behind (size_by letter) (valid_by letter) place n ++ l)
  unfolding item_of
  behind_goes place zero last l h k up left r = r last up
  behind_goes place (suc n) last l h k up left r =
      ((omega (arith, left (omega arith)), omega arith), omega arith, omega arith, r (place - suc n + suc n + 1) (omega arith))

  picked_goes : (place last : ℕ) (l : List Piece) → place + size_by letter ≤ length words → 0 < size_by letter → last ≤ place + 1
      → Goes (place + size_by letter + 1) l → Goes last (piece.picked place ∷ l)
  unfolding item_of
  picked_goes place last l h s up r =
      let small = small_report letter (bytes_at letter words place) in
      ((omega arith, omega (arith, few)), small.0, small.1, r)

  -- what the words from a place on fall into, of which so many are still of a run that was picked, behind so many bytes left out
  pieces_go : (place taken n : ℕ) (rest : List ℕ) (last : ℕ) → rest ≡ drop place words → n ≤ place → place ≤ most_words → last ≤ place + taken + 1 → (1 ≤ n → last ≤ place)
      → Goes last (pieces_from (size_by letter) (valid_by letter) place taken n rest)
  unfolding pieces_from
  pieces_go place taken zero [] last e h k up left = (omega arith, refl)
  pieces_go place taken (suc n) [] last e h k up left =
      behind_goes place (suc n) last [] h k (omega (arith, left (omega arith))) left (λ last up. (omega arith, refl))
  pieces_go place (suc taken) n (w ∷ rest) last e h k up left =
      let t = next words place w rest e in
      pieces_go (suc place) taken n rest last t.0 (omega arith) (omega (arith, t.1)) (omega arith) (λ o. omega (arith, left o))
  pieces_go place zero n (w ∷ rest) last e h k up left =
      let t = next words place w rest e in
      go (starts (size_by letter) (valid_by letter) (w ∷ rest)) refl (is_byte w) refl
      (λ taken m last l u v. pieces_go (suc place) taken m rest last t.0 l (omega (arith, t.1)) u v)
    where
      go : (t : Bool) → starts_by letter (w ∷ rest) ≡ t → (u : Bool) → is_byte w ≡ u
          → ((taken m last : ℕ) → m ≤ suc place → last ≤ suc place + taken + 1 → (1 ≤ m → last ≤ suc place) → Goes last (pieces_from (size_by letter) (valid_by letter) (suc place) taken m rest))
          → Goes last (pieces_from (size_by letter) (valid_by letter) place 0 n (w ∷ rest))
      go true s u b r =
          let size = size_by letter in
          let here = (next words place w rest e).1 in
          let some = sized letter words place here (rw e at s) in
          rw s
          (behind_goes place n last (piece.picked place ∷ pieces_from size (valid_by letter) (suc place) (size - 1) 0 rest) h k (omega arith) left
          (λ last up. picked_goes place last (pieces_from size (valid_by letter) (suc place) (size - 1) 0 rest) (within letter words place here (rw e at s)) some up
          (r (size - 1) 0 (place + size + 1) (omega arith) (omega arith) (λ o. absurd (omega arith)))))
      go false s true b r = rw (s, b) (r 0 (suc n) last (omega arith) (omega arith) (λ _. omega arith))
      go false s false b r =
          rw (s, b) (behind_goes place n last (pieces_from (size_by letter) (valid_by letter) (suc place) 0 0 rest) h k (omega arith) left (λ last up. r 0 0 last (omega arith) (omega arith) (λ o. absurd (omega arith))))

  all_go : Goes 0 (pieces (size_by letter) (valid_by letter) words)
  all_go = pieces_go 0 0 0 words 0 refl (omega arith) (omega arith) (omega arith) (λ _. omega arith)

-- ORDERED: so are those of every input, or what stands alone
pub ordered : (input : List ℕ) → Ordered most_lines 0 (items_of (log_of input))
ordered input = go (log_of input).alone refl
  where
    go : (g : Option Item) → (log_of input).alone ≡ g → Ordered most_lines 0 (items_of (log_of input))
    go None e = rw e (all_go (log_of input).letter (log_of input).words (settled input).sound.few)
    go (Some i) e = rw e (rw e at (settled input).sound.last)

-- the text is the items, printed behind `S`
lines_printed : (is : List Item) → text_of (map item_line is) ≡ all_bytes width is
unfolding text_of
lines_printed [] = refl
lines_printed (i ∷ is) = ap (λ (l : List ℕ). item_line i ++ l) (lines_printed is)

salvage_printed : (input : List ℕ) → salvage_of input ≡ printed true width (items_of (log_of input))
unfolding salvage_of text_of printed
salvage_printed input = rw (lines_printed (items_of (log_of input)))

-- AS IT WAS: the salvage of every input says its items, without a fault, and that it is a salvage's
pub as_it_was : (input : List ℕ) → reading_of (salvage_of input) ≡ reading true (items_of (log_of input)) 0
as_it_was input =
    ap reading_of (salvage_printed input)
    ∙ printed_read true 5 (items_of (log_of input)) refl (ordered_listed width (λ n h. (omega (arith, h), omega (arith, h))) (items_of (log_of input)) 0 (ordered input))

-- THROUGH BOTH: whatever is written of a salvage, all of it, in whatever calls of the reader
module _ (input before : List ℕ) (s : Salvaged) (out : List ℕ) (p : ListPromise input before s out) (all : s.whole ≡ true) where
  abbrev text : List ℕ
  text = take s.written out

  says : reading_of text ≡ reading true (items_of (log_of input)) 0
  says =
      let t = all_there input before s out p all in
      ap reading_of (ap (λ (l : List ℕ). take s.written l) t.text ∙ take_at (salvage_of input) (drop (length (salvage_of input)) before) s.written (sym t.long)) ∙ as_it_was input

  -- comes back as the numbers of its items, without a fault, as a salvage's; and no call is refused
  pub comes_back : (ks : List (Call Back ℤ)) (a : Back) → Permitted read_calls fresh ks → taken_by read_calls ks ≡ text → FinishPromise (after read_calls fresh ks) 0 a
      → (written_by read_calls ks ≡ all_numbers (items_of (log_of input))) × (a.line ≡ 0) × (of_salvage (after read_calls fresh ks) ≡ true)
  comes_back = all_back text true (items_of (log_of input)) says

  pub none_refused : (ks : List (Call Back ℤ)) (piece rest : List ℕ) (room left : List ℤ) (a : Back) → Permitted read_calls fresh ks → ReadPromise (after read_calls fresh ks) piece room a left
      → taken_by read_calls ks ++ (piece ++ rest) ≡ text → a.refusal ≡ success
  none_refused = all_taken text true (items_of (log_of input)) says
