-- Room for all lines: each has forty bytes at most, and there are no more than one for each word, the first and `H`.
use Prim.Native.Nat.{ℕ, zero, suc, ◌+◌, ◌-◌, ◌*◌, ◌<◌, ◌≤◌}
use mathlib.Core.Path.{◌≡◌, refl, sym, ap, ◌∙◌}
use mathlib.Core.Bool.{Bool, true, false, true≢false}
use mathlib.Core.Logic.{◌⊎◌, inl, inr, ⊎_elim}
use mathlib.Core.List.{List, [], ◌∷◌, ◌++◌, append_assoc, append-nil}
use native.Mathlib.Omega.{arith}
use lib.ListN.{length, drop, length-append, length-drop}
use lib.Seq.{drop-drop}
use lib.Dec.{leb}
use borrow.Author.Tests.{le-leb}
use Rattle.numbers.proofs.Choices.{cases}
use Rattle.frames.specs.Words.{is_byte}
use Rattle.choosing.specs.Pieces as piece
use Rattle.choosing.specs.Pieces.{Piece, behind, pieces_from, pieces}
use Rattle.wire.specs.Line.{size_by}
use Rattle.choosing.specs.Earliest.{starts}
use Rattle.salvage.specs.Picking.{most_words, valid_by, starts_by}
use Rattle.listing.specs.Printing.{form_of}
use Rattle.listing.specs.declared.Item.{Item}
use Rattle.listing.proofs.Few.{Short, few_form, most_item}
use Rattle.salvaged.specs.Items.{item_of}
use Rattle.salvaged.specs.Writing.{Written, written, add, add_all}
use Rattle.salvaged.specs.Listing.{item_line, text_of}
use Rattle.salvaged.specs.Walk.{lines_in}
use Rattle.salvaged.proofs.Runs.{run_short, left_short}

-- lines of which none is longer than forty bytes
abbrev pub AllFew : List (List ℕ) → Type 0
AllFew [] = Unit {0}
AllFew (line ∷ lines) = (length line ≤ 40) × AllFew lines

pub all_added : (room : ℕ) (lines : List (List ℕ)) (text : List ℕ) → AllFew lines → length text + 40 * length lines ≤ room
    → add_all room (written text true) lines ≡ written (text ++ text_of lines) true
unfolding add_all add text_of
all_added room [] text few h = rw (append-nil text)
all_added room (line ∷ lines) text few h =
    rw (le-leb (length text + length line) room (omega arith))
    (all_added room lines (text ++ line) few.1 (omega (arith, length-append text line)) ∙ ap (λ (l : List ℕ). written l true) (append_assoc text line (text_of lines)))

-- and where every line had room, all of them are there
no_more : (room : ℕ) (lines : List (List ℕ)) (text : List ℕ) → add_all room (written text false) lines ≡ written text false
unfolding add_all add
no_more room [] text = refl
no_more room (line ∷ lines) text = no_more room lines text

one_more_lem : (room : ℕ) (line text : List ℕ)
    → (add room (written text true) line ≡ written (text ++ line) true) ⊎ (add room (written text true) line ≡ written text false)
unfolding add
one_more_lem room line text =
    cases (λ (w : Written). (w ≡ written (text ++ line) true) ⊎ (w ≡ written text false)) (leb (length text + length line) room) (λ _. inl refl) (λ _. inr refl)

pub had_room : (room : ℕ) (lines : List (List ℕ)) (text : List ℕ) → (add_all room (written text true) lines).whole ≡ true
    → add_all room (written text true) lines ≡ written (text ++ text_of lines) true
unfolding add_all text_of
had_room room [] text h = rw (append-nil text)
had_room room (line ∷ lines) text h =
    ⊎_elim
    (λ e. ap (λ (w : Written). add_all room w lines) e ∙ had_room room lines (text ++ line) (sym (ap (λ (w : Written). (add_all room w lines).whole) e) ∙ h)
    ∙ ap (λ (l : List ℕ). written l true) (append_assoc text line (text_of lines)))
    (λ e. absurd (true≢false (sym h ∙ ap (λ (w : Written). (add_all room w lines).whole) e ∙ ap (λ (w : Written). w.whole) (no_more room lines text)))) (one_more_lem room line text)

pub few_append : (a b : List (List ℕ)) → AllFew a → AllFew b → AllFew (a ++ b)
few_append [] b h k = k
few_append (line ∷ a) b h k = (h.0, few_append a b h.1 k)

-- a short item has a line of few bytes
pub few_line : (i : Item) → Short (form_of i).fields → length (item_line i) ≤ 40
few_line i h = omega (arith, few_form (form_of i) h, most_item i)

-- the words behind the first
pub next : (words : List ℕ) (place w : ℕ) (rest : List ℕ) → w ∷ rest ≡ drop place words → (rest ≡ drop (suc place) words) × (place < length words)
next words place w rest e =
    let n : place + 1 ≡ suc place = omega arith in
    (ap (λ (l : List ℕ). drop 1 l) e ∙ drop-drop 1 place words ∙ ap (λ (m : ℕ). drop m words) n, omega (arith, ap length e, length-drop place words))

-- and so have all of a log
module _ (letter : ℕ) (words : List ℕ) (few : length words ≤ most_words) where
  abbrev FewLines : List Piece → Type 0
  FewLines l = AllFew (lines_in letter words l)

  behind_few : (place n : ℕ) (l : List Piece) → n ≤ place → place ≤ most_words → FewLines l → FewLines (behind (size_by letter) (valid_by letter) place n ++ l)
  behind_few place zero l h k r = r
  behind_few place (suc n) l h k r = (few_line (item_of letter words (piece.left (place - suc n) (suc n))) (left_short letter place (suc n) words h k), r)

  pieces_few : (place taken n : ℕ) (rest : List ℕ) → rest ≡ drop place words → n ≤ place → place ≤ most_words → FewLines (pieces_from (size_by letter) (valid_by letter) place taken n rest)
  unfolding pieces_from
  pieces_few place taken zero [] e h k = tt
  pieces_few place taken (suc n) [] e h k = behind_few place (suc n) [] h k tt
  pieces_few place (suc taken) n (w ∷ rest) e h k =
      let t = next words place w rest e in
      pieces_few (suc place) taken n rest t.0 (omega arith) (omega (arith, t.1))
  pieces_few place zero n (w ∷ rest) e h k =
      let t = next words place w rest e in
      go (starts (size_by letter) (valid_by letter) (w ∷ rest)) refl (is_byte w) refl (λ taken m l. pieces_few (suc place) taken m rest t.0 l (omega (arith, t.1)))
    where
      go : (t : Bool) → starts_by letter (w ∷ rest) ≡ t → (u : Bool) → is_byte w ≡ u
          → ((taken m : ℕ) → m ≤ suc place → FewLines (pieces_from (size_by letter) (valid_by letter) (suc place) taken m rest))
          → FewLines (pieces_from (size_by letter) (valid_by letter) place 0 n (w ∷ rest))
      go true s u b r =
          let i = run_short letter words place (next words place w rest e).1 (rw e at s) few in
          rw s (behind_few place n (piece.picked place ∷ pieces_from (size_by letter) (valid_by letter) (suc place) (size_by letter - 1) 0 rest) h k (few_line (item_of letter words (piece.picked place)) i, r (size_by letter - 1) 0 (omega arith)))
      go false s true b r = rw (s, b) (r 0 (suc n) (omega arith))
      go false s false b r = rw (s, b) (behind_few place n (pieces_from (size_by letter) (valid_by letter) (suc place) 0 0 rest) h k (r 0 0 (omega arith)))

  pub all_few : FewLines (pieces (size_by letter) (valid_by letter) words)
  all_few = pieces_few 0 0 0 words refl (omega arith) (omega arith)
