-- The last row, and what is told of a fault.
use Prim.Native.Nat.{ℕ, ◌+◌, ◌<◌, ◌≤◌}
use mathlib.Core.Path.{◌≡◌, sym, ◌∙◌, ap, subst}
use mathlib.Core.Bool.{Bool, true, false, cond, ◌&&◌}
use mathlib.Core.List.{List, [], ◌∷◌, ◌++◌, append-nil}
use native.Mathlib.Omega.{arith}
use lib.Dec.{eqb}
use lib.IntN.{ℤ, pos}
use lib.ListN.{length, length-append}
use borrow.Author.Tests.{ne_eqb}
use Rattle.shell.specs.Outside.{Handed, Said}
use Rattle.shell.specs.Standing.{Closes, Ends}
use Rattle.shell.proofs.Laws as standing
use Rattle.text.specs.Growth.{none, shown, grown, grown_by, text_of}
use Rattle.text.specs.Decimals.{plain, decimal_of}
use Rattle.text.specs.declared.Text.{Text}
use Rattle.text.proofs.Digits.{decimal_few}
use Rattle.text.proofs.Laws.{text_shows, text_long}
use Rattle.wire.specs.Numbers.{success}
use Rattle.listing.specs.Lines.{newline}
use Rattle.listing.proofs.Grown.{grown_append}
use Rattle.readback.specs.Steps.{good, has_ended}
use Rattle.readback.specs.Pieces.{faulty_line, back}
use Rattle.readback.specs.Promises.{finish_of, FinishPromise}
use Rattle.readback.specs.declared.Back.{Back}
use Rattle.mtable.specs.Table.{comma, commas, last_row, of_fault, fault_words}
use Rattle.mtable.specs.Program.{mtable}
use Rattle.mtable.specs.Blocks.{end_line}
use Rattle.mtable.specs.declared.Place.{Place}

-- the row of a fault, and what is told of it, as texts
module _ (line : ℕ) (some : line ≡ 0 → ⊥) (small : line < 4294967296) (x : ℤ) (is : x ≡ pos line) where
  digits : length (decimal_of plain (pos line)) ≤ 11
  digits = decimal_few plain 9 (pos line) (omega arith) (omega arith)

  few_last : length (last_row line) ≤ 40
  few_last = rw (ne_eqb line 0 some) (simp length-append (omega (arith, digits)))

  few_words : length (fault_words line) ≤ 40
  few_words = rw (ne_eqb line 0 some) (simp length-append (omega (arith, digits)))

  -- "fault,", the line, commas and a newline
  module _ (a b c t : Text) (e : a ≡ grown_by none (102 ∷ 97 ∷ 117 ∷ 108 ∷ 116 ∷ comma ∷ [])) (f : b ≡ grown_by a (decimal_of plain x)) (g : c ≡ grown_by b (commas 6)) (h : t ≡ grown c newline) where
    row_is : t ≡ text_of (last_row line)
    row_is = simp (h, g, f, e, is) (sym (rw (ne_eqb line 0 some) (simp grown_append)))

    pub row_few : t.len ≤ 40
    row_few = omega (arith, ap (λ (t : Text). t.len) row_is, text_long (last_row line) few_last, few_last)

    pub row_shows : shown t ≡ last_row line
    row_shows = ap shown row_is ∙ text_shows (last_row line) few_last

  -- the words, the line and a newline
  module _ (a b t : Text) (e : a ≡ grown_by none of_fault) (f : b ≡ grown_by a (decimal_of plain x)) (h : t ≡ grown b newline) where
    words_is : t ≡ text_of (fault_words line)
    words_is = simp (h, f, e, is) (sym (rw (ne_eqb line 0 some) (simp grown_append)))

    pub words_few : t.len ≤ 40
    words_few = omega (arith, ap (λ (t : Text). t.len) words_is, text_long (fault_words line) few_words, few_words)

    pub words_shows : shown t ≡ fault_words line
    words_shows = ap shown words_is ∙ text_shows (fault_words line) few_words

-- the row is handed out, and then the words are told
module _ (t t' : ℕ) (well : Bool) (row told bytes : List ℕ) (c : Closes mtable t row told) (e : bytes ≡ row) (h : Handed mtable.output t t' well bytes) where
  here : Closes mtable t (bytes ++ []) told
  here = subst (λ (l : List ℕ). Closes mtable t l told) (sym e ∙ sym (append-nil bytes)) c

  pub unshown : well ≡ false → Ends mtable t' false
  unshown w = standing.fails mtable t' (standing.fails_showing mtable t t' well bytes [] told here h w)

  pub then_told : well ≡ true → (t'' : ℕ) (said : Bool) (words : List ℕ) → words ≡ told → Said t' t'' said words → Ends mtable t'' said
  then_told w t'' said words f s = standing.tells mtable t' t'' said told (standing.shows mtable t t' well bytes [] told here h w) (subst (Said t' t'' said) f s)

-- the line of the end
module _ (w : Place) (e : Back) (p : FinishPromise w.reader w.held e) where
  pub end_is : end_line w ≡ e.line
  end_is = ap (λ (b : Back). b.line) (sym p)

  pub end_none : e.refusal ≡ 0 → good w.reader ≡ true → end_line w ≡ 0
  unfolding finish_of
  end_none y g = end_is ∙ go (has_ended w.reader && eqb w.held 0) (rw g at p)
    where
      go : (t : Bool) → e ≡ cond t (back success w.reader 0 0 0) (back faulty_line w.reader 0 0 (w.reader.lines + 1)) → e.line ≡ 0
      go true k = ap (λ (b : Back). b.line) k
      go false k = absurd (omega (arith, y, ap (λ (b : Back). b.refusal) k))

  pub end_some : (e.refusal ≡ 0 → ⊥) → good w.reader ≡ true → e.line ≡ 0 → ⊥
  unfolding finish_of
  end_some n g = go (has_ended w.reader && eqb w.held 0) (rw g at p)
    where
      go : (t : Bool) → e ≡ cond t (back success w.reader 0 0 0) (back faulty_line w.reader 0 0 (w.reader.lines + 1)) → e.line ≡ 0 → ⊥
      go true k z = n (ap (λ (b : Back). b.refusal) k)
      go false k z = omega (arith, z, ap (λ (b : Back). b.line) k)
