-- The table of a piece of a listing in front of more: the rows of its items, and then what is written of the rest.
use Rattle.std.proofs.Common.{Option, None, Some}
use Prim.Native.Nat.{ℕ, ◌*◌, ◌≤◌}
use mathlib.Core.Path.{◌≡◌, refl, sym, ◌∙◌, ap}
use mathlib.Core.Bool.{Bool, true, false, not, ◌&&◌}
use mathlib.Core.Logic.{⊎_elim}
use mathlib.Core.List.{List, [], ◌∷◌, ◌++◌, append_assoc, append-nil}
use native.Mathlib.Omega.{arith}
use lib.Dec.{eqb}
use lib.IntN.{ℤ}
use lib.ListN.{length, drop}
use borrow.Author.Tests.{eqb-true, eqb-false}
use Rattle.numbers.proofs.Tested.{right}
use Rattle.fold.specs.Fold.{Ran, places, run}
use Rattle.fold.proofs.Laws.{over_taken}
use Rattle.wire.specs.Numbers.{success}
use Rattle.listing.specs.Items.{items_in}
use Rattle.listing.specs.declared.Item.{Item}
use Rattle.readback.specs.Items.{all_numbers, item_in}
use Rattle.readback.specs.Steps.{fresh, step_of, good, said, above, has_ended, of_salvage}
use Rattle.readback.specs.Pieces.{cut_in, body_of, is_whole, reads, read_lines, lines_of, items_among, faulty_line}
use Rattle.readback.specs.Promises.{ReadPromise, FinishPromise}
use Rattle.readback.specs.Held.{Ready}
use Rattle.readback.specs.Whole.{Reading, reading, reading_from, reading_of}
use Rattle.readback.specs.declared.Readback.{Readback}
use Rattle.readback.specs.declared.Back.{Back}
use Rattle.readback.proofs.Again.{not_refused}
use Rattle.readback.proofs.Calls as calls
use Rattle.readback.proofs.Goodness.{step_ended, step_item, step_leaves, unread}
use Rattle.readback.proofs.Loop.{five_in}
use Rattle.readback.proofs.Onward as onward
use Rattle.readback.proofs.OverLines.{written_there, more_lines}
use Rattle.readback.proofs.Refusals.{good_read}
use Rattle.readback.proofs.Values.{SmallGiven}
use Rattle.mtable.specs.Table.{rows_of, salvage_row, last_row, head_row, table_of, fault_words, told_of}
use Rattle.mtable.specs.Rows.{AllSmall, Among}
use Rattle.mtable.specs.Blocks.{rest, tells}
use Rattle.mtable.proofs.Lines.{rows_append}

-- behind the first line it stays what it is
still : (r : Readback) (line : List ℕ) → (r.lines ≡ 0 → ⊥) → of_salvage (step_of r line).next ≡ of_salvage r
still r line n = go (has_ended r) refl
  where
    item : (g : Option Item) → of_salvage (said r g).next ≡ of_salvage r
    item None = refl
    item (Some i) = up (above r.last i) refl
      where
        up : (t : Bool) → above r.last i ≡ t → of_salvage (said r (Some i)).next ≡ of_salvage r
        up true k = rw k
        up false k = rw k

    go : (t : Bool) → has_ended r ≡ t → of_salvage (step_of r line).next ≡ of_salvage r
    go true e = rw (step_ended r line e)
    go false e = rw (step_item r line e n) (item (item_in r.width line))

good_line : (r : Readback) (l : List ℕ) → eqb (reads.refusal r l) success ≡ true → (step_of r (body_of l)).good ≡ true
good_line r l h = right (is_whole l) (step_of r (body_of l)).good (not_refused r l h)

says_still : (ls : List (List ℕ)) (r : Readback) → (r.lines ≡ 0 → ⊥) → (reading_from r ls).salvage ≡ of_salvage r
unfolding reading_from
says_still [] r n = refl
says_still (l ∷ ls) r n = go (eqb (reads.refusal r l) success) refl (says_still ls (reads.next r l))
  where
    go : (t : Bool) → eqb (reads.refusal r l) success ≡ t → (((reads.next r l).lines ≡ 0 → ⊥) → (reading_from (reads.next r l) ls).salvage ≡ of_salvage (reads.next r l))
        → (reading_from r (l ∷ ls)).salvage ≡ of_salvage r
    go true t ih = rw t (ih (λ z. omega (arith, z, onward.one_more_lem r (body_of l) (good_line r l t))) ∙ still r (body_of l) n)
    go false t ih = rw t

twice : (t : Bool) → t && not t ≡ false
twice true = refl
twice false = refl

pub few_five : (r : Readback) (l : List ℕ) → good r ≡ true → places reads r l ≤ 5
few_five r l g = go (step_of r (body_of l)).given
  where
    go : (g : Option Item) → length (all_numbers (items_in g)) ≤ 5
    go None = omega arith
    go (Some i) = omega (arith, five_in (Some i))

small_append : (a b : List Item) → AllSmall a → AllSmall b → AllSmall (a ++ b)
small_append [] b h k = k
small_append (i ∷ a) b h k = (h.0, small_append a b h.1 k)

-- A PIECE AND MORE: the row of a salvage that begins in it, the rows of its items, and what is written of the rest
module _ (r : Readback) (piece : List ℕ) (out after : List ℤ) (a : Back) (g : good r ≡ true) (p : ReadPromise r piece out a after) where
  abbrev f : Ran Readback (Option Item)
  f = run reads r (lines_of piece) (length out)

  abbrev pub items : List Item
  items = items_among f.answers

  abbrev pub text : List ℕ
  text = salvage_row (of_salvage a.next && not (of_salvage r)) ++ rows_of items

  pub few_items : 5 * a.items ≤ length out
  few_items = (written_there read_lines calls.reads_lawful r piece out g p).0

  pub among : Among a.items after items
  among =
      record {
        there = omega (arith, written_there read_lines calls.reads_lawful r piece out g p);
        small = over_taken reads (λ r ls gs next. good r ≡ true → AllSmall (items_among gs)) (λ r g. tt)
            (λ r l ls gs next z ih g. small_append (items_in (reads.answer r l)) (items_among gs) (small_given (reads.answer r l) (step_leaves r (body_of l) g).1) (ih (step_leaves r (body_of l) g).0)) (lines_of piece) r (length out) g;
        are = calls.call_numbers r piece out after a g p;
      }
    where
      small_given : (h : Option Item) → SmallGiven h → AllSmall (items_in h)
      small_given None s = tt
      small_given (Some i) s = (s, tt)

  pub goes : (q : List ℕ) → rest r piece q ≡ text ++ rest a.next (drop a.taken piece) q
  goes q =
      let d = drop a.taken piece in
      let k = reading_from a.next (cut_in (d ++ q)) in
      ap (λ (k : Reading). salvage_row (k.salvage && not (of_salvage r)) ++ rows_of k.items ++ last_row k.fault) (calls.piece_says r piece out after a g p q)
      ∙ ap (λ (l : List ℕ). salvage_row (k.salvage && not (of_salvage r)) ++ l ++ last_row k.fault) (rows_append items k.items)
      ∙ go k (eqb a.next.lines 0) refl (says_still (cut_in (d ++ q)) a.next)
    where
      go : (k : Reading) (t : Bool) → eqb a.next.lines 0 ≡ t → ((a.next.lines ≡ 0 → ⊥) → k.salvage ≡ of_salvage a.next)
          → salvage_row (k.salvage && not (of_salvage r)) ++ (rows_of items ++ rows_of k.items) ++ last_row k.fault
          ≡ text ++ (salvage_row (k.salvage && not (of_salvage a.next)) ++ rows_of k.items ++ last_row k.fault)
      go k false t h =
          let same = h (eqb-false _ _ t) in
          rw (same, twice (of_salvage a.next)) (simp append_assoc)
      go k true t h =
          let z = eqb-true a.next.lines 0 t in
          let more = more_lines read_lines calls.reads_lawful r piece out g p in
          let r_none : of_salvage r ≡ false = ap (λ (n : ℕ). eqb n 1) (unread r g (omega (arith, z, more))).2 in
          let n_none : of_salvage a.next ≡ false = ap (λ (n : ℕ). eqb n 1) (unread a.next (calls.next_good r piece out after a g p) z).2 in
          let nothing : rows_of items ≡ [] = ap rows_of (empty f.answers (omega (arith, z, more))) in
          simp (r_none, n_none, nothing)
        where
          empty : (gs : List (Option Item)) → length gs ≡ 0 → items_among gs ≡ []
          empty [] e = refl
          empty (g ∷ gs) e = absurd (omega arith)

  pub told_behind : (q : List ℕ) → tells r piece q ≡ tells a.next (drop a.taken piece) q
  told_behind q = ap (λ (k : Reading). fault_words k.fault) (calls.piece_says r piece out after a g p q)

  -- a fault, whatever follows
  module _ (some : a.refusal ≡ 0 → ⊥) where
    seven : a.refusal ≡ faulty_line
    seven = ⊎_elim (λ z. absurd (some z)) (λ e. e) (good_read r piece out after a g p)

    pub at_fault : (a.line ≡ 0 → ⊥)
    at_fault z = omega (arith, z, calls.told_at r piece out after a g p seven)

    pub fault_row : (q : List ℕ) → rest r piece q ≡ text ++ last_row a.line
    fault_row q =
        ap (λ (k : Reading). salvage_row (k.salvage && not (of_salvage r)) ++ rows_of k.items ++ last_row k.fault) (calls.fault_says r piece out after a g p seven q)

    pub fault_told : (q : List ℕ) → tells r piece q ≡ fault_words a.line
    fault_told q = ap (λ (k : Reading). fault_words k.fault) (calls.fault_says r piece out after a g p seven q)

-- THE WHOLE TABLE is the head line and what a fresh reader is still to write
pub begins : (q : List ℕ) → table_of q ≡ head_row ++ rest fresh [] q
unfolding reading_of
begins q = ap (λ (t : Bool). head_row ++ salvage_row t ++ rows_of (reading_of q).items ++ last_row (reading_of q).fault) (sym (and_yes (reading_of q).salvage))
  where
    and_yes : (t : Bool) → t && true ≡ t
    and_yes true = refl
    and_yes false = refl

pub begins_told : (q : List ℕ) → told_of q ≡ tells fresh [] q
unfolding reading_of
begins_told q = refl

-- the end: the last row, and nothing else
module _ (r : Readback) (held : List ℕ) (k : Ready r held) (e : Back) (p : FinishPromise r (length held) e) where
  ends_with : reading_from r (cut_in held) ≡ reading (of_salvage r) [] e.line
  ends_with = calls.finish_says r held e k.sound k.part p

  pub last_row_lem : rest r held [] ≡ last_row e.line
  last_row_lem =
      ap (λ (l : List ℕ). let k = reading_from r (cut_in l) in salvage_row (k.salvage && not (of_salvage r)) ++ rows_of k.items ++ last_row k.fault) (append-nil held)
      ∙ ap (λ (k : Reading). salvage_row (k.salvage && not (of_salvage r)) ++ rows_of k.items ++ last_row k.fault) ends_with ∙ rw (twice (of_salvage r))

  pub last_told : tells r held [] ≡ fault_words e.line
  last_told = ap (λ (l : List ℕ). fault_words (reading_from r (cut_in l)).fault) (append-nil held) ∙ ap (λ (k : Reading). fault_words k.fault) ends_with
