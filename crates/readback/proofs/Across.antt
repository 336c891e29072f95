-- A line that is rewritten reads, at the other width, as it did: the same item, and a reader that differs in the width alone.
use Rattle.std.proofs.Common.{Option, None, Some}
use Prim.Native.Nat.{ℕ, zero, suc, ◌+◌, ◌<◌, ◌≤◌, ◌^◌}
use mathlib.Core.Path.{◌≡◌, refl, sym, ◌∙◌, ap, subst}
use mathlib.Core.Bool.{Bool, true, false, cond, ◌&&◌, true≢false}
use mathlib.Core.Logic.{⊎_elim}
use mathlib.Core.List.{List, ◌∷◌, ◌++◌, append_assoc}
use native.Mathlib.Omega.{arith}
use lib.Dec.{leb, eqb}
use lib.ListN.{length, take}
use borrow.Author.Tests.{leb-true, eqb-true, eqb-false, eq-eqb, ne_eqb}
use Rattle.numbers.proofs.Choices.{cases}
use Rattle.numbers.proofs.Tested.{left, right}
use Rattle.fold.specs.Fold.{written, run}
use Rattle.fold.proofs.Laws.{over_taken}
use Rattle.wire.specs.Numbers.{success}
use Rattle.listing.specs.Scanning.{most_at}
use Rattle.listing.specs.Printing.{form_of, line_of, opening_of, line_at}
use Rattle.listing.specs.declared.Item.{Item}
use Rattle.listing.specs.declared.Item.TheVariants as item
use Rattle.readback.specs.Items.{Numbered, Proper, item_in, width_in, salvage_in}
use Rattle.readback.specs.Steps.{width_known, fresh, opened_at, passed_by, above, faulty, said, step_of, good, has_ended, of_salvage, Step}
use Rattle.readback.specs.Pieces.{cut_in, is_whole, body_of, faulty_line, reads}
use Rattle.readback.specs.Rewriting.{other_width, too_wide, fits_at, given_fits, rewrites}
use Rattle.readback.specs.Whole.{reading_from}
use Rattle.readback.specs.declared.Readback.{Readback}
use Rattle.readback.proofs.Goodness.{mark_is, unread, known_is, step_ended, step_first, step_item, step_leaves}
use Rattle.readback.proofs.Grammar.{Reads, item_read}
use Rattle.readback.proofs.AsItWas.{cut_first, line_whole, letter_plain, first_plain, item_step, first_step}
use Rattle.readback.proofs.Rewrites.{other_known}

-- the reader of the rewritten listing
abbrev pub across : Readback → Readback
across r = record { width = cond (eqb r.lines 0) 0 (other_width r.width); ended = r.ended; salvage = r.salvage; last = r.last; lines = r.lines }

-- a proper item whose number fits the other width is proper there
numbered : (w n : ℕ) → width_known w ≡ true → leb n (most_at w) ≡ true → Numbered w n
numbered w n k h = ⊎_elim (λ e. small 4 e (omega arith) (omega arith)) (λ e. small 6 e (omega arith) (omega arith)) (known_is w k)
  where
    small : (v : ℕ) → w ≡ v → most_at v < 10 ^ v → most_at v ≤ most_at 6 → Numbered w n
    small v e a b = subst (λ (u : ℕ). Numbered u n) (sym e) (let f = leb-true n (most_at v) (rw e at h) in (omega (arith, f, a), omega (arith, f, b)))

proper_there : (w v : ℕ) (i : Item) → width_known v ≡ true → fits_at v i ≡ true → Proper w i → Proper v i
proper_there w v (item.R n b x y) k f h = (numbered v n k f, h.1, h.2)
proper_there w v (item.D n c) k f h = (numbered v n k f, h.1, h.2)
proper_there w v (item.H c) k f h = h
proper_there w v (item.E n) k f h = numbered v n k f
proper_there w v item.Over k f h = tt

-- what a line does at the other width
pub record Same (r : Readback) (s : Step) : Type 0 where
  pub whole : is_whole (line_at (of_salvage s.next) (other_width s.next.width) s.given) ≡ true
  pub step : step_of (across r) (body_of (line_at (of_salvage s.next) (other_width s.next.width) s.given)) ≡ record { good = true; next = across s.next; given = s.given }
  pub cut : (rest : List ℕ) → cut_in (line_at (of_salvage s.next) (other_width s.next.width) s.given ++ rest) ≡ line_at (of_salvage s.next) (other_width s.next.width) s.given ∷ cut_in rest

abbrev Goes : Readback → Step → Type 0
Goes r s = s.good ≡ true → given_fits (other_width s.next.width) s.given ≡ true → Same r s

module _ (r : Readback) (g : good r ≡ true) where
  no_item : Goes r (faulty r)
  no_item y f = absurd (true≢false (sym y))

  -- the first line
  first_goes : r.lines ≡ 0 → has_ended r ≡ false → (s : Bool) (w : ℕ) → width_known w ≡ true → Goes r (record { good = true; next = opened_at s w; given = None })
  first_goes z on s w k y f =
      let v = other_width w in
      let none = unread r g z in
      let is_fresh : across r ≡ fresh = rw (eq-eqb r.lines 0 z) (rw (z, none.0, none.1, none.2) refl) in
      record {
        whole = rw (mark_is s) (line_whole v (opening_of s v) (first_plain s));
        step = rw (mark_is s) (ap (λ (q : Readback). step_of q (body_of (line_of v (opening_of s v)))) is_fresh ∙ first_step s v (other_known w));
        cut = λ rest. rw (mark_is s) (cut_first v (opening_of s v) (first_plain s) rest);
      }

  -- an item's
  item_goes : (n : r.lines ≡ 0 → ⊥) → has_ended r ≡ false → (i : Item) → Proper r.width i → above r.last i ≡ true → Goes r (record { good = true; next = passed_by r i; given = Some i })
  item_goes n on i h up y f =
      let v = other_width r.width in
      let wide : (across r).width ≡ v = rw (ne_eqb r.lines 0 n) in
      let next : passed_by (across r) i ≡ across (passed_by r i) = rw (ne_eqb r.lines 0 n) (rw (ne_eqb (r.lines + 1) 0 (λ z. omega (arith, z)))) in
      record {
        whole = line_whole v (form_of i) (letter_plain i);
        step = go v wide refl ∙ ap (λ (q : Readback). record { good = true; next = q; given = Some i }) next;
        cut = cut_first v (form_of i) (letter_plain i);
      }
    where
      go : (v : ℕ) → (across r).width ≡ v → v ≡ other_width r.width → step_of (across r) (body_of (line_of v (form_of i))) ≡ record { good = true; next = passed_by (across r) i; given = Some i }
      go zero wide e = absurd (true≢false (sym (ap width_known e ∙ other_known r.width)))
      go (suc p) wide e = item_step p (across r) wide on n i (proper_there r.width (suc p) i (ap width_known e ∙ other_known r.width) (ap (λ w. fits_at w i) e ∙ f) h) up

  -- whatever it is
  pub line_goes : (line : List ℕ) → Goes r (step_of r line)
  line_goes line = go (has_ended r) refl (eqb r.lines 0) refl
    where
      said_goes : (n : r.lines ≡ 0 → ⊥) → has_ended r ≡ false → (i : Option Item) → Reads r.width line i → Goes r (said r i)
      said_goes n on None h = no_item
      said_goes n on (Some i) h = cases (Goes r) (above r.last i) (λ up. item_goes n on i h.1 up) (λ _. no_item)

      go : (t : Bool) → has_ended r ≡ t → (u : Bool) → eqb r.lines 0 ≡ u → Goes r (step_of r line)
      go true e u z = subst (Goes r) (sym (step_ended r line e)) no_item
      go false e true z =
          subst (Goes r) (sym (step_first r line e (eqb-true _ _ z)))
          (cases (Goes r) (width_known (width_in line)) (λ k. first_goes (eqb-true _ _ z) e (salvage_in line) (width_in line) k) (λ _. no_item))
      go false e false z = subst (Goes r) (sym (step_item r line e (eqb-false _ _ z))) (said_goes (eqb-false _ _ z) e (item_in r.width line) (item_read r.width line))

-- a line that is rewritten is whole, and taken by the reader
module _ (r : Readback) (l : List ℕ) (z : rewrites.refusal r l ≡ 0) where
  abbrev s : Step
  s = step_of r (body_of l)

  taken_by : (t u : Bool) → cond (eqb (cond t success faulty_line) success) (cond u success too_wide) faulty_line ≡ 0 → (t ≡ true) × (u ≡ true)
  taken_by true true e = (refl, refl)
  taken_by true false e = absurd (omega (arith, e))
  taken_by false u e = absurd (omega (arith, e))

  both : (is_whole l && s.good ≡ true) × (given_fits (other_width s.next.width) s.given ≡ true)
  both = taken_by (is_whole l && s.good) (given_fits (other_width s.next.width) s.given) z

  pub whole_line : is_whole l ≡ true
  whole_line = left (is_whole l) s.good both.0

-- and reads the same
module _ (r : Readback) (g : good r ≡ true) (l : List ℕ) (z : rewrites.refusal r l ≡ 0) where
  same : Same r (step_of r (body_of l))
  same = line_goes r g (body_of l) (right (is_whole l) (step_of r (body_of l)).good (both r l z).0) (both r l z).1

  pub cut_text : (rest : List ℕ) → cut_in (rewrites.answer r l ++ rest) ≡ rewrites.answer r l ∷ cut_in rest
  cut_text = same.cut

  -- in front of more lines, at both widths
  pub reads_same : (more' more : List (List ℕ)) → reading_from (across (reads.next r l)) more' ≡ reading_from (reads.next r l) more
      → reading_from (across r) (rewrites.answer r l ∷ more') ≡ reading_from r (l ∷ more)
  unfolding reading_from
  reads_same more' more ih = rw (same.whole, same.step, (both r l z).0) (rw ih)

-- lines that are rewritten, one after the other: they read the same, and are cut off as they were written
pub lines_same : (lines : List (List ℕ)) (r : Readback) (room : ℕ) → let f = run rewrites r lines room in
    good r ≡ true → (more' more : List (List ℕ)) → reading_from (across f.next) more' ≡ reading_from f.next more
    → reading_from (across r) (f.answers ++ more') ≡ reading_from r (take (length f.answers) lines ++ more)
lines_same =
    over_taken rewrites
    (λ r lines texts next. good r ≡ true → (more' more : List (List ℕ)) → reading_from (across next) more' ≡ reading_from next more → reading_from (across r) (texts ++ more') ≡ reading_from r (lines ++ more))
    (λ r g more' more h. h)
    (λ r l lines texts next z ih g more' more h. reads_same r g l z (texts ++ more') (lines ++ more) (ih (step_leaves r (body_of l) g).0 more' more h))

pub texts_cut : (lines : List (List ℕ)) (r : Readback) (room : ℕ) → let f = run rewrites r lines room in
    good r ≡ true → (rest : List ℕ) → cut_in (written rewrites f.answers ++ rest) ≡ f.answers ++ cut_in rest
texts_cut =
    over_taken rewrites (λ r lines texts next. good r ≡ true → (rest : List ℕ) → cut_in (written rewrites texts ++ rest) ≡ texts ++ cut_in rest) (λ r g rest. refl)
    (λ r l lines texts next z ih g rest.
    ap cut_in (append_assoc (rewrites.answer r l) (written rewrites texts) rest) ∙ cut_text r g l z (written rewrites texts ++ rest)
    ∙ ap (λ (ls : List (List ℕ)). rewrites.answer r l ∷ ls) (ih (step_leaves r (body_of l) g).0 rest))
