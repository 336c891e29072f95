-- WHAT IS ACCEPTED, PRINTED AGAIN, IS THE SAME BYTES.
use Rattle.std.proofs.Common.{Option, None, Some}
use Prim.Native.Nat.{ℕ, suc, ◌+◌, ◌<◌, ◌≤◌}
use mathlib.Core.Path.{◌≡◌, refl, sym, ◌∙◌, ap, subst}
use mathlib.Core.Bool.{Bool, true, false, cond, ◌&&◌, true≢false}
use mathlib.Core.List.{List, [], ◌∷◌, ◌++◌}
use native.Mathlib.Omega.{arith}
use lib.Dec.{eqb}
use lib.ListN.{length}
use borrow.Author.Tests.{ltb-true, eqb-true, lt-ltb}
use Rattle.numbers.proofs.Choices.{cases}
use Rattle.numbers.proofs.Tested.{left, right}
use Rattle.wire.specs.Numbers.{success}
use Rattle.text.specs.Lengths.{length_to}
use Rattle.listing.specs.Lines.{newline, front}
use Rattle.listing.specs.Items.{items_in}
use Rattle.listing.specs.Printing.{form_of, head_of, line_of, opening_of, all_bytes}
use Rattle.listing.specs.declared.Item.{Item}
use Rattle.listing.specs.declared.Item.TheVariants as item
use Rattle.readback.specs.Items.{Proper, item_in, width_in, salvage_in}
use Rattle.readback.specs.Steps.{width_known, fresh, opened_at, passed_by, last_behind, above, closes, faulty, opens, said, step_of, has_ended, of_salvage, Step}
use Rattle.readback.specs.Pieces.{cut_in, bytes_in, is_whole, body_of, faulty_line, reads}
use Rattle.readback.specs.Whole.{Reading, reading, reading_from, reading_of, printed, Listed}
use Rattle.readback.specs.declared.Readback.{Readback}
use Rattle.readback.proofs.Cuts.{bytes_cut}
use Rattle.readback.proofs.Goodness.{known_some, step_ended, step_first, step_item, mark_is}
use Rattle.readback.proofs.Grammar.{Reads, item_read, width_read}

-- the lines of bytes have no newline but the last byte
abbrev pub Tidy : List (List ℕ) → Type 0
Tidy [] = Unit {0}
Tidy (l ∷ ls) = (length l ≤ suc (length_to newline l)) × Tidy ls

front_tidy : (c : ℕ) (ls : List (List ℕ)) → eqb c newline ≡ false → Tidy ls → Tidy (front c ls)
front_tidy c [] e h = (rw e (omega arith), tt)
front_tidy c (l ∷ ls) e h = (rw e (omega (arith, h.0)), h.1)

pub cut_tidy : (l : List ℕ) → Tidy (cut_in l)
unfolding cut_in
cut_tidy [] = tt
cut_tidy (c ∷ l) = cases Tidy (eqb c newline) (λ _. (omega arith, cut_tidy l)) (λ e. front_tidy c (cut_in l) e (cut_tidy l))

-- so that a whole one is its body and a newline
whole_is : (l : List ℕ) → is_whole l ≡ true → length l ≤ suc (length_to newline l) → body_of l ++ newline ∷ [] ≡ l
whole_is [] h k = absurd (omega (arith, ltb-true 0 0 h))
whole_is (c ∷ l) h k = go (eqb c newline) refl (whole_is l) l refl
  where
    go : (t : Bool) → eqb c newline ≡ t → (is_whole l ≡ true → length l ≤ suc (length_to newline l) → body_of l ++ newline ∷ [] ≡ l) → (m : List ℕ) → l ≡ m → body_of (c ∷ l) ++ newline ∷ [] ≡ c ∷ l
    go true e ih [] em = rw (e, em, eqb-true c newline e)
    go true e ih (d ∷ m) em = absurd (omega (arith, rw e at k, ap length em))
    go false e ih m em =
        let there : suc (length_to newline l) < suc (length l) = ltb-true (suc (length_to newline l)) (suc (length l)) (rw e at h) in
        let few : suc (length l) ≤ suc (suc (length_to newline l)) = rw e at k in
        rw e (ap (λ (m : List ℕ). c ∷ m) (ih (lt-ltb (length_to newline l) (length l) (omega arith)) (omega arith)))

-- a line that is not refused
pub not_refused : (r : Readback) (l : List ℕ) → eqb (reads.refusal r l) success ≡ true → is_whole l && (step_of r (body_of l)).good ≡ true
not_refused r l h = go (is_whole l && (step_of r (body_of l)).good) h
  where
    go : (t : Bool) → eqb (cond t success faulty_line) success ≡ true → t ≡ true
    go true h = refl
    go false h = absurd (true≢false (sym h))

-- behind the end nothing more is accepted
none_behind : (r : Readback) (ls : List (List ℕ)) → has_ended r ≡ true → (reading_from r ls).fault ≡ 0 → (ls ≡ []) × ((reading_from r ls).items ≡ []) × ((reading_from r ls).salvage ≡ of_salvage r)
unfolding reading_from
none_behind r [] e h = (refl, refl, refl)
none_behind r (l ∷ ls) e h = go (eqb (reads.refusal r l) success) refl h
  where
    later : Reading
    later = reading_from (reads.next r l) ls

    go : (t : Bool) → eqb (reads.refusal r l) success ≡ t → (cond t (reading later.salvage (items_in (reads.answer r l) ++ later.items) later.fault) (reading (of_salvage r) [] (r.lines + 1))).fault ≡ 0
        → (l ∷ ls ≡ []) × ((cond t (reading later.salvage (items_in (reads.answer r l) ++ later.items) later.fault) (reading (of_salvage r) [] (r.lines + 1))).items ≡ [])
        × ((cond t (reading later.salvage (items_in (reads.answer r l) ++ later.items) later.fault) (reading (of_salvage r) [] (r.lines + 1))).salvage ≡ of_salvage r)
    go true t h =
        let g = right (is_whole l) (step_of r (body_of l)).good (not_refused r l t) in
        absurd (true≢false (sym g ∙ ap (λ (s : Step). s.good) (step_ended r (body_of l) e)))
    go false t h = absurd (omega (arith, h))

-- what was accepted from a reader on: the items of a listing, and their bytes; and it is what the reader said it is
abbrev Accepted : Bool → ℕ → ℕ → Reading → List ℕ → Type 0
Accepted s w last k bytes = Listed w last k.items × (all_bytes w k.items ≡ bytes) × (k.salvage ≡ s)

-- an item in front
module _ (w : ℕ) (i : Item) (is : List Item) (last : ℕ) (proper : Proper w i) (up : above last i ≡ true) where
  goes_before : closes i ≡ false → Listed w (last_behind last i) is → Listed w last (i ∷ is)
  goes_before = go i proper up
    where
      go : (i : Item) → Proper w i → above last i ≡ true → closes i ≡ false → Listed w (last_behind last i) is → Listed w last (i ∷ is)
      go (item.R n b x y) p u c h = (p, ltb-true last n u, h)
      go (item.D n k) p u c h = (p, ltb-true last n u, h)
      go (item.H k) p u c h = absurd (true≢false c)
      go (item.E n) p u c h = absurd (true≢false c)
      go item.Over p u c h = absurd (true≢false c)

  ends_it : closes i ≡ true → is ≡ [] → Listed w last (i ∷ is)
  ends_it = go i proper up
    where
      go : (i : Item) → Proper w i → above last i ≡ true → closes i ≡ true → is ≡ [] → Listed w last (i ∷ is)
      go (item.R n b x y) p u c h = absurd (true≢false (sym c))
      go (item.D n k) p u c h = absurd (true≢false (sym c))
      go (item.H k) p u c h = (p, h)
      go (item.E n) p u c h = (p, ltb-true last n u, h)
      go item.Over p u c h = h

-- a line that is accepted: its item, and what comes behind it
abbrev pub Went : Readback → List ℕ → Step → Type 0
Went r body s = s.good ≡ true → (i : Item) × (s ≡ record { good = true; next = passed_by r i; given = Some i }) × (head_of r.width (form_of i) ≡ body) × Proper r.width i × (above r.last i ≡ true)

said_went : (r : Readback) (body : List ℕ) (g : Option Item) → Reads r.width body g → Went r body (said r g)
said_went r body None h e = absurd (true≢false (sym e))
said_went r body (Some i) h e = go (above r.last i) refl e
  where
    go : (t : Bool) → above r.last i ≡ t → (cond t (record { good = true; next = passed_by r i; given = Some i }) (faulty r)).good ≡ true
        → (j : Item) × (cond t (record { good = true; next = passed_by r i; given = Some i }) (faulty r) ≡ record { good = true; next = passed_by r j; given = Some j }) × (head_of r.width (form_of j) ≡ body) × Proper r.width j × (above r.last j ≡ true)
    go true a e = (i, refl, h.0, h.1, a)
    go false a e = absurd (true≢false (sym e))

pub step_went : (r : Readback) (body : List ℕ) → has_ended r ≡ false → (r.lines ≡ 0 → ⊥) → Went r body (step_of r body)
step_went r body on b = subst (Went r body) (sym (step_item r body on b)) (said_went r body (item_in r.width body) (item_read r.width body))

line_of_lem : (w : ℕ) (i : Item) (body : List ℕ) → head_of w (form_of i) ≡ body → line_of w (form_of i) ≡ body ++ newline ∷ []
unfolding line_of
line_of_lem w i body e = ap (λ (k : List ℕ). k ++ newline ∷ []) e

-- what is accepted behind a reader that has not ended
abbrev Rest : List (List ℕ) → Type 0
Rest ls = (r : Readback) → has_ended r ≡ false → (r.lines ≡ 0 → ⊥) → Tidy ls → (reading_from r ls).fault ≡ 0 → Accepted (of_salvage r) r.width r.last (reading_from r ls) (bytes_in ls)

item_front : (r : Readback) (i : Item) (l : List ℕ) (ls : List (List ℕ)) → line_of r.width (form_of i) ≡ l → Proper r.width i → above r.last i ≡ true → Tidy ls
    → (reading_from (passed_by r i) ls).fault ≡ 0 → Rest ls → (c : Bool) → closes i ≡ c
    → let later = reading_from (passed_by r i) ls in Accepted (of_salvage r) r.width r.last (reading later.salvage (i ∷ later.items) later.fault) (l ++ bytes_in ls)
item_front r i l ls line p u t f ih true e =
    let n = none_behind (passed_by r i) ls (mark_is (closes i) ∙ e) f in
    (ends_it r.width i (reading_from (passed_by r i) ls).items r.last p u e n.1, rw (line, n.1, n.0), n.2)
item_front r i l ls line p u t f ih false e =
    let a = ih (passed_by r i) (mark_is (closes i) ∙ e) (λ z. omega arith) t f in
    (goes_before r.width i (reading_from (passed_by r i) ls).items r.last p u e a.0, rw (line, a.1), a.2)

module _ (l : List ℕ) (ls : List (List ℕ)) (r : Readback) (on : has_ended r ≡ false) (b : r.lines ≡ 0 → ⊥) (t : Tidy (l ∷ ls)) (ih : Rest ls) where
  abbrev all : Bool → Reading
  all u = let later = reading_from (reads.next r l) ls in cond u (reading later.salvage (items_in (reads.answer r l) ++ later.items) later.fault) (reading (of_salvage r) [] (r.lines + 1))

  line_front : (u : Bool) → eqb (reads.refusal r l) success ≡ u → (all u).fault ≡ 0 → Accepted (of_salvage r) r.width r.last (all u) (l ++ bytes_in ls)
  line_front false e h = absurd (omega (arith, h))
  line_front true e h =
      let both = not_refused r l e in
      let went = step_went r (body_of l) on b (right (is_whole l) (step_of r (body_of l)).good both) in
      let i = went.0 in
      let line : line_of r.width (form_of i) ≡ l = line_of_lem r.width i (body_of l) went.2 ∙ whole_is l (left (is_whole l) (step_of r (body_of l)).good both) t.0 in
      let fault : (reading_from (passed_by r i) ls).fault ≡ 0 = rw went.1 at h in
      rw went.1 (item_front r i l ls line went.3 went.4 t.1 fault ih (closes i) refl)

accepted_from : (ls : List (List ℕ)) → Rest ls
unfolding reading_from
accepted_from [] r on b t h = absurd (omega (arith, rw on at h))
accepted_from (l ∷ ls) r on b t h = line_front l ls r on b t (accepted_from ls) (eqb (reads.refusal r l) success) refl h

-- ACCEPTED: bytes without a fault are the items of a listing, or of a salvage's, as the reading says, printed at a known width
pub record Printed (bytes : List ℕ) (k : Reading) : Type 0 where
  pub width : ℕ
  pub known : width_known width ≡ true
  pub listed : Listed width 0 k.items
  pub again : printed k.salvage width k.items ≡ bytes

opens_went : (s : Bool) (w : ℕ) → (opens fresh s w).good ≡ true → (width_known w ≡ true) × (opens fresh s w ≡ record { good = true; next = opened_at s w; given = None })
opens_went s w h = go (width_known w) refl h
  where
    go : (t : Bool) → width_known w ≡ t → (cond t (record { good = true; next = opened_at s w; given = None }) (faulty fresh)).good ≡ true
        → (width_known w ≡ true) × (cond t (record { good = true; next = opened_at s w; given = None }) (faulty fresh) ≡ record { good = true; next = opened_at s w; given = None })
    go true e h = (e, refl)
    go false e h = absurd (true≢false (sym h))

first_line_lem : (s : Bool) (w : ℕ) (body : List ℕ) → body ≡ head_of w (opening_of s w) → body ++ newline ∷ [] ≡ line_of w (opening_of s w)
unfolding line_of
first_line_lem s w body e = ap (λ (k : List ℕ). k ++ newline ∷ []) e

module _ (bytes l : List ℕ) (ls : List (List ℕ)) (is : l ++ bytes_in ls ≡ bytes) (t : Tidy (l ∷ ls)) where
  abbrev both : Bool → Reading
  both u = let later = reading_from (reads.next fresh l) ls in cond u (reading later.salvage (items_in (reads.answer fresh l) ++ later.items) later.fault) (reading (of_salvage fresh) [] (fresh.lines + 1))

  first_front : (u : Bool) → eqb (reads.refusal fresh l) success ≡ u → (both u).fault ≡ 0 → Printed bytes (both u)
  unfolding printed
  first_front false e h = absurd (omega (arith, h))
  first_front true e h =
      let two = not_refused fresh l e in
      let w = width_in (body_of l) in
      let s = salvage_in (body_of l) in
      let first = step_first fresh (body_of l) refl refl in
      let went = opens_went s w (sym (ap (λ (s : Step). s.good) first) ∙ right (is_whole l) (step_of fresh (body_of l)).good two) in
      let step = first ∙ went.1 in
      let fault : (reading_from (opened_at s w) ls).fault ≡ 0 = rw step at h in
      let a = accepted_from ls (opened_at s w) refl (λ z. omega arith) t.1 fault in
      let line : l ≡ line_of w (opening_of s w) =
      sym (whole_is l (left (is_whole l) (step_of fresh (body_of l)).good two) t.0) ∙ first_line_lem s w (body_of l) (width_read (body_of l) (λ z. omega (arith, z, known_some w went.0))) in
      rw step (record { width = w; known = went.0; listed = a.0; again = rw (a.1, a.2 ∙ mark_is s, ← line) is })

pub accepted : (bytes : List ℕ) → (reading_of bytes).fault ≡ 0 → Printed bytes (reading_of bytes)
unfolding reading_of reading_from
accepted bytes h = go (cut_in bytes) (bytes_cut bytes) (cut_tidy bytes) h
  where
    go : (ls : List (List ℕ)) → bytes_in ls ≡ bytes → Tidy ls → (reading_from fresh ls).fault ≡ 0 → Printed bytes (reading_from fresh ls)
    go [] e t h = absurd (omega (arith, h))
    go (l ∷ ls) e t h = first_front bytes l ls e t (eqb (reads.refusal fresh l) success) refl h
