-- WHAT THE OTHER WIDTH IS: a listing without a fault whose line numbers fit is rewritten, in any calls, to exactly the listing of the same items at the other
-- width, and back to itself; and no call is refused.
use Prim.Native.Nat.{ℕ, zero, suc, ◌+◌}
use mathlib.Core.Path.{◌≡◌, refl, sym, ◌∙◌, ap, subst}
use mathlib.Core.Bool.{Bool, true, false, true≢false}
use mathlib.Core.Logic.{⊎_elim}
use mathlib.Core.List.{List, [], ◌∷◌, ◌++◌, append-nil}
use native.Mathlib.Omega.{arith}
use lib.Dec.{leb, eqb}
use lib.ListN.{drop}
use borrow.Author.Tests.{leb-true, le-leb, lt-ltb, eqb-true, eqb-false, eq-eqb}
use Rattle.fold.specs.Pieces.{Call, Permitted, after, taken_by, written_by}
use Rattle.fold.proofs.Pieces as in_pieces
use Rattle.wire.specs.Numbers.{success}
use Rattle.listing.specs.Scanning.{most_at}
use Rattle.listing.specs.Printing.{form_of, line_of, opening_of, all_bytes}
use Rattle.listing.specs.declared.Item.{Item}
use Rattle.listing.specs.declared.Item.TheVariants as item
use Rattle.readback.specs.Items.{Numbered, Proper}
use Rattle.readback.specs.Steps.{width_known, fresh, opened_at, passed_by, above, good, has_ended}
use Rattle.readback.specs.Pieces.{cut_in, faulty_line, reads}
use Rattle.readback.specs.Rewriting.{other_width, fits_at, rewrites, rewrite_lines}
use Rattle.readback.specs.Promises.{RewritePromise}
use Rattle.readback.specs.Calls.{rewrite_calls}
use Rattle.readback.specs.Whole.{reading_from, reading_of, printed, Listed}
use Rattle.readback.specs.Other.{other_from, other_of, Fits}
use Rattle.readback.specs.declared.Readback.{Readback}
use Rattle.readback.specs.declared.Rewritten.{Rewritten}
use Rattle.readback.proofs.Again.{accepted}
use Rattle.readback.proofs.AsItWas.{cut_first, line_whole, letter_plain, item_step, first_plain, first_step}
use Rattle.readback.proofs.Goodness.{known_is, fresh_is_good, mark_is}
use Rattle.readback.proofs.Other.{goes_on, refused_line, calls_good, in_any_calls}
use Rattle.readback.proofs.OverLines.{over_call, over_piece}
use Rattle.readback.proofs.Rewrites.{other_known, rewrites_lawful, taken_read, faulty_read}
use Rattle.readback.proofs.SameItems.{next_good}

-- every line is taken
abbrev AllTaken : Readback → List (List ℕ) → Type 0
AllTaken r [] = Unit {0}
AllTaken r (l ∷ ls) = (rewrites.refusal r l ≡ 0) × AllTaken (rewrites.next r l) ls

-- lines that are all taken, and what is written of them
abbrev Written : Readback → List ℕ → List ℕ → Type 0
Written r bytes text = AllTaken r (cut_in bytes) × (other_from r (cut_in bytes) ≡ text)

no_bytes : (r : Readback) → Written r [] []
unfolding other_from cut_in
no_bytes r = (tt, refl)

-- a line in front of others
module _ (r next : Readback) (l text : List ℕ) (cut : (rest : List ℕ) → cut_in (l ++ rest) ≡ l ∷ cut_in rest) (z : rewrites.refusal r l ≡ 0) (n : rewrites.next r l ≡ next)
    (w : rewrites.answer r l ≡ text) where
  in_front : (rest more : List ℕ) → Written next rest more → Written r (l ++ rest) (text ++ more)
  in_front rest more h =
      let all : AllTaken r (l ∷ cut_in rest) = (z, subst (λ (q : Readback). AllTaken q (cut_in rest)) (sym n) h.0) in (
        subst (AllTaken r) (sym (cut rest)) all,
        ap (other_from r) (cut rest) ∙ goes_on r l (cut_in rest) z ∙ ap (λ (k : List ℕ). k ++ other_from (rewrites.next r l) (cut_in rest)) w
            ∙ ap (λ (q : Readback). text ++ other_from q (cut_in rest)) n ∙ ap (λ (k : List ℕ). text ++ k) h.1,
      )

-- the line of an item
module _ (p : ℕ) (r : Readback) (at : r.width ≡ suc p) (on : has_ended r ≡ false) (begun : r.lines ≡ 0 → ⊥) (i : Item) (proper : Proper (suc p) i) (up : above r.last i ≡ true) where
  abbrev line : List ℕ
  line = line_of (suc p) (form_of i)

  item_cut : (rest : List ℕ) → cut_in (line ++ rest) ≡ line ∷ cut_in rest
  item_cut = cut_first (suc p) (form_of i) (letter_plain i)

  item_next : rewrites.next r line ≡ passed_by r i
  item_next = rw (item_step p r at on begun i proper up)

  item_front : fits_at (other_width (suc p)) i ≡ true → (rest more : List ℕ) → Written (passed_by r i) rest more → Written r (line ++ rest) (line_of (other_width (suc p)) (form_of i) ++ more)
  item_front fits =
      in_front r (passed_by r i) line (line_of (other_width (suc p)) (form_of i)) item_cut
      (rw (line_whole (suc p) (form_of i) (letter_plain i), item_step p r at on begun i proper up, at, fits)) item_next (rw (item_step p r at on begun i proper up, at))

  -- and it fits, where it is taken
  item_fits : rewrites.refusal r line ≡ 0 → fits_at (other_width (suc p)) i ≡ true
  item_fits z = go (fits_at (other_width (suc p)) i) refl
    where
      go : (t : Bool) → fits_at (other_width (suc p)) i ≡ t → fits_at (other_width (suc p)) i ≡ true
      go true e = e
      go false e =
          let wide : rewrites.refusal r line ≡ 15 = rw (line_whole (suc p) (form_of i) (letter_plain i), item_step p r at on begun i proper up, at, e) in
          absurd (omega (arith, z, wide))

-- items
module _ (p : ℕ) where
  items_written : (is : List Item) (r : Readback) → r.width ≡ suc p → has_ended r ≡ false → (r.lines ≡ 0 → ⊥) → Listed (suc p) r.last is → Fits (other_width (suc p)) is
      → Written r (all_bytes (suc p) is) (all_bytes (other_width (suc p)) is)
  items_written [] r at on b h f = absurd h
  items_written (item.R n k x y ∷ is) r at on b h f =
      let i = item.R n k x y in
      item_front p r at on b i h.0 (lt-ltb r.last n h.1) f.0 (all_bytes (suc p) is) (all_bytes (other_width (suc p)) is) (items_written is (passed_by r i) at refl (λ z. omega arith) h.2 f.1)
  items_written (item.D n k ∷ is) r at on b h f =
      let i = item.D n k in
      item_front p r at on b i h.0 (lt-ltb r.last n h.1) f.0 (all_bytes (suc p) is) (all_bytes (other_width (suc p)) is) (items_written is (passed_by r i) at refl (λ z. omega arith) h.2 f.1)
  items_written (item.H k ∷ is) r at on b h f = rw h.1 (item_front p r at on b (item.H k) h.0 refl f.0 [] [] (no_bytes (passed_by r (item.H k))))
  items_written (item.E n ∷ is) r at on b h f = rw h.2 (item_front p r at on b (item.E n) h.0 (lt-ltb r.last n h.1) f.0 [] [] (no_bytes (passed_by r (item.E n))))
  items_written (item.Over ∷ is) r at on b h f = rw h (item_front p r at on b item.Over tt refl f.0 [] [] (no_bytes (passed_by r item.Over)))

  -- the numbers of lines that are all taken fit
  module _ (r : Readback) (at : r.width ≡ suc p) (on : has_ended r ≡ false) (b : r.lines ≡ 0 → ⊥) (i : Item) (h : Proper (suc p) i) (up : above r.last i ≡ true) (rest : List ℕ)
      (all : AllTaken r (cut_in (line_of (suc p) (form_of i) ++ rest))) where
    taken_lines : AllTaken r (line_of (suc p) (form_of i) ∷ cut_in rest)
    taken_lines = subst (AllTaken r) (item_cut p r at on b i h up rest) all

    this_fits : fits_at (other_width (suc p)) i ≡ true
    this_fits = item_fits p r at on b i h up taken_lines.0

    others_taken : AllTaken (passed_by r i) (cut_in rest)
    others_taken = subst (λ (q : Readback). AllTaken q (cut_in rest)) (item_next p r at on b i h up) taken_lines.1

  items_fit : (is : List Item) (r : Readback) → r.width ≡ suc p → has_ended r ≡ false → (r.lines ≡ 0 → ⊥) → Listed (suc p) r.last is → AllTaken r (cut_in (all_bytes (suc p) is))
      → Fits (other_width (suc p)) is
  items_fit [] r at on b h all = tt
  items_fit (item.R n k x y ∷ is) r at on b h all =
      let i = item.R n k x y in
      let up = lt-ltb r.last n h.1 in
      (this_fits r at on b i h.0 up (all_bytes (suc p) is) all, items_fit is (passed_by r i) at refl (λ z. omega arith) h.2 (others_taken r at on b i h.0 up (all_bytes (suc p) is) all))
  items_fit (item.D n k ∷ is) r at on b h all =
      let i = item.D n k in
      let up = lt-ltb r.last n h.1 in
      (this_fits r at on b i h.0 up (all_bytes (suc p) is) all, items_fit is (passed_by r i) at refl (λ z. omega arith) h.2 (others_taken r at on b i h.0 up (all_bytes (suc p) is) all))
  items_fit (item.H k ∷ is) r at on b h all = (refl, rw h.1 tt)
  items_fit (item.E n ∷ is) r at on b h all = (this_fits r at on b (item.E n) h.0 (lt-ltb r.last n h.1) (all_bytes (suc p) is) all, rw h.2 tt)
  items_fit (item.Over ∷ is) r at on b h all = (refl, rw h tt)

-- a listing that is printed
module _ (s : Bool) where
  first_cut : (w : ℕ) (rest : List ℕ) → cut_in (line_of w (opening_of s w) ++ rest) ≡ line_of w (opening_of s w) ∷ cut_in rest
  first_cut w = cut_first w (opening_of s w) (first_plain s)

  printed_written : (w : ℕ) (is : List Item) → width_known w ≡ true → Listed w 0 is → Fits (other_width w) is → Written fresh (printed s w is) (printed s (other_width w) is)
  unfolding printed
  printed_written zero is k h f = absurd (true≢false (sym k))
  printed_written (suc p) is k h f =
      let w = suc p in
      in_front fresh (opened_at s w) (line_of w (opening_of s w)) (line_of (other_width w) (opening_of s (other_width w))) (first_cut w)
      (rw (line_whole w (opening_of s w) (first_plain s), first_step s w k)) (rw (first_step s w k)) (rw (first_step s w k, mark_is s)) (all_bytes w is) (all_bytes (other_width w) is)
      (items_written p is (opened_at s w) refl refl (λ z. omega arith) h f)

  printed_fits : (w : ℕ) (is : List Item) → width_known w ≡ true → Listed w 0 is → AllTaken fresh (cut_in (printed s w is)) → Fits (other_width w) is
  unfolding printed
  printed_fits zero is k h all = absurd (true≢false (sym k))
  printed_fits (suc p) is k h all =
      let w = suc p in
      let lines : AllTaken fresh (line_of w (opening_of s w) ∷ cut_in (all_bytes w is)) = subst (AllTaken fresh) (first_cut w (all_bytes w is)) all in
      let next : rewrites.next fresh (line_of w (opening_of s w)) ≡ opened_at s w = rw (first_step s w k) in
      items_fit p is (opened_at s w) refl refl (λ z. omega arith) h (subst (λ (q : Readback). AllTaken q (cut_in (all_bytes w is))) next lines.1)

-- what fits the other width is a listing there, and fits back
known_both : (P : ℕ → Type 0) → P 4 → P 6 → (w : ℕ) → width_known w ≡ true → P w
known_both P four six w k = ⊎_elim (λ e. subst P (sym e) four) (λ e. subst P (sym e) six) (known_is w k)

numbered : (w n : ℕ) → width_known w ≡ true → leb n (most_at w) ≡ true → Numbered w n
numbered w n k =
    known_both (λ (w : ℕ). leb n (most_at w) ≡ true → Numbered w n) (λ h. let b = leb-true n (most_at 4) h in (omega (arith, b), omega (arith, b)))
    (λ h. let b = leb-true n (most_at 6) h in (omega (arith, b), omega (arith, b))) w k

fits_back : (w n : ℕ) → width_known w ≡ true → Numbered w n → leb n (most_at w) ≡ true
fits_back w n k =
    known_both (λ (w : ℕ). Numbered w n → leb n (most_at w) ≡ true) (λ h. le-leb n (most_at 4) (omega (arith, h.0))) (λ h. le-leb n (most_at 6) (omega (arith, h.0))) w k

listed_there : (w v : ℕ) → width_known v ≡ true → (is : List Item) (last : ℕ) → Listed w last is → Fits v is → Listed v last is
listed_there w v k [] last h f = absurd h
listed_there w v k (item.R n b x y ∷ is) last h f = ((numbered v n k f.0, h.0.1, h.0.2), h.1, listed_there w v k is n h.2 f.1)
listed_there w v k (item.D n c ∷ is) last h f = ((numbered v n k f.0, h.0.1, h.0.2), h.1, listed_there w v k is n h.2 f.1)
listed_there w v k (item.H c ∷ is) last h f = h
listed_there w v k (item.E n ∷ is) last h f = (numbered v n k f.0, h.1, h.2)
listed_there w v k (item.Over ∷ is) last h f = h

fits_here : (w : ℕ) → width_known w ≡ true → (is : List Item) (last : ℕ) → Listed w last is → Fits w is
fits_here w k [] last h = tt
fits_here w k (item.R n b x y ∷ is) last h = (fits_back w n k h.0.0, fits_here w k is n h.2)
fits_here w k (item.D n c ∷ is) last h = (fits_back w n k h.0.0, fits_here w k is n h.2)
fits_here w k (item.H c ∷ is) last h = (refl, rw h.1 tt)
fits_here w k (item.E n ∷ is) last h = (fits_back w n k h.0, rw h.2 tt)
fits_here w k (item.Over ∷ is) last h = (refl, rw h tt)

twice : (w : ℕ) → width_known w ≡ true → other_width (other_width w) ≡ w
twice = known_both (λ (w : ℕ). other_width (other_width w) ≡ w) refl refl

-- CALLS ONE AFTER THE OTHER: what holds over the lines of each
module _ (P : Readback → List (List ℕ) → Readback → List (List ℕ) → Type 0) (same : (r : Readback) (ls : List (List ℕ)) → P r ls r ls)
    (line : (r : Readback) (l : List ℕ) (ls : List (List ℕ)) (next : Readback) (more : List (List ℕ)) → rewrites.refusal r l ≡ 0 → P (rewrites.next r l) ls next more → P r (l ∷ ls) next more)
    (both : (r : Readback) (ls : List (List ℕ)) (s : Readback) (ms : List (List ℕ)) (t : Readback) (ns : List (List ℕ)) → P r ls s ms → P s ms t ns → P r ls t ns) where
  over_calls : (ks : List (Call Rewritten ℕ)) (q : List ℕ) → Permitted rewrite_calls fresh ks → P fresh (cut_in (taken_by rewrite_calls ks ++ q)) (after rewrite_calls fresh ks) (cut_in q)
  over_calls ks q h =
      in_pieces.over_calls rewrite_calls (λ r. good r ≡ true) next_good (λ r p w t q. P r (cut_in p) t (cut_in q)) (λ r q. same r (cut_in q))
      (λ r p w s q v t rest one two. both r (cut_in p) s (cut_in q) t (cut_in rest) one two)
      (λ r piece out after a g p. over_call rewrite_lines rewrites_lawful r piece out g p (λ r ls texts next more. P r ls next more) same (λ r l ls texts. line r l ls)) ks q fresh fresh_is_good h

-- what follows is all taken where all is; all is, where what follows is; and the fault, if there is one, is in what follows
taken_behind : (ks : List (Call Rewritten ℕ)) (q : List ℕ) → Permitted rewrite_calls fresh ks → AllTaken fresh (cut_in (taken_by rewrite_calls ks ++ q)) → AllTaken (after rewrite_calls fresh ks) (cut_in q)
taken_behind ks q = over_calls (λ r ls next more. AllTaken r ls → AllTaken next more) (λ r ls h. h) (λ r l ls next more z ih h. ih h.1) (λ r ls s ms t ns a b h. b (a h)) ks q

taken_before : (ks : List (Call Rewritten ℕ)) (q : List ℕ) → Permitted rewrite_calls fresh ks → AllTaken (after rewrite_calls fresh ks) (cut_in q) → AllTaken fresh (cut_in (taken_by rewrite_calls ks ++ q))
taken_before ks q =
    over_calls (λ r ls next more. AllTaken next more → AllTaken r ls) (λ r ls h. h) (λ r l ls next more z ih h. (z, ih h)) (λ r ls s ms t ns a b h. a (b h)) ks q

fault_behind : (ks : List (Call Rewritten ℕ)) (q : List ℕ) → Permitted rewrite_calls fresh ks → (reading_from fresh (cut_in (taken_by rewrite_calls ks ++ q))).fault ≡ (reading_from (after rewrite_calls fresh ks) (cut_in q)).fault
unfolding reading_from
fault_behind ks q =
    over_calls (λ r ls next more. (reading_from r ls).fault ≡ (reading_from next more).fault) (λ r ls. refl)
    (λ r l ls next more z ih. rw (eq-eqb (reads.refusal r l) success (taken_read r l z)) ih) (λ r ls s ms t ns a b. a ∙ b) ks q

-- A LISTING WITHOUT A FAULT
module _ (bytes : List ℕ) (e : (reading_of bytes).fault ≡ 0) where
  -- its items, whose numbers are to fit the other width, and the same at that width
  abbrev pub OtherFits : Type 0
  OtherFits = Fits (other_width (accepted bytes e).width) (reading_of bytes).items

  abbrev pub same_items : List ℕ
  same_items = printed (reading_of bytes).salvage (other_width (accepted bytes e).width) (reading_of bytes).items

  all_written : OtherFits → Written fresh bytes same_items
  all_written f =
      let a = accepted bytes e in
      let k = reading_of bytes in
      subst (λ (l : List ℕ). Written fresh l same_items) a.again (printed_written k.salvage a.width k.items a.known a.listed f)

  -- EXACTLY THE LISTING OF THE SAME ITEMS; AND THERE AND BACK
  pub exact : OtherFits → other_of bytes ≡ same_items
  exact f = (all_written f).1

  pub there_and_back : OtherFits → other_of (other_of bytes) ≡ bytes
  there_and_back f =
      let a = accepted bytes e in
      let k = reading_of bytes in
      let w = a.width in
      let v = other_width w in
      let fits = subst (λ (u : ℕ). Fits u k.items) (sym (twice w a.known)) (fits_here w a.known k.items 0 a.listed) in
      ap other_of (exact f) ∙ (printed_written k.salvage v k.items (other_known w) (listed_there w v (other_known w) k.items 0 a.listed f) fits).1
      ∙ ap (λ (u : ℕ). printed k.salvage u k.items) (twice w a.known) ∙ a.again

  -- in any calls, whatever the cuts and the rooms
  pub exact_in_calls : OtherFits → (ks : List (Call Rewritten ℕ)) → Permitted rewrite_calls fresh ks → taken_by rewrite_calls ks ≡ bytes → written_by rewrite_calls ks ≡ same_items
  exact_in_calls f ks h all = in_any_calls ks h ∙ ap other_of all ∙ exact f

  pub back_in_calls : OtherFits → (ks ms : List (Call Rewritten ℕ)) → Permitted rewrite_calls fresh ks → Permitted rewrite_calls fresh ms → taken_by rewrite_calls ks ≡ bytes → taken_by rewrite_calls ms ≡ written_by rewrite_calls ks → written_by rewrite_calls ms ≡ bytes
  back_in_calls f ks ms h n all back = in_any_calls ms n ∙ ap other_of (back ∙ in_any_calls ks h ∙ ap other_of all) ∙ there_and_back f

  -- NEVER REFUSED where its numbers fit; never for a fault; and where calls took all of it, its numbers fit
  module _ (ks : List (Call Rewritten ℕ)) (piece rest out left : List ℕ) (a : Rewritten) (h : Permitted rewrite_calls fresh ks) (p : RewritePromise (after rewrite_calls fresh ks) piece out a left)
      (all : taken_by rewrite_calls ks ++ (piece ++ rest) ≡ bytes) where
    abbrev r : Readback
    r = after rewrite_calls fresh ks

    behind : (P : List ℕ → Type 0) → P bytes → P (taken_by rewrite_calls ks ++ (piece ++ rest))
    behind P b = subst P (sym all) b

    pub never_refused : OtherFits → a.refusal ≡ 0
    never_refused f = go (eqb a.refusal 0) refl
      where
        go : (t : Bool) → eqb a.refusal 0 ≡ t → a.refusal ≡ 0
        go true y = eqb-true _ _ y
        go false n =
            let some = eqb-false a.refusal 0 n in
            let g = calls_good ks fresh fresh_is_good h in
            let k = refused_line r piece out left a g p some rest in
            let taken = taken_behind ks (piece ++ rest) h (behind (λ (l : List ℕ). AllTaken fresh (cut_in l)) (all_written f).0) in
            let later : AllTaken a.next (cut_in (drop a.taken piece ++ rest)) =
            over_piece rewrite_lines rewrites_lawful r piece out g p (λ r ls texts next more. AllTaken r ls → AllTaken next more) (λ r ls h. h) (λ r l ls texts next more z ih h. ih h.1) rest taken in
            let here : AllTaken a.next (k.line ∷ k.later) = subst (AllTaken a.next) k.cut later in
            absurd (some (sym k.number ∙ here.0))

    pub never_faulty : a.refusal ≡ faulty_line → ⊥
    unfolding reading_of reading_from
    never_faulty seven =
        let some : a.refusal ≡ 0 → ⊥ = λ z. omega (arith, z, seven) in
        let g = calls_good ks fresh fresh_is_good h in
        let k = refused_line r piece out left a g p some rest in
        let faulty = faulty_read a.next k.line (k.number ∙ seven) in
        let at : (reading_from a.next (k.line ∷ k.later)).fault ≡ a.next.lines + 1 = rw faulty in
        let later : (reading_from r (cut_in (piece ++ rest))).fault ≡ (reading_from a.next (cut_in (drop a.taken piece ++ rest))).fault =
        over_piece rewrite_lines rewrites_lawful r piece out g p (λ r ls texts next more. (reading_from r ls).fault ≡ (reading_from next more).fault) (λ r ls. refl)
        (λ r l ls texts next more z ih. rw (eq-eqb (reads.refusal r l) success (taken_read r l z)) ih) rest in
        omega (arith, behind (λ (l : List ℕ). (reading_of l).fault ≡ 0) e, fault_behind ks (piece ++ rest) h, later, ap (λ (ls : List (List ℕ)). (reading_from a.next ls).fault) k.cut, at)

  pub all_fit : (ks : List (Call Rewritten ℕ)) → Permitted rewrite_calls fresh ks → taken_by rewrite_calls ks ≡ bytes → OtherFits
  unfolding cut_in
  all_fit ks h all =
      let a = accepted bytes e in
      let k = reading_of bytes in
      let taken : AllTaken fresh (cut_in bytes) = subst (λ (l : List ℕ). AllTaken fresh (cut_in l)) (append-nil (taken_by rewrite_calls ks) ∙ all) (taken_before ks [] h tt) in
      printed_fits k.salvage a.width k.items a.known a.listed (subst (λ (l : List ℕ). AllTaken fresh (cut_in l)) (sym a.again) taken)
