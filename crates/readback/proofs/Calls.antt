-- A reader's calls, whatever answers the promises permit: what they wrote is what the bytes that they took say, in whatever pieces these came; a fault is told
-- at its line; and pieces join.
use Rattle.std.proofs.Common.{Option, None, Some}
use Prim.Native.Nat.{ℕ, suc, ◌+◌, ◌*◌, ◌<◌, ◌≤◌}
use mathlib.Core.Path.{◌≡◌, refl, sym, ◌∙◌, ap}
use mathlib.Core.Bool.{Bool, true, false, cond, ◌&&◌}
use mathlib.Core.Logic.{◌⊎◌, inl, inr}
use mathlib.Core.List.{List, [], ◌∷◌, ◌++◌, append_assoc, append-nil}
use native.Mathlib.Omega.{arith}
use lib.Dec.{ltb, leb, eqb}
use lib.IntN.{ℤ}
use lib.ListN.{length, take, drop, length-append}
use lib.Seq.{take_all}
use borrow.Author.Tests.{ltb-true, ltb-false, leb-false, leb-true, eq-eqb, ne_eqb}
use Rattle.numbers.proofs.Choices.{cases}
use Rattle.numbers.proofs.Tested.{right}
use Rattle.fold.specs.Fold.{Ran, written, places, takes, run}
use Rattle.fold.specs.Pieces.{Call, Permitted, after, taken_by, written_by}
use Rattle.fold.proofs.Laws.{by_words}
use Rattle.fold.proofs.Pieces as in_pieces
use Rattle.wire.specs.Numbers.{success}
use Rattle.text.specs.Lengths.{length_to}
use Rattle.listing.specs.Lines.{newline}
use Rattle.listing.specs.Items.{items_in}
use Rattle.listing.specs.declared.Item.{Item}
use Rattle.readback.specs.Items.{all_numbers}
use Rattle.readback.specs.Steps.{fresh, step_of, good, has_ended, of_salvage}
use Rattle.readback.specs.Pieces.{cut_in, bytes_in, is_whole, body_of, faulty_line, reads, lines_of, items_among, back, whole, read_lines}
use Rattle.readback.specs.Promises.{refused, finish_of, ReadPromise, FinishPromise}
use Rattle.readback.specs.Calls.{read_calls}
use Rattle.readback.specs.Whole.{Reading, reading, reading_from, reading_of}
use Rattle.readback.specs.declared.Readback.{Readback}
use Rattle.readback.specs.declared.Back.{Back}
use Rattle.readback.proofs.Cuts.{cut_none, not_whole}
use Rattle.readback.proofs.Goodness as goodness
use Rattle.readback.proofs.Loop.{reading_follows, five_in, five_each, items_append}
use Rattle.readback.proofs.OverLines as over_lines
use Rattle.readback.proofs.OverLines.{Lawful, as_one, refusal_is, taken_is, count_is, wrote, over_call, over_piece, refused_line, told_line}
use Rattle.readback.proofs.Wholes.{before}

-- the numbers that answers write
numbers_append : (a b : List Item) → all_numbers (a ++ b) ≡ all_numbers a ++ all_numbers b
numbers_append [] b = refl
numbers_append (i ∷ a) b = rw (numbers_append a b)

numbers_written : (gs : List (Option Item)) → written reads gs ≡ all_numbers (items_among gs)
numbers_written [] = refl
numbers_written (g ∷ gs) = rw (numbers_written gs) (sym (numbers_append (items_in g) (items_among gs)))

-- reading, as a call over lines
pub reads_lawful : Lawful read_lines
reads_lawful =
    record {
      follows = reading_follows;
      reading = λ r l z. z;
      plus = λ l k. ap length (items_append l k) ∙ length-append (items_among l) (items_among k);
      filled = five_each;
    }

-- what lines say, in front of what the lines behind them do
abbrev Says : Readback → List (List ℕ) → List (Option Item) → Readback → List (List ℕ) → Type 0
Says r ls answers next more = reading_from r ls ≡ before (items_among answers) (reading_from next more)

says_line : (r : Readback) (l : List ℕ) (ls : List (List ℕ)) (answers : List (Option Item)) (next : Readback) (more : List (List ℕ)) → reads.refusal r l ≡ 0
    → Says (reads.next r l) ls answers next more → Says r (l ∷ ls) (reads.answer r l ∷ answers) next more
unfolding reading_from
says_line r l ls answers next more z ih = rw (eq-eqb (reads.refusal r l) success z, ih, append_assoc)

-- a call of a good reader
module _ (r : Readback) (piece : List ℕ) (out after : List ℤ) (a : Back) (g : good r ≡ true) (p : ReadPromise r piece out a after) where
  abbrev f : Ran Readback (Option Item)
  f = run reads r (lines_of piece) (length out)

  pub call_numbers : take (5 * a.items) after ≡ all_numbers (items_among f.answers)
  call_numbers = wrote read_lines reads_lawful r piece out g p ∙ numbers_written f.answers

  -- EVERY CALL OF A GOOD READER GIVES A GOOD ONE
  pub next_good : good a.next ≡ true
  next_good = over_lines.next_good read_lines reads_lawful r piece out g p

  -- what the bytes taken say, and what the piece says, with more behind them
  call_says : (q : List ℕ) → Says r (cut_in (take a.taken piece ++ q)) f.answers a.next (cut_in q)
  call_says = over_call read_lines reads_lawful r piece out g p Says (λ r ls. refl) says_line

  pub piece_says : (q : List ℕ) → Says r (cut_in (piece ++ q)) f.answers a.next (cut_in (drop a.taken piece ++ q))
  piece_says = over_piece read_lines reads_lawful r piece out g p Says (λ r ls. refl) says_line

-- what calls gave, and what comes behind the bytes that they took
record Said (r : Readback) (bytes : List ℕ) (numbers : List ℤ) (next : Readback) (rest : List ℕ) : Type 0 where
  pub items : List Item
  pub wrote : numbers ≡ all_numbers items
  pub says : reading_from r (cut_in bytes) ≡ before items (reading_from next (cut_in rest))

abbrev Good : Readback → Type 0
Good r = good r ≡ true

pub after_good : (ks : List (Call Back ℤ)) (r : Readback) → Good r → Permitted read_calls r ks → Good (after read_calls r ks)
after_good = in_pieces.after_kept read_calls Good next_good

calls_say : (ks : List (Call Back ℤ)) (q : List ℕ) (r : Readback) → Good r → Permitted read_calls r ks → Said r (taken_by read_calls ks ++ q) (written_by read_calls ks) (after read_calls r ks) q
calls_say =
    in_pieces.over_calls read_calls Good next_good Said (λ r q. record { items = []; wrote = refl; says = refl })
    (λ r p w s q v t u one two.
    record {
      items = one.items ++ two.items;
      wrote = rw (one.wrote, two.wrote) (sym (numbers_append one.items two.items));
      says = one.says ∙ ap (before one.items) two.says ∙ rw append_assoc;
    })
    (λ r piece out after a g p q.
    record { items = items_among (run reads r (lines_of piece) (length out)).answers; wrote = call_numbers r piece out after a g p; says = call_says r piece out after a g p q })

-- the end of the listing, of which so many bytes are left
finish_line : (r : Readback) (n : ℕ) (a : Back) → good r ≡ true → FinishPromise r n a → a.line ≡ cond (has_ended r && eqb n 0) 0 (r.lines + 1)
unfolding finish_of
finish_line r n a g p = ap (λ (b : Back). b.line) (p ∙ ap (λ (t : Bool). cond t (cond (has_ended r && eqb n 0) (back success r 0 0 0) (back faulty_line r 0 0 (r.lines + 1))) (refused r)) g) ∙ go (has_ended r && eqb n 0)
  where
    go : (t : Bool) → (cond t (back success r 0 0 0) (back faulty_line r 0 0 (r.lines + 1))).line ≡ cond t 0 (r.lines + 1)
    go true = refl
    go false = refl

and_yes : (t : Bool) → t && true ≡ t
and_yes true = refl
and_yes false = refl

and_no : (t : Bool) → t && false ≡ false
and_no true = refl
and_no false = refl

-- a line that is refused
refused_here : (r : Readback) (l : List ℕ) (ls : List (List ℕ)) → reads.refusal r l ≡ faulty_line → reading_from r (l ∷ ls) ≡ reading (of_salvage r) [] (r.lines + 1)
unfolding reading_from
refused_here r l ls e = rw e

no_newline : (r : Readback) (l : List ℕ) → 0 < length l → length_to newline l ≡ length l → reading_from r (cut_in l) ≡ reading (of_salvage r) [] (r.lines + 1)
no_newline r l some none = ap (reading_from r) (cut_none l some none) ∙ refused_here r l [] (rw (not_whole l some none))

pub finish_says : (r : Readback) (left : List ℕ) (a : Back) → good r ≡ true → length_to newline left ≡ length left → FinishPromise r (length left) a
    → reading_from r (cut_in left) ≡ reading (of_salvage r) [] a.line
unfolding reading_from cut_in
finish_says r [] a g n p = ap (reading (of_salvage r) []) (sym (finish_line r 0 a g p ∙ ap (λ (t : Bool). cond t 0 (r.lines + 1)) (and_yes (has_ended r))))
finish_says r (c ∷ l) a g n p =
    no_newline r (c ∷ l) (omega arith) n
    ∙ ap (reading (of_salvage r) []) (sym (finish_line r (suc (length l)) a g p ∙ ap (λ (t : Bool). cond (has_ended r && t) 0 (r.lines + 1)) (ne_eqb (suc (length l)) 0 (λ e. omega arith)) ∙ ap (λ (t : Bool). cond t 0 (r.lines + 1)) (and_no (has_ended r))))

-- IN CALLS: what a fresh reader wrote is the numbers of the items that the listing says, its end tells the listing's fault, if it has one, and it says which
-- listing it read
pub in_calls : (ks : List (Call Back ℤ)) (left : List ℕ) (a : Back) → Permitted read_calls fresh ks → length_to newline left ≡ length left → FinishPromise (after read_calls fresh ks) (length left) a
    → let said = reading_of (taken_by read_calls ks ++ left) in (written_by read_calls ks ≡ all_numbers said.items) × (a.line ≡ said.fault) × (of_salvage (after read_calls fresh ks) ≡ said.salvage)
unfolding reading_of
in_calls ks left a h n p =
    let s = calls_say ks left fresh goodness.fresh_is_good h in
    let e = s.says ∙ ap (before s.items) (finish_says (after read_calls fresh ks) left a (after_good ks fresh goodness.fresh_is_good h) n p) in
    (s.wrote ∙ ap all_numbers (sym (append-nil s.items) ∙ sym (ap (λ (k : Reading). k.items) e)), sym (ap (λ (k : Reading). k.fault) e), sym (ap (λ (k : Reading). k.salvage) e))

-- A FAULT IS TOLD AT ITS LINE, whatever follows: the items before it are handed out, and nothing behind it
module _ (r : Readback) (piece : List ℕ) (out after : List ℤ) (a : Back) (g : good r ≡ true) (p : ReadPromise r piece out a after) (no : a.refusal ≡ faulty_line) where
  pub told_at : a.line ≡ a.next.lines + 1
  told_at = told_line read_lines reads_lawful r piece out g p (λ z. omega (arith, z, no))

  pub fault_says : (q : List ℕ) → reading_from r (cut_in (piece ++ q)) ≡ reading (of_salvage a.next) (items_among (run reads r (lines_of piece) (length out)).answers) a.line
  fault_says q =
      let items = items_among (run reads r (lines_of piece) (length out)).answers in
      let k = refused_line read_lines reads_lawful r piece out g p (λ z. omega (arith, z, no)) q in
      piece_says r piece out after a g p q ∙ ap (λ (ls : List (List ℕ)). before items (reading_from a.next ls)) k.cut
      ∙ ap (before items) (refused_here a.next k.line k.later (k.number ∙ no)) ∙ rw (append-nil items, told_at)

pub fault_told : (ks : List (Call Back ℤ)) (piece rest : List ℕ) (out left : List ℤ) (a : Back) → Permitted read_calls fresh ks → ReadPromise (after read_calls fresh ks) piece out a left → a.refusal ≡ faulty_line
    → let said = reading_of (taken_by read_calls ks ++ (piece ++ rest)) in (written_by read_calls ks ++ take (5 * a.items) left ≡ all_numbers said.items) × (a.line ≡ said.fault) × (of_salvage a.next ≡ said.salvage)
unfolding reading_of
fault_told ks piece rest out left a h p seven =
    let g = after_good ks fresh goodness.fresh_is_good h in
    let s = calls_say ks (piece ++ rest) fresh goodness.fresh_is_good h in
    let is = items_among (run reads (after read_calls fresh ks) (lines_of piece) (length out)).answers in
    let e = s.says ∙ ap (before s.items) (fault_says (after read_calls fresh ks) piece out left a g p seven rest) in (
      rw (s.wrote, call_numbers (after read_calls fresh ks) piece out left a g p) (sym (numbers_append s.items is)) ∙ ap all_numbers (sym (ap (λ (k : Reading). k.items) e)),
      sym (ap (λ (k : Reading). k.fault) e),
      sym (ap (λ (k : Reading). k.salvage) e),
    )

-- so that where a listing has no fault no call finds one
pub no_fault : (ks : List (Call Back ℤ)) (piece rest : List ℕ) (out left : List ℤ) (a : Back) → Permitted read_calls fresh ks → ReadPromise (after read_calls fresh ks) piece out a left
    → (reading_of (taken_by read_calls ks ++ (piece ++ rest))).fault ≡ 0 → a.refusal ≡ faulty_line → ⊥
no_fault ks piece rest out left a h p z seven =
    let t = fault_told ks piece rest out left a h p seven in
    omega (arith, t.1, z, told_at (after read_calls fresh ks) piece out left a (after_good ks fresh goodness.fresh_is_good h) p seven)

-- a call is refused for a fault, or not at all
pub number_of : (lines : List (List ℕ)) (r : Readback) (room : ℕ) → ((run reads r lines room).refusal ≡ 0) ⊎ ((run reads r lines room).refusal ≡ faulty_line)
number_of =
    by_words reads (λ r lines room f. (f.refusal ≡ 0) ⊎ (f.refusal ≡ faulty_line)) (λ r room. inl refl)
    (λ r l lines room e. cases (λ (n : ℕ). (n ≡ 0) ⊎ (n ≡ faulty_line)) (is_whole l && (step_of r (body_of l)).good) (λ _. inl refl) (λ _. inr refl)) (λ r l lines room f e ih. ih)

-- ROOM: it stops for room only where fewer than five places are left
room_of : (lines : List (List ℕ)) (r : Readback) (room : ℕ) → let f = run reads r lines room in f.refusal ≡ 0 → length f.answers < length lines → room < length (written reads f.answers) + 5
room_of =
    by_words reads (λ r lines room f. f.refusal ≡ 0 → length f.answers < length lines → room < length (written reads f.answers) + 5)
    (λ r room z h. absurd (omega arith))
    (λ r l lines room e z h. omega (arith, full r l room e z, five_in (step_of r (body_of l)).given, one_item (step_of r (body_of l)).given))
    (λ r l lines room f e ih z h. omega (arith, ih z (omega arith), fits r l room e, length-append (all_numbers (items_in (step_of r (body_of l)).given)) (written reads f.answers)))
  where
    one_item : (g : Option Item) → length (items_in g) ≤ 1
    one_item None = omega arith
    one_item (Some i) = omega arith

    full : (r : Readback) (l : List ℕ) (room : ℕ) → takes reads r l room ≡ false → reads.refusal r l ≡ 0 → room < places reads r l
    full r l room e z = leb-false (places reads r l) room (rw (eq-eqb (reads.refusal r l) 0 z) at e)

    fits : (r : Readback) (l : List ℕ) (room : ℕ) → takes reads r l room ≡ true → places reads r l ≤ room
    fits r l room e = leb-true (places reads r l) room (right (eqb (reads.refusal r l) 0) (leb (places reads r l) room) e)

pub stops_for_room : (r : Readback) (piece : List ℕ) (out after : List ℤ) (a : Back) → good r ≡ true → ReadPromise r piece out a after → a.refusal ≡ 0
    → (a.taken ≡ length (bytes_in (lines_of piece))) ⊎ (length out < 5 * a.items + 5)
stops_for_room r piece out after a g p z =
    let f = run reads r (lines_of piece) (length out) in
    go (ltb (length f.answers) (length (lines_of piece))) refl
  where
    go : (t : Bool) → (let f = run reads r (lines_of piece) (length out) in ltb (length f.answers) (length (lines_of piece)) ≡ t)
        → (a.taken ≡ length (bytes_in (lines_of piece))) ⊎ (length out < 5 * a.items + 5)
    go true e =
        let f = run reads r (lines_of piece) (length out) in
        let stop = room_of (lines_of piece) r (length out) (sym (refusal_is read_lines reads_lawful r piece out g p) ∙ z) (ltb-true (length f.answers) (length (lines_of piece)) e) in
        inr (omega (arith, stop, five_each f.answers, count_is read_lines reads_lawful r piece out g p))
    go false e =
        let f = run reads r (lines_of piece) (length out) in
        inl (taken_is read_lines reads_lawful r piece out g p ∙ ap (λ (ls : List (List ℕ)). length (bytes_in ls)) (take_all (length f.answers) (lines_of piece) (ltb-false (length f.answers) (length (lines_of piece)) e)))

-- PIECES JOIN
pub joining : (r : Readback) (p q : List ℕ) (out : List ℤ) (a b c : Back) (x y z : List ℤ) → good r ≡ true
    → ReadPromise r p out b y
    → ReadPromise b.next (drop b.taken p ++ q) (drop (5 * b.items) y) c z
    → ReadPromise r (p ++ q) out a x
    → whole a x ≡ as_one read_lines (whole b y) (whole c z)
joining r p q out a b c x y z = over_lines.joining read_lines reads_lawful r p q out
