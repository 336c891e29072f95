-- What a machine over lines leaves of a piece, whatever follows: the front of a line, or a line that it refuses.
use Rattle.listing.specs.declared.Item.{Item}
use Rattle.std.proofs.Common.{Option, None, Some}
use Prim.Native.Nat.{ℕ, suc, ◌+◌, ◌-◌, ◌*◌, ◌<◌, ◌≤◌}
use mathlib.Core.Path.{◌≡◌, refl, sym, ◌∙◌, ap}
use mathlib.Core.Bool.{Bool, true, false, ◌&&◌, true≢false}
use mathlib.Core.List.{List, [], ◌∷◌, ◌++◌, append_assoc, append-nil}
use native.Mathlib.Omega.{arith}
use native.Mathlib.Nat.{mul-suc, mul-le-mul_left}
use lib.Dec.{eqb, ltb, leb}
use lib.ListN.{length, take, drop, length-append, length-drop, take-append-drop}
use lib.Seq.{length-take-le}
use borrow.Author.Tests.{ltb-true, ltb-false, leb-true, leb-false, eqb-true, eqb-false, eq-eqb, lt-leb}
use Rattle.numbers.proofs.Choices.{cases}
use Rattle.numbers.proofs.Tested.{left, right}
use Rattle.fold.specs.Fold.{MachineOver, Ran, behind, written, places, takes, run}
use Rattle.fold.proofs.Laws.{join, up_to, within, over_taken, stays, stops}
use Rattle.wire.specs.Numbers.{success}
use Rattle.text.specs.Lengths.{length_to}
use Rattle.text.proofs.Lengths.{to_within, to_append, same_length_to}
use Rattle.listing.specs.Lines.{newline, front}
use Rattle.readback.specs.Items.{item_in, width_in, salvage_in}
use Rattle.readback.specs.Steps.{step_of, good, opens, said, width_known, above, has_ended}
use Rattle.readback.specs.Pieces.{cut_in, bytes_in, is_whole, body_of, faulty_line, reads, longest, cut_off, handed, lines_of}
use Rattle.readback.specs.Held.{to_go}
use Rattle.readback.specs.declared.Readback.{Readback}
use Rattle.readback.proofs.Again.{not_refused}
use Rattle.readback.proofs.Cuts.{cut_none, cut_line, lines_line, lines_short, lines_long, first_whole, first_body, first_long, not_whole}
use Rattle.readback.proofs.Goodness.{step_leaves, step_ended, step_first, step_item, few_lines}
use Rattle.readback.proofs.Loop.{Follows}
use Rattle.readback.proofs.Short.{long_faulty}
use Rattle.readback.proofs.Wholes.{Wholes, cut_whole, lines_wholes, lines_front, lines_whole}

-- a good line is one more
pub one_more_lem : (r : Readback) (line : List ℕ) → (step_of r line).good ≡ true → (step_of r line).next.lines ≡ r.lines + 1
one_more_lem r line = go (has_ended r) refl (eqb r.lines 0) refl
  where
    first : r.lines ≡ 0 → (t : Bool) → width_known (width_in line) ≡ t → (opens r (salvage_in line) (width_in line)).good ≡ true → (opens r (salvage_in line) (width_in line)).next.lines ≡ r.lines + 1
    first z true k = rw k (λ y. omega (arith, z))
    first z false k = rw k (λ y. absurd (true≢false (sym y)))

    item : (g : Option Item) → (said r g).good ≡ true → (said r g).next.lines ≡ r.lines + 1
    item None = λ y. absurd (true≢false (sym y))
    item (Some i) = up (above r.last i) refl
      where
        up : (t : Bool) → above r.last i ≡ t → (said r (Some i)).good ≡ true → (said r (Some i)).next.lines ≡ r.lines + 1
        up true k = rw k (λ y. refl)
        up false k = rw k (λ y. absurd (true≢false (sym y)))

    go : (t : Bool) → has_ended r ≡ t → (u : Bool) → eqb r.lines 0 ≡ u → (step_of r line).good ≡ true → (step_of r line).next.lines ≡ r.lines + 1
    go true e u z = rw (step_ended r line e) (λ y. absurd (true≢false (sym y)))
    go false e true z = rw (step_first r line e (eqb-true _ _ z)) (first (eqb-true _ _ z) (width_known (width_in line)) refl)
    go false e false z = rw (step_item r line e (eqb-false _ _ z)) (item (item_in r.width line))

-- there are no more lines than bytes
few_front : (c : ℕ) (ls : List (List ℕ)) → length (front c ls) ≤ suc (length ls)
few_front c [] = omega arith
few_front c (l ∷ ls) = omega arith

few_cut : (l : List ℕ) → length (cut_in l) ≤ length l
unfolding cut_in
few_cut [] = omega arith
few_cut (c ∷ l) =
    cases (λ (ls : List (List ℕ)). length ls ≤ suc (length l)) (eqb c newline) (λ _. omega (arith, few_cut l)) (λ _. omega (arith, few_front c (cut_in l), few_cut l))

handed_less : (ls : List (List ℕ)) → length (handed ls) ≤ length ls
handed_less [] = omega arith
handed_less (l ∷ ls) = cases (λ (k : List (List ℕ)). length k ≤ suc (length ls)) (cut_off l) (λ _. omega arith) (λ _. omega (arith, handed_less ls))

few_handed : (l : List ℕ) → length (lines_of l) ≤ length l
unfolding lines_of
few_handed l = omega (arith, handed_less (cut_in l), few_cut l)

-- bytes by what they begin with: a whole line, a line that is too long for any, the front of a line, or nothing
pub no_bytes : (l : List ℕ) → length l ≡ 0 → lines_of l ≡ []
unfolding lines_of cut_in
no_bytes [] z = refl
no_bytes (c ∷ l) z = absurd (omega arith)

begins_with : (P : Type 0) (l : List ℕ) → (length_to newline l < length l → P) → (length_to newline l ≡ length l → longest < length l → P)
    → (length_to newline l ≡ length l → length l ≤ longest → lines_of l ≡ [] → P) → P
begins_with P l whole long short = go (ltb (length_to newline l) (length l)) refl (leb (length l) longest) refl (eqb (length l) 0) refl
  where
    none : ltb (length_to newline l) (length l) ≡ false → length_to newline l ≡ length l
    none t = omega (arith, ltb-false (length_to newline l) (length l) t, to_within newline l)

    go : (t : Bool) → ltb (length_to newline l) (length l) ≡ t → (u : Bool) → leb (length l) longest ≡ u → (v : Bool) → eqb (length l) 0 ≡ v → P
    go true t u eu v ev = whole (ltb-true _ _ t)
    go false t false eu v ev = long (none t) (leb-false (length l) longest eu)
    go false t true eu true ev = short (none t) (leb-true _ _ eu) (no_bytes l (eqb-true _ _ ev))
    go false t true eu false ev = short (none t) (leb-true _ _ eu) (lines_short l (omega (arith, eqb-false (length l) 0 ev)) (none t) (leb-true _ _ eu))

-- bytes of which no line is handed over: a line that is not whole yet
unhanded : (l : List ℕ) → lines_of l ≡ [] → (length_to newline l ≡ length l) × (length l ≤ longest)
unhanded l e =
    begins_with ((length_to newline l ≡ length l) × (length l ≤ longest)) l
    (λ there. absurd (omega (arith, ap length (sym (lines_line l there) ∙ e))))
    (λ none long. absurd (omega (arith, ap length (sym (lines_long l (omega (arith, long)) none long) ∙ e))))
    (λ none few _. (none, few))

-- the first line of bytes, which is refused
pub record Refused {A X : Type 0} (m : MachineOver (List ℕ) Readback A X) (r : Readback) (bytes : List ℕ) (n : ℕ) : Type 0 where
  pub line : List ℕ
  pub later : List (List ℕ)
  pub cut : cut_in bytes ≡ line ∷ later
  pub number : m.refusal r line ≡ n
  pub uncut : cut_off line ≡ false

-- a machine that follows the reading, and takes what it takes
module _ {A X : Type 0} (m : MachineOver (List ℕ) Readback A X) (follows : Follows m) (reading : (r : Readback) (l : List ℕ) → m.refusal r l ≡ 0 → reads.refusal r l ≡ 0) where
  pub good_line : (r : Readback) (l : List ℕ) → m.refusal r l ≡ 0 → is_whole l && (step_of r (body_of l)).good ≡ true
  good_line r l z = not_refused r l (eq-eqb (reads.refusal r l) success (reading r l z))

  whole_line : (r : Readback) (l : List ℕ) → m.refusal r l ≡ 0 → is_whole l ≡ true
  whole_line r l z = left (is_whole l) (step_of r (body_of l)).good (good_line r l z)

  pub leaves_good : (r : Readback) (l : List ℕ) → good r ≡ true → good (m.next r l) ≡ true
  leaves_good r l g = rw (follows.next_is r l) (step_leaves r (body_of l) g).0

  -- a line that is not refused and not taken has no room
  no_room : (r : Readback) (l : List ℕ) (ls : List (List ℕ)) (room : ℕ) → (run m r (l ∷ ls) room).refusal ≡ 0 → length (run m r (l ∷ ls) room).answers ≡ 0
      → room < places m r l
  unfolding run
  no_room r l ls room z none = go (takes m r l room) refl
    where
      go : (t : Bool) → takes m r l room ≡ t → room < places m r l
      go true t = absurd (omega (arith, rw t at none))
      go false t = let y : m.refusal r l ≡ 0 = rw t at z in leb-false (places m r l) room (rw (eq-eqb (m.refusal r l) 0 y) at t)

  -- a refusal at the front of bytes is there whatever follows them
  module _ (r : Readback) (g : good r ≡ true) (d q : List ℕ) (room n : ℕ) (number : (run m r (lines_of d) room).refusal ≡ n) (no : n ≡ 0 → ⊥)
      (none : length (run m r (lines_of d) room).answers ≡ 0) where
    head_is : (l : List ℕ) (ls : List (List ℕ)) → lines_of d ≡ l ∷ ls → m.refusal r l ≡ n
    unfolding run
    head_is l ls e = go (takes m r l room) refl
      where
        go : (t : Bool) → takes m r l room ≡ t → m.refusal r l ≡ n
        go true t = let k : length (run m r (l ∷ ls) room).answers ≡ 0 = ap (λ (k : List (List ℕ)). length (run m r k room).answers) (sym e) ∙ none in absurd (omega (arith, rw t at k))
        go false t = let k : (run m r (l ∷ ls) room).refusal ≡ n = ap (λ (k : List (List ℕ)). (run m r k room).refusal) (sym e) ∙ number in rw t at k

    none_handed : lines_of d ≡ [] → ⊥
    unfolding run
    none_handed e = no (sym number ∙ ap (λ (k : List (List ℕ)). (run m r k room).refusal) e)

    whole_first : length_to newline d < length d → Refused m r (d ++ q) n
    whole_first there =
        let k = suc (length_to newline d) in
        let l = take k d in
        let front : d ++ q ≡ l ++ (drop k d ++ q) = ap (λ (b : List ℕ). b ++ q) (sym (take-append-drop k d)) ∙ append_assoc l (drop k d) q in
        let tidy : length l ≤ suc (length_to newline l) = omega (arith, first_long d there, same_length_to newline d) in
        record {
          line = l;
          later = cut_in (drop k d ++ q);
          cut = ap cut_in front ∙ cut_whole l (drop k d ++ q) (first_whole d there) tidy;
          number = head_is l (lines_of (drop k d)) (lines_line d there);
          uncut = rw (first_whole d there);
        }

    -- a line that is too long for any is faulty, however long it is
    faulty_here : (l : List ℕ) → is_whole l && (step_of r (body_of l)).good ≡ false → m.refusal r l ≡ faulty_line
    faulty_here l e = follows.faulty_is r l (rw e)

    long_number : length_to newline d ≡ length d → longest < length d → faulty_line ≡ n
    long_number e h =
        let some : 0 < length d = omega arith in
        sym (faulty_here d (rw (not_whole d some e))) ∙ head_is d [] (lines_long d some e h)

    long_first : length_to newline d ≡ length d → longest < length d → Refused m r (d ++ q) n
    long_first e h = go (ltb (length_to newline (d ++ q)) (length (d ++ q))) refl
      where
        go : (t : Bool) → ltb (length_to newline (d ++ q)) (length (d ++ q)) ≡ t → Refused m r (d ++ q) n
        go true b =
            let l = d ++ q in
            let k = length_to newline l in
            let there = ltb-true k (length l) b in
            let body : longest < length (take k l) = omega (arith, length-take-le k l (omega arith), to_append newline d q e) in
            record {
              line = take (suc k) l;
              later = cut_in (drop (suc k) l);
              cut = cut_line l there;
              number = faulty_here (take (suc k) l) (rw (first_whole l there, first_body l there, long_faulty r (take k l) g body)) ∙ long_number e h;
              uncut = rw (first_whole l there);
            }
        go false b =
            let l = d ++ q in
            let some : 0 < length l = omega (arith, length-append d q) in
            let no_newline : length_to newline l ≡ length l = omega (arith, ltb-false (length_to newline l) (length l) b, to_within newline l) in
            record {
              line = l;
              later = [];
              cut = cut_none l some no_newline;
              number = faulty_here l (rw (not_whole l some no_newline)) ∙ long_number e h;
              uncut = rw (not_whole l some no_newline, lt-leb (length l) longest (omega (arith, length-append d q)));
            }

    first_refused : Refused m r (d ++ q) n
    first_refused = begins_with (Refused m r (d ++ q) n) d whole_first long_first (λ _ _ e. absurd (none_handed e))

  -- A PIECE: the lines taken, and what is left of it
  module _ (r : Readback) (piece : List ℕ) (room : ℕ) (g : good r ≡ true) where
    abbrev f : Ran Readback A
    f = run m r (lines_of piece) room

    abbrev ws : List (List ℕ)
    ws = take (length f.answers) (lines_of piece)

    abbrev t : ℕ
    t = length (bytes_in ws)

    abbrev d : List ℕ
    d = drop t piece

    abbrev room_left : ℕ
    room_left = room - length (written m f.answers)

    abbrev later : Ran Readback A
    later = run m f.next (lines_of d) room_left

    pub wholes : Wholes ws
    wholes = lines_whole m whole_line r piece room

    front_and_rest : (q : List ℕ) → piece ++ q ≡ bytes_in ws ++ (d ++ q)
    front_and_rest q =
        ap (λ (l : List ℕ). l ++ q) (sym (take-append-drop t piece)) ∙ append_assoc (take t piece) d q ∙ ap (λ (l : List ℕ). l ++ (d ++ q)) (lines_front piece (length f.answers))

    pub later_good : good f.next ≡ true
    later_good = stays m (λ (r : Readback). good r ≡ true) leaves_good (lines_of piece) r room g

    pub lines_both : (q : List ℕ) → lines_of (piece ++ q) ≡ ws ++ lines_of (d ++ q)
    lines_both q = ap lines_of (front_and_rest q) ∙ lines_wholes ws (d ++ q) wholes

    lines_here : lines_of piece ≡ ws ++ lines_of d
    lines_here = ap lines_of (sym (append-nil piece)) ∙ lines_both [] ∙ ap (λ (l : List ℕ). ws ++ lines_of l) (append-nil d)

    pub taken_long : length f.answers ≡ length ws
    taken_long = sym (length-take-le (length f.answers) (lines_of piece) (within m (lines_of piece) r room).0)

    -- a run over a piece and more is the run over the piece, and then over what it left and more
    pub joins : (q : List ℕ) → run m r (lines_of (piece ++ q)) room ≡ behind f.answers (run m f.next (lines_of (d ++ q)) room_left)
    joins q =
        let all = up_to m (lines_of piece) r room in
        let j = join m (lines_of (d ++ q)) ws r room (ap (λ (f : Ran Readback A). length f.answers) all ∙ taken_long) in
        ap (λ (ls : List (List ℕ)). run m r ls room) (lines_both q) ∙ j ∙ rw all

    joins_here : f ≡ behind f.answers later
    joins_here =
        ap (λ (l : List ℕ). run m r (lines_of l) room) (sym (append-nil piece)) ∙ joins []
        ∙ ap (λ (l : List ℕ). behind f.answers (run m f.next (lines_of l) room_left)) (append-nil d)

    none_later : length later.answers ≡ 0
    none_later = omega (arith, ap (λ (k : Ran Readback A). length k.answers) joins_here, length-append f.answers later.answers)

    same_refusal : later.refusal ≡ f.refusal
    same_refusal = sym (ap (λ (k : Ran Readback A). k.refusal) joins_here)

    -- where it is refused, the first line of what is left is, whatever follows
    pub refused : (f.refusal ≡ 0 → ⊥) → (q : List ℕ) → Refused m f.next (d ++ q) f.refusal
    refused some q = first_refused f.next later_good d q room_left f.refusal same_refusal some none_later

    -- and where the first line of what is left is one that it refuses, it is refused
    pub refuses : (l : List ℕ) (ls : List (List ℕ)) → lines_of d ≡ l ∷ ls → (m.refusal f.next l ≡ 0 → ⊥) → f.refusal ≡ m.refusal f.next l
    unfolding run
    refuses l ls e some =
        let here : (run m f.next (l ∷ ls) room_left).refusal ≡ m.refusal f.next l = rw (stops m f.next l room_left (λ z. absurd (some z))) in
        sym same_refusal ∙ ap (λ (k : List (List ℕ)). (run m f.next k room_left).refusal) e ∙ here

    pub more_lines : f.next.lines ≡ r.lines + length f.answers
    more_lines =
        over_taken m (λ r ls answers next. next.lines ≡ r.lines + length answers) (λ r. omega arith)
        (λ r l ls answers next z ih.
        omega (arith, ih, ap (λ (r : Readback). r.lines) (follows.next_is r l), one_more_lem r (body_of l) (right (is_whole l) (step_of r (body_of l)).good (good_line r l z))))
        (lines_of piece) r room

    -- with room for a line for each byte, and no refusal: the front of a line is left, and the listing is nearer to its end
    module _ (most : ℕ) (few : (r : Readback) (l : List ℕ) → good r ≡ true → places m r l ≤ most) (enough : most * length piece ≤ room) (fine : f.refusal ≡ 0) where
      few_written : length (written m f.answers) ≤ most * length f.answers
      few_written =
          over_taken m (λ r ls answers next. good r ≡ true → length (written m answers) ≤ most * length answers) (λ r g. omega arith)
          (λ r l ls answers next z ih g.
          omega (arith, few r l g, ih (leaves_good r l g), mul-suc most (length answers), length-append (m.writes (m.answer r l)) (written m answers)))
          (lines_of piece) r room g

      none_left : lines_of d ≡ []
      none_left = go (lines_of d) refl
        where
          go : (ls : List (List ℕ)) → lines_of d ≡ ls → lines_of d ≡ []
          go [] e = e
          go (l ∷ ls) e =
              let small = no_room f.next l ls room_left (ap (λ (k : List (List ℕ)). (run m f.next k room_left).refusal) (sym e) ∙ same_refusal ∙ fine)
              (ap (λ (k : List (List ℕ)). length (run m f.next k room_left).answers) (sym e) ∙ none_later) in
              let one : length (lines_of piece) ≡ length ws + suc (length ls) = ap length lines_here ∙ length-append ws (lines_of d) ∙ ap (λ (k : List (List ℕ)). length ws + length k) e in
              let all : most * suc (length f.answers) ≤ most * length piece = mul-le-mul_left most (omega (arith, one, taken_long, few_handed piece)) in
              absurd (omega (arith, small, few f.next l later_good, few_written, enough, all, mul-suc most (length f.answers)))

      pub left_over : (length_to newline d ≡ length d) × (length d ≤ longest)
      left_over = unhanded d none_left

      pub nearer : (held : ℕ) → held < length piece → held ≤ longest → to_go f.next (length piece - t) < to_go r held
      nearer held h few_held = go f.answers refl
        where
          go : (answers : List A) → f.answers ≡ answers → to_go f.next (length piece - t) < to_go r held
          go [] e =
              let zero : t ≡ 0 = ap (λ (k : List A). length (bytes_in (take (length k) (lines_of piece)))) e in
              let same : f.next.lines ≡ r.lines = omega (arith, more_lines, ap (λ (k : List A). length k) e) in
              let few_bytes : length piece ≤ longest = omega (arith, left_over.1, length-drop t piece, zero) in
              omega (arith, same, few_bytes, zero, h)
          go (x ∷ xs) e =
              let up : r.lines < f.next.lines = omega (arith, more_lines, ap (λ (k : List A). length k) e) in
              omega (arith, up, few_lines f.next later_good)
