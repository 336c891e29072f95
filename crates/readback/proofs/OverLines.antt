-- A call over the lines of a piece, whatever its machine: what it gives back, what it leaves, that pieces join, and
-- that it stands before a fault as without it.
use Prim.Native.Nat.{ℕ, ◌+◌, ◌-◌, ◌*◌, ◌<◌, ◌≤◌}
use mathlib.Core.Path.{◌≡◌, refl, sym, ◌∙◌, ap}
use mathlib.Core.Bool.{true, false}
use mathlib.Core.List.{List, [], ◌∷◌, ◌++◌, append_assoc, append-nil}
use native.Mathlib.Omega.{arith}
use lib.ListN.{length, take, drop, length-append, length-drop, take-append-drop}
use lib.Seq.{take-add, take_at, take_all, drop_at, drop-drop}
use borrow.Author.Tests.{ne_eqb}
use Rattle.fold.specs.Fold.{MachineOver, Ran, behind, written, places, run}
use Rattle.fold.proofs.Laws as fold
use Rattle.wire.specs.Numbers.{bad_state}
use Rattle.readback.specs.Steps.{good}
use Rattle.readback.specs.Pieces.{cut_in, bytes_in, reads, longest, lines_of, Whole, faultless, stopped, OverLines, counted, pieces_of, call_of}
use Rattle.readback.specs.Held.{Ready, to_go}
use Rattle.readback.specs.declared.Readback.{Readback}
use Rattle.readback.proofs.Cuts.{bytes_append, lines_few}
use Rattle.readback.proofs.Loop.{Follows}
use Rattle.readback.proofs.Onward as onward
use Rattle.readback.proofs.Onward.{Refused}
use Rattle.readback.proofs.Wholes.{cut_wholes, lines_wholes, lines_front}

-- a machine that follows the reading and takes what it takes; counts add up, and so many fill the places that are
-- written
pub record Lawful {A X : Type 0} (c : OverLines A X) : Type 0 where
  pub follows : Follows c.machine
  pub reading : (r : Readback) (l : List ℕ) → c.machine.refusal r l ≡ 0 → reads.refusal r l ≡ 0
  pub plus : (l k : List A) → c.count (l ++ k) ≡ c.count l + c.count k
  pub filled : (l : List A) → length (written c.machine l) ≡ c.places (c.count l)

-- two calls, of which the second had what the first left, as one
abbrev pub as_one : {A X : Type 0} → OverLines A X → Whole X → Whole X → Whole X
as_one c w later =
    record {
      refusal = later.refusal;
      next = later.next;
      taken = w.taken + later.taken;
      count = w.count + later.count;
      line = later.line;
      out = take (c.places w.count) w.out ++ later.out;
    }

pub bad_state_lem : {A X : Type 0} (c : OverLines A X) (r : Readback) (piece : List ℕ) (out : List X) {w : Whole X} → good r ≡ false → w ≡ call_of c r piece out
    → w ≡ stopped bad_state r out
unfolding call_of
bad_state_lem c r piece out g p = rw g at p

module _ {A X : Type 0} (c : OverLines A X) (law : Lawful c) where
  abbrev m : MachineOver (List ℕ) Readback A X
  m = c.machine

  counted_both : (ls ms : List (List ℕ)) (answers : List A) (later : Ran Readback A) (out : List X) → length answers ≡ length ls
      → let k = counted c later ms (drop (length (written m answers)) out) in
      counted c (behind answers later) (ls ++ ms) out
      ≡ record {
        refusal = k.refusal;
        next = k.next;
        taken = length (bytes_in ls) + k.taken;
        count = c.count answers + k.count;
        line = k.line;
        out = written m answers ++ k.out;
      }
  counted_both ls ms answers later out e =
      let k = length later.answers in
      let lines : take (length (answers ++ later.answers)) (ls ++ ms) ≡ ls ++ take k ms =
      rw (length-append answers later.answers, e, take-add (length ls) k (ls ++ ms), take_at ls ms (length ls) refl, drop_at ls ms (length ls) refl) in
      rw (
        lines,
        bytes_append ls (take k ms),
        length-append (bytes_in ls) (bytes_in (take k ms)),
        law.plus answers later.answers,
        fold.written_append m answers later.answers,
        length-append (written m answers) (written m later.answers),
        drop-drop (length (written m later.answers)) (length (written m answers)) out,
        append_assoc,
      )

  -- a call of a good reader
  module _ (r : Readback) (piece : List ℕ) (out : List X) (g : good r ≡ true) {w : Whole X} (called : w ≡ call_of c r piece out) where
    abbrev f : Ran Readback A
    f = run m r (lines_of piece) (length out)

    abbrev ws : List (List ℕ)
    ws = take (length f.answers) (lines_of piece)

    abbrev text : List X
    text = written m f.answers

    is : w ≡ counted c f (lines_of piece) out
    unfolding call_of pieces_of
    is = rw g at called

    pub refusal_is : w.refusal ≡ f.refusal
    refusal_is = ap (λ (w : Whole X). w.refusal) is

    pub next_is : w.next ≡ f.next
    next_is = ap (λ (w : Whole X). w.next) is

    pub taken_is : w.taken ≡ length (bytes_in ws)
    taken_is = ap (λ (w : Whole X). w.taken) is

    pub count_is : w.count ≡ c.count f.answers
    count_is = ap (λ (w : Whole X). w.count) is

    out_is : w.out ≡ text ++ drop (length text) out
    out_is = ap (λ (w : Whole X). w.out) is

    -- EVERY CALL OF A GOOD READER GIVES A GOOD ONE
    pub next_good : good w.next ≡ true
    next_good = ap good next_is ∙ onward.later_good m law.follows law.reading r piece (length out) g

    pub more_lines : w.next.lines ≡ r.lines + length f.answers
    more_lines = ap (λ (r : Readback). r.lines) next_is ∙ onward.more_lines m law.follows law.reading r piece (length out) g

    -- what it took, and what it wrote
    pub took : take w.taken piece ≡ bytes_in ws
    took = ap (λ (n : ℕ). take n piece) taken_is ∙ lines_front piece (length f.answers)

    used : c.places w.count ≡ length text
    used = ap c.places count_is ∙ sym (law.filled f.answers)

    pub wrote : take (c.places w.count) w.out ≡ text
    wrote = ap (take (c.places w.count)) out_is ∙ take_at text (drop (length text) out) (c.places w.count) (sym used)

    unused : drop (c.places w.count) w.out ≡ drop (length text) out
    unused = ap (drop (c.places w.count)) out_is ∙ drop_at text (drop (length text) out) (c.places w.count) (sym used)

    pub taken_there : w.taken ≤ length piece
    taken_there = omega (arith, taken_is, lines_few piece (length f.answers))

    pub written_there : (c.places w.count ≤ length out) × (length w.out ≡ length out)
    written_there =
        let few = (fold.within m (lines_of piece) r (length out)).1 in
        (omega (arith, used, few), omega (arith, ap length out_is, length-append text (drop (length text) out), length-drop (length text) out, few))

    -- over the lines that it took, in front of more
    module _ (P : Readback → List (List ℕ) → List A → Readback → List (List ℕ) → Type 0) (same : (r : Readback) (ls : List (List ℕ)) → P r ls [] r ls)
        (line : (r : Readback) (l : List ℕ) (ls : List (List ℕ)) (answers : List A) (next : Readback) (more : List (List ℕ)) → m.refusal r l ≡ 0 → P (m.next r l) ls answers next more
        → P r (l ∷ ls) (m.answer r l ∷ answers) next more) where
      pub over_call : (q : List ℕ) → P r (cut_in (take w.taken piece ++ q)) f.answers w.next (cut_in q)
      over_call q =
          let cut : cut_in (take w.taken piece ++ q) ≡ ws ++ cut_in q =
          ap (λ (l : List ℕ). cut_in (l ++ q)) took ∙ cut_wholes ws q (onward.wholes m law.follows law.reading r piece (length out) g) in
          rw (cut, next_is)
          (fold.over_taken m (λ r ls answers next. (more : List (List ℕ)) → P r (ls ++ more) answers next more) same
          (λ r l ls answers next z ih more. line r l (ls ++ more) answers next more z (ih more)) (lines_of piece) r (length out) (cut_in q))

      -- and over the piece and more
      pub over_piece : (q : List ℕ) → P r (cut_in (piece ++ q)) f.answers w.next (cut_in (drop w.taken piece ++ q))
      over_piece q =
          let d = drop w.taken piece in
          let front : piece ++ q ≡ take w.taken piece ++ (d ++ q) = ap (λ (l : List ℕ). l ++ q) (sym (take-append-drop w.taken piece)) ∙ append_assoc (take w.taken piece) d q in
          rw front (over_call (d ++ q))

    -- where it is refused, the first line of what it left is, whatever follows; and it is told at that line
    pub refused_line : (w.refusal ≡ 0 → ⊥) → (q : List ℕ) → Refused m w.next (drop w.taken piece ++ q) w.refusal
    refused_line some q =
        let k = onward.refused m law.follows law.reading r piece (length out) g (λ z. some (refusal_is ∙ z)) q in
        rw (refusal_is, taken_is, next_is) k

    pub told_line : (w.refusal ≡ 0 → ⊥) → w.line ≡ w.next.lines + 1
    told_line some = ap (λ (w : Whole X). w.line) is ∙ rw (sym refusal_is, ne_eqb w.refusal 0 some, next_is)

    -- with room for a line for each byte, and no refusal, the front of a line is left, and the listing is nearer to its
    -- end
    module _ (most : ℕ) (few : (r : Readback) (l : List ℕ) → good r ≡ true → places m r l ≤ most) (enough : most * length piece ≤ length out) (fine : w.refusal ≡ 0) where
      pub left_over : Ready w.next (drop w.taken piece)
      left_over =
          let u = onward.left_over m law.follows law.reading r piece (length out) g most few enough (sym refusal_is ∙ fine) in
          record { sound = next_good; part = rw taken_is u.0; few = rw taken_is u.1 }

      pub nearer : (held : ℕ) → held < length piece → held ≤ longest → to_go w.next (length piece - w.taken) < to_go r held
      nearer held h short =
          let n = onward.nearer m law.follows law.reading r piece (length out) g most few enough (sym refusal_is ∙ fine) held h short in
          rw (taken_is, next_is) n

  -- PIECES JOIN: a call of a piece and more is the call of the piece, and then of what was left of it and more, with
  -- the reader that came back and the unused part of the slice
  pub joining : (r : Readback) (p q : List ℕ) (out : List X) {all w later : Whole X} → good r ≡ true
      → w ≡ call_of c r p out
      → later ≡ call_of c w.next (drop w.taken p ++ q) (drop (c.places w.count) w.out)
      → all ≡ call_of c r (p ++ q) out
      → all ≡ as_one c w later
  joining r p q out {all} {w} {later} g e k a =
      let f = run m r (lines_of p) (length out) in
      let ws = take (length f.answers) (lines_of p) in
      let text = written m f.answers in
      let n = length text in
      let d = drop (length (bytes_in ws)) p in
      let rest_run = run m f.next (lines_of (d ++ q)) (length out - n) in
      let rest : later ≡ counted c rest_run (lines_of (d ++ q)) (drop n out) =
      rw (unused r p out g e, length-drop n out, taken_is r p out g e, next_is r p out g e) at (is w.next (drop w.taken p ++ q) (drop (c.places w.count) w.out) (next_good r p out g e) k) in
      is r (p ++ q) out g a
      ∙ ap (λ (k : Ran Readback A). counted c k (lines_of (p ++ q)) out) (onward.joins m law.follows law.reading r p (length out) g q)
      ∙ ap (λ (ls : List (List ℕ)). counted c (behind f.answers rest_run) ls out) (onward.lines_both m law.follows law.reading r p (length out) g q)
      ∙ counted_both ws (lines_of (d ++ q)) f.answers rest_run out (onward.taken_long m law.follows law.reading r p (length out) g)
      ∙ ap (λ (k : Whole X). record { refusal = k.refusal; next = k.next; taken = length (bytes_in ws) + k.taken; count = c.count f.answers + k.count; line = k.line; out = text ++ k.out })
      (sym rest)
      ∙ rw (wrote r p out g e, taken_is r p out g e, count_is r p out g e)

  -- AS IT STANDS: with a fault, a call gives what a call of the bytes taken gives, but for the number and the line
  pub as_before : (r : Readback) (piece : List ℕ) (out : List X) {w b : Whole X} → good r ≡ true → w ≡ call_of c r piece out → b ≡ call_of c r (take w.taken piece) out → b ≡ faultless w
  as_before r piece out {w} {b} g e k =
      let f = run m r (lines_of piece) (length out) in
      let ws = take (length f.answers) (lines_of piece) in
      let wholes = onward.wholes m law.follows law.reading r piece (length out) g in
      let lines : lines_of (take w.taken piece) ≡ ws =
      ap lines_of (took r piece out g e ∙ sym (append-nil (bytes_in ws))) ∙ lines_wholes ws [] wholes ∙ rw (onward.no_bytes [] refl) (append-nil ws) in
      is r (take w.taken piece) out g k ∙ ap (λ (ls : List (List ℕ)). counted c (run m r ls (length out)) ls out) lines
      ∙ ap (λ (k : Ran Readback A). counted c k ws out) (fold.up_to m (lines_of piece) r (length out))
      ∙ rw (take_all (length f.answers) ws (omega (arith, onward.taken_long m law.follows law.reading r piece (length out) g))) refl ∙ ap faultless (sym (is r piece out g e))
