-- IN ANY CALLS: what is written of a listing at the other width is one text, whatever the cuts and the rooms; and 15 is told where and only where a number does
-- not fit.
use Prim.Native.Nat.{ℕ, suc, ◌+◌, ◌<◌}
use mathlib.Core.Path.{◌≡◌, refl, sym, ◌∙◌, ap}
use mathlib.Core.Bool.{true, true≢false}
use mathlib.Core.List.{List, [], ◌∷◌, ◌++◌, append_assoc, append-nil}
use native.Mathlib.Omega.{arith}
use lib.ListN.{length, take, drop}
use borrow.Author.Tests.{eq-eqb, ne_eqb}
use Rattle.fold.specs.Fold.{Ran, written, run}
use Rattle.fold.specs.Pieces.{Call, Permitted, after, taken_by, written_by}
use Rattle.fold.proofs.Pieces as in_pieces
use Rattle.fold.proofs.Pieces.{EachCall}
use Rattle.text.specs.Lengths.{length_to}
use Rattle.listing.specs.Lines.{newline}
use Rattle.readback.specs.Steps.{fresh, good}
use Rattle.readback.specs.Pieces.{cut_in, lines_of}
use Rattle.readback.specs.Rewriting.{too_wide, rewrites, rewrite_lines, rewriting}
use Rattle.readback.specs.Promises.{RewritePromise}
use Rattle.readback.specs.Calls.{rewrite_calls}
use Rattle.readback.specs.Other.{other_from, other_of, TooWide}
use Rattle.readback.specs.declared.Readback.{Readback}
use Rattle.readback.specs.declared.Rewritten.{Rewritten}
use Rattle.readback.proofs.Across.{whole_line}
use Rattle.readback.proofs.Cuts.{cut_none, not_whole}
use Rattle.readback.proofs.Goodness.{fresh_is_good}
use Rattle.readback.proofs.Onward as onward
use Rattle.readback.proofs.Onward.{Refused}
use Rattle.readback.proofs.OverLines as over_lines
use Rattle.readback.proofs.OverLines.{as_one, refusal_is, next_is, taken_is, wrote}
use Rattle.readback.proofs.Rewrites.{rewriting_follows, rewrites_lawful, taken_read, wide_is, is_wide}
use Rattle.readback.proofs.SameItems.{next_good}

module _ (r : Readback) (l : List ℕ) where
  -- a line that is taken is written, and one that is refused ends what is written
  pub goes_on : (ls : List (List ℕ)) → rewrites.refusal r l ≡ 0 → other_from r (l ∷ ls) ≡ rewrites.answer r l ++ other_from (rewrites.next r l) ls
  unfolding other_from
  goes_on ls z = rw (eq-eqb (rewrites.refusal r l) 0 z)

  stops_here : (ls : List (List ℕ)) → (rewrites.refusal r l ≡ 0 → ⊥) → other_from r (l ∷ ls) ≡ []
  unfolding other_from
  stops_here ls n = rw (ne_eqb (rewrites.refusal r l) 0 n)

none_written : (r : Readback) → other_from r (cut_in []) ≡ []
unfolding other_from cut_in
none_written r = refl

-- bytes without a newline write nothing
pub no_newline : (r : Readback) (l : List ℕ) → length_to newline l ≡ length l → other_from r (cut_in l) ≡ []
no_newline r [] e = none_written r
no_newline r (c ∷ l) e =
    let some : 0 < suc (length l) = omega arith in
    ap (other_from r) (cut_none (c ∷ l) some e) ∙ stops_here r (c ∷ l) [] (λ z. true≢false (sym (whole_line r (c ∷ l) z) ∙ not_whole (c ∷ l) some e))

-- a call of a good reader
module _ (r : Readback) (piece out after : List ℕ) (a : Rewritten) (g : good r ≡ true) (p : RewritePromise r piece out a after) where
  abbrev f : Ran Readback (List ℕ)
  f = run rewrites r (lines_of piece) (length out)

  -- what is written of the bytes taken and more
  taken_writes : (q : List ℕ) → other_from r (cut_in (take a.taken piece ++ q)) ≡ take a.written after ++ other_from a.next (cut_in q)
  taken_writes q =
      over_lines.over_call rewrite_lines rewrites_lawful r piece out g p (λ r ls texts next more. other_from r ls ≡ written rewrites texts ++ other_from next more) (λ r ls. refl)
      (λ r l ls texts next more z ih.
      goes_on r l ls z ∙ ap (λ (k : List ℕ). rewrites.answer r l ++ k) ih ∙ sym (append_assoc (rewrites.answer r l) (written rewrites texts) (other_from next more))) q
      ∙ rw (wrote rewrite_lines rewrites_lawful r piece out g p)

  -- where it is refused, the first line of what it left is, whatever follows; and nothing more is written
  pub refused_line : (a.refusal ≡ 0 → ⊥) → (q : List ℕ) → Refused rewrites a.next (drop a.taken piece ++ q) a.refusal
  refused_line = over_lines.refused_line rewrite_lines rewrites_lawful r piece out g p

  pub no_more : (a.refusal ≡ 0 → ⊥) → (q : List ℕ) → other_from a.next (cut_in (drop a.taken piece ++ q)) ≡ []
  no_more some q = let k = refused_line some q in ap (other_from a.next) k.cut ∙ stops_here a.next k.line k.later (λ z. some (sym k.number ∙ z))

  -- 15 IS TOLD WHERE, AND ONLY WHERE, the first line that was not taken is read without a fault and its number does not fit; and it is told at that line
  pub only_there : a.refusal ≡ too_wide → (q : List ℕ)
      → (l : List ℕ) × (ls : List (List ℕ)) × (cut_in (drop a.taken piece ++ q) ≡ l ∷ ls) × TooWide a.next l × (a.line ≡ a.next.lines + 1)
  only_there e q =
      let some : a.refusal ≡ 0 → ⊥ = λ z. omega (arith, z, e) in
      let k = refused_line some q in
      (k.line, k.later, k.cut, wide_is a.next k.line (k.number ∙ e), over_lines.told_line rewrite_lines rewrites_lawful r piece out g p some)

  pub told_there : (l : List ℕ) (ls : List (List ℕ)) → lines_of (drop a.taken piece) ≡ l ∷ ls → TooWide a.next l → a.refusal ≡ too_wide
  told_there l ls e w =
      let next = next_is rewrite_lines rewrites_lawful r piece out g p in
      let wide : rewrites.refusal f.next l ≡ too_wide = ap (λ (n : Readback). rewrites.refusal n l) (sym next) ∙ is_wide a.next l w in
      refusal_is rewrite_lines rewrites_lawful r piece out g p
      ∙ onward.refuses rewrites rewriting_follows taken_read r piece (length out) g l ls (ap (λ (n : ℕ). lines_of (drop n piece)) (sym (taken_is rewrite_lines rewrites_lawful r piece out g p)) ∙ e) (λ z. omega (arith, z, wide))
      ∙ wide

abbrev Good : Readback → Type 0
Good r = good r ≡ true

abbrev other_in : Readback → List ℕ → List ℕ
other_in r bytes = other_from r (cut_in bytes)

-- A PIECE AND MORE: what the call wrote, and then what is written of what it left and more
pub goes : EachCall rewrite_calls Good (λ r piece after a. (q : List ℕ) → other_in r (piece ++ q) ≡ take a.written after ++ other_in a.next (drop a.taken piece ++ q))
goes = in_pieces.piece_and_more rewrite_calls Good next_good other_in taken_writes

-- CALLS ONE AFTER THE OTHER: what they wrote is what is written of the bytes that they took, and then what is written of what follows
pub calls_write : (ks : List (Call Rewritten ℕ)) (q : List ℕ) (r : Readback) → good r ≡ true → Permitted rewrite_calls r ks
    → other_from r (cut_in (taken_by rewrite_calls ks ++ q)) ≡ written_by rewrite_calls ks ++ other_from (after rewrite_calls r ks) (cut_in q)
calls_write = in_pieces.calls_write rewrite_calls Good next_good other_in taken_writes

pub calls_good : (ks : List (Call Rewritten ℕ)) (r : Readback) → good r ≡ true → Permitted rewrite_calls r ks → good (after rewrite_calls r ks) ≡ true
calls_good = in_pieces.after_kept rewrite_calls Good next_good

-- IN ANY CALLS: what a fresh reader's calls wrote is the other width of the bytes that they took
pub in_any_calls : (ks : List (Call Rewritten ℕ)) → Permitted rewrite_calls fresh ks → written_by rewrite_calls ks ≡ other_of (taken_by rewrite_calls ks)
in_any_calls ks h =
    in_pieces.calls_wrote rewrite_calls Good next_good other_in taken_writes ks [] fresh fresh_is_good h (none_written (after rewrite_calls fresh ks)) ∙ ap other_of (append-nil (taken_by rewrite_calls ks))

-- PIECES JOIN
pub joining : (r : Readback) (p q out : List ℕ) (a b c : Rewritten) (x y z : List ℕ) → good r ≡ true
    → RewritePromise r p out b y
    → RewritePromise b.next (drop b.taken p ++ q) (drop b.written y) c z
    → RewritePromise r (p ++ q) out a x
    → rewriting a x ≡ as_one rewrite_lines (rewriting b y) (rewriting c z)
joining r p q out a b c x y z = over_lines.joining rewrite_lines rewrites_lawful r p q out
