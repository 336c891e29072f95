-- What is told of a piece in front of more: what is told of what was left of it and more, or of the line that was refused.
use Prim.Native.Nat.{ℕ, suc, ◌+◌, ◌<◌, ◌≤◌}
use mathlib.Core.Path.{◌≡◌, refl, sym, ◌∙◌, ap}
use mathlib.Core.Bool.{Bool, true, false, cond, ◌&&◌}
use mathlib.Core.List.{List, [], ◌∷◌, ◌++◌, append_assoc}
use native.Mathlib.Omega.{arith}
use native.Mathlib.Nat.{zero-add}
use lib.Dec.{eqb}
use lib.IntN.{ℤ, pos}
use lib.ListN.{length, take, drop, length-append}
use lib.Seq.{take_at}
use borrow.Author.Tests.{eq-eqb, ne_eqb, le-leb}
use Rattle.text.specs.Growth.{slice, filled_by}
use Rattle.text.specs.Decimals.{plain, decimal_of}
use Rattle.text.specs.declared.Text.{Text}
use Rattle.text.proofs.Digits.{decimal_few}
use Rattle.text.proofs.Filled.{both_filled, filled_all}
use Rattle.wire.specs.Numbers.{success}
use Rattle.readback.specs.Steps.{good, has_ended}
use Rattle.readback.specs.Pieces.{cut_in, cut_off, is_whole, longest, faulty_line, back}
use Rattle.readback.specs.Rewriting.{rewrites, rewrite_lines}
use Rattle.readback.specs.Promises.{finish_of, FinishPromise, RewritePromise}
use Rattle.readback.specs.Held.{Ready}
use Rattle.readback.specs.declared.Readback.{Readback}
use Rattle.readback.specs.declared.Rewritten.{Rewritten}
use Rattle.readback.specs.declared.Back.{Back}
use Rattle.readback.proofs.Cuts.{cut_none, not_whole}
use Rattle.readback.proofs.Other.{refused_line}
use Rattle.readback.proofs.OverLines.{over_piece, told_line}
use Rattle.readback.proofs.Rewrites.{rewrites_lawful}
use Rattle.mwidth.specs.Told.{of_line, is_too_wide, is_faulty, is_missing, tell_of, why_of, told_from}
use Rattle.mwidth.specs.Blocks.{tells, at_end}

-- a line that is taken, and one that is refused
module _ (r : Readback) (l : List ℕ) (ls : List (List ℕ)) where
  goes_on : rewrites.refusal r l ≡ 0 → told_from r (l ∷ ls) ≡ told_from (rewrites.next r l) ls
  unfolding told_from
  goes_on z = rw (eq-eqb (rewrites.refusal r l) 0 z)

  told_here : (rewrites.refusal r l ≡ 0 → ⊥) → told_from r (l ∷ ls) ≡ tell_of (r.lines + 1) (cond (cut_off l) is_missing (why_of (rewrites.refusal r l)))
  unfolding told_from
  told_here some = rw (ne_eqb (rewrites.refusal r l) 0 some)

-- a call of a good reader
module _ (r : Readback) (piece out after : List ℕ) (a : Rewritten) (g : good r ≡ true) (p : RewritePromise r piece out a after) where
  pub told_behind : (q : List ℕ) → tells r piece q ≡ tells a.next (drop a.taken piece) q
  told_behind q =
      over_piece rewrite_lines rewrites_lawful r piece out g p (λ r ls texts next more. told_from r ls ≡ told_from next more) (λ r ls. refl) (λ r l ls texts next more z ih. goes_on r l ls z ∙ ih) q

  pub told_refused : (a.refusal ≡ 0 → ⊥) → (q : List ℕ) → tells r piece q ≡ tell_of a.line (why_of a.refusal)
  told_refused some q =
      let k = refused_line r piece out after a g p some q in
      told_behind q ∙ ap (told_from a.next) k.cut ∙ told_here a.next k.line k.later (λ z. some (sym k.number ∙ z))
      ∙ ap (λ (t : Bool). tell_of (a.next.lines + 1) (cond t is_missing (why_of (rewrites.refusal a.next k.line)))) k.uncut
      ∙ ap (λ (n : ℕ). tell_of (a.next.lines + 1) (why_of n)) k.number ∙ ap (λ (n : ℕ). tell_of n (why_of a.refusal)) (sym (told_line rewrite_lines rewrites_lawful r piece out g p some))

-- the end: the front of a line, or nothing
ends_with : (r : Readback) (held : ℕ) → good r ≡ true → at_end r held ≡ cond (has_ended r && eqb held 0) [] (tell_of (r.lines + 1) is_missing)
unfolding finish_of
ends_with r held g = rw g (go (has_ended r && eqb held 0))
  where
    go : (t : Bool) → (let end = cond t (back success r 0 0 0) (back faulty_line r 0 0 (r.lines + 1)) in cond (eqb end.refusal 0) [] (tell_of end.line is_missing)) ≡ cond t [] (tell_of (r.lines + 1) is_missing)
    go true = refl
    go false = refl

pub told_end : (r : Readback) (held : List ℕ) → Ready r held → told_from r (cut_in held) ≡ at_end r (length held)
unfolding told_from cut_in
told_end r [] k = sym (ends_with r 0 k.sound ∙ ap (λ (t : Bool). cond t [] (tell_of (r.lines + 1) is_missing)) (and_yes (has_ended r)))
  where
    and_yes : (t : Bool) → t && true ≡ t
    and_yes true = refl
    and_yes false = refl
told_end r (c ∷ l) k =
    let bytes = c ∷ l in
    let some : 0 < length bytes = omega arith in
    let cut : is_whole bytes ≡ false = not_whole bytes some k.part in
    let faulty : rewrites.refusal r bytes ≡ faulty_line = rw cut in
    let off : cut_off bytes ≡ true = rw (cut, le-leb (length bytes) longest k.few) in
    ap (told_from r) (cut_none bytes some k.part) ∙ told_here r bytes [] (λ z. omega (arith, z, faulty))
    ∙ ap (λ (t : Bool). tell_of (r.lines + 1) (cond t is_missing (why_of (rewrites.refusal r bytes)))) off
    ∙ sym (ends_with r (suc (length l)) k.sound ∙ ap (λ (t : Bool). cond t [] (tell_of (r.lines + 1) is_missing)) (ap (λ (t : Bool). has_ended r && t) (ne_eqb (suc (length l)) 0 (λ e. omega arith)) ∙ and_no (has_ended r)))
  where
    and_no : (t : Bool) → t && false ≡ false
    and_no true = refl
    and_no false = refl

-- the last words, by what was refused
pub why_wide : (n : ℕ) → n ≡ 15 → why_of n ≡ is_too_wide
why_wide n e = rw e

pub why_faulty : (n : ℕ) → (n ≡ 15 → ⊥) → why_of n ≡ is_faulty
why_faulty n other = rw (ne_eqb n 15 other)

-- or an end that is missing
module _ (r : Readback) (held : ℕ) (e : Back) (p : FinishPromise r held e) where
  end_is : at_end r held ≡ cond (eqb e.refusal 0) [] (tell_of e.line is_missing)
  end_is = ap (λ (b : Back). cond (eqb b.refusal 0) [] (tell_of b.line is_missing)) (sym p)

  pub end_missing : (e.refusal ≡ 0 → ⊥) → at_end r held ≡ tell_of e.line is_missing
  end_missing some = end_is ∙ rw (ne_eqb e.refusal 0 some)

  pub end_none : e.refusal ≡ 0 → at_end r held ≡ []
  end_none z = end_is ∙ rw (eq-eqb e.refusal 0 z)

-- the words in a buffer: the line behind "mwidth: line ", and why
module _ (a b c d : List ℕ) (k m n line : ℕ) (x : ℤ) (why : List ℕ) (wide : length a ≡ 80) (is : x ≡ pos line) (small : line < 4294967296) (short : length why ≤ 50)
    (first : slice b k ≡ filled_by (slice a 0) of_line) (second : slice c m ≡ filled_by (slice b k) (decimal_of plain x)) (third : slice d n ≡ filled_by (slice c m) why) where
  abbrev words : List ℕ
  words = tell_of line why

  few : length words ≤ 80
  few = omega (arith, decimal_few plain 9 (pos line) (omega arith) (omega arith), length-append (decimal_of plain (pos line)) why)

  all : slice d n ≡ slice (words ++ drop (length words) a) (length words)
  all =
      third ∙ ap (λ (t : Text). filled_by t why) (second ∙ ap (λ (z : ℤ). filled_by (slice b k) (decimal_of plain z)) is ∙ ap (λ (t : Text). filled_by t (decimal_of plain (pos line))) first)
      ∙ ap (λ (t : Text). filled_by t why) (both_filled (slice a 0) of_line (decimal_of plain (pos line))) ∙ both_filled (slice a 0) (of_line ++ decimal_of plain (pos line)) why
      ∙ ap (filled_by (slice a 0)) (append_assoc of_line (decimal_of plain (pos line)) why) ∙ filled_all words (slice a 0) (omega (arith, few, wide)) ∙ rw (zero-add (length words))

  pub words_there : n ≤ length d
  words_there = omega (arith, ap (λ (t : Text). t.len) all, ap (λ (t : Text). length t.bytes) all, length-append words (drop (length words) a))

  pub words_are : take n d ≡ words
  words_are = ap (λ (t : Text). take t.len t.bytes) all ∙ take_at words (drop (length words) a) (length words) refl
