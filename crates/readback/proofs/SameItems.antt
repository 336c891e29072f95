-- A LISTING REWRITTEN AT THE OTHER WIDTH SHOWS THE SAME ITEMS: in whatever calls, the bytes that were written say what the bytes that were taken say.
use Prim.Native.Nat.{ℕ}
use mathlib.Core.Path.{◌≡◌, refl, sym, ◌∙◌, ap, subst}
use mathlib.Core.Bool.{Bool, true, false, cond}
use mathlib.Core.Logic.{◌⊎◌, inl, inr}
use mathlib.Core.List.{List, [], ◌++◌, append_assoc, append-nil}
use lib.Dec.{eqb}
use lib.ListN.{length, take}
use Rattle.fold.specs.Fold.{run}
use Rattle.fold.specs.Pieces.{Call, Permitted, taken_by, written_by}
use Rattle.fold.proofs.Laws.{by_words}
use Rattle.fold.proofs.Pieces.{over_calls}
use Rattle.wire.specs.Numbers.{success, bad_state}
use Rattle.readback.specs.Steps.{fresh, good}
use Rattle.readback.specs.Pieces.{reads, faulty_line, cut_in, lines_of, faultless}
use Rattle.readback.specs.Rewriting.{given_fits, width_behind, too_wide, rewrites, rewrite_lines, rewriting, rewritten}
use Rattle.readback.specs.Promises.{RewritePromise}
use Rattle.readback.specs.Calls.{rewrite_calls}
use Rattle.readback.specs.Whole.{reading_from, reading_of}
use Rattle.readback.specs.declared.Readback.{Readback}
use Rattle.readback.specs.declared.Rewritten.{Rewritten}
use Rattle.readback.proofs.Goodness.{fresh_is_good}
use Rattle.readback.proofs.OverLines as over_lines
use Rattle.readback.proofs.OverLines.{refusal_is, next_is, took, wrote}
use Rattle.readback.proofs.Rewrites.{rewrites_lawful}
use Rattle.readback.proofs.Wholes.{cut_wholes, lines_whole}
use Rattle.readback.proofs.Across.{across, whole_line, lines_same, texts_cut}

-- a call of a good reader
module _ (r : Readback) (piece out after : List ℕ) (a : Rewritten) (g : good r ≡ true) (p : RewritePromise r piece out a after) where
  abbrev ws : List (List ℕ)
  ws = take (length (run rewrites r (lines_of piece) (length out)).answers) (lines_of piece)

  -- EVERY CALL OF A GOOD READER GIVES A GOOD ONE
  pub next_good : good a.next ≡ true
  next_good = over_lines.next_good rewrite_lines rewrites_lawful r piece out g p

  -- in front of more, on both sides
  pub call_same : (q' q : List ℕ) → reading_from (across a.next) (cut_in q') ≡ reading_from a.next (cut_in q)
      → reading_from (across r) (cut_in (take a.written after ++ q')) ≡ reading_from r (cut_in (take a.taken piece ++ q))
  call_same q' q h =
      ap (λ (l : List ℕ). reading_from (across r) (cut_in (l ++ q'))) (wrote rewrite_lines rewrites_lawful r piece out g p) ∙ ap (reading_from (across r)) (texts_cut (lines_of piece) r (length out) g q')
      ∙ lines_same (lines_of piece) r (length out) g (cut_in q') (cut_in q) (rw (next_is rewrite_lines rewrites_lawful r piece out g p) at h)
      ∙ sym (ap (λ (l : List ℕ). reading_from r (cut_in (l ++ q))) (took rewrite_lines rewrites_lawful r piece out g p) ∙ ap (reading_from r) (cut_wholes ws q (lines_whole rewrites whole_line r piece (length out))))

-- THE SAME ITEMS, and the same fault where the end is missing
pub same_items : (ks : List (Call Rewritten ℕ)) → Permitted rewrite_calls fresh ks → reading_of (written_by rewrite_calls ks) ≡ reading_of (taken_by rewrite_calls ks)
unfolding reading_of reading_from cut_in
same_items ks h =
    rw (append-nil (written_by rewrite_calls ks), append-nil (taken_by rewrite_calls ks)) at
    (over_calls rewrite_calls (λ r. good r ≡ true) next_good
    (λ r p w t q. (q' : List ℕ) → reading_from (across t) (cut_in q') ≡ reading_from t (cut_in q) → reading_from (across r) (cut_in (w ++ q')) ≡ reading_from r (cut_in p)) (λ r q q' h. h)
    (λ r p w t q v u rest one two q' h. rw (append_assoc w v q') (one (v ++ q') (two q' h))) (λ r piece out after a g p q q'. call_same r piece out after a g p q' q)
    ks [] fresh fresh_is_good h [] refl)

-- 6 leaves all as it was, with counts of 0
pub bad_state_rewrite : (r : Readback) (piece before after : List ℕ) (a : Rewritten) → good r ≡ false → RewritePromise r piece before a after
    → rewriting a after ≡ rewriting (rewritten bad_state r 0 0 0) before
bad_state_rewrite r piece before after a = over_lines.bad_state_lem rewrite_lines r piece before

-- a good reader is refused for a faulty line, 7, and for a number that does not fit, 15, and for nothing else
told : (t u : Bool) → let n = cond t (cond u success too_wide) faulty_line in (n ≡ success) ⊎ (n ≡ faulty_line) ⊎ (n ≡ too_wide)
told true true = inl refl
told true false = inr (inr refl)
told false u = inr (inl refl)

pub good_rewrite : (r : Readback) (piece before after : List ℕ) (a : Rewritten) → good r ≡ true → RewritePromise r piece before a after
    → (a.refusal ≡ success) ⊎ (a.refusal ≡ faulty_line) ⊎ (a.refusal ≡ too_wide)
good_rewrite r piece before after a g p =
    let P : ℕ → Type 0 = λ n. (n ≡ success) ⊎ (n ≡ faulty_line) ⊎ (n ≡ too_wide) in
    subst P (sym (refusal_is rewrite_lines rewrites_lawful r piece before g p))
    (by_words rewrites (λ r lines room f. P f.refusal) (λ r room. inl refl) (λ r l lines room e. told (eqb (reads.refusal r l) success) (given_fits (width_behind r l) (reads.answer r l))) (λ r l lines room f e ih. ih) (lines_of piece) r (length before))

-- AS IT STANDS: with a faulty line, or a number that does not fit, a call gives what a call of the bytes taken gives,
-- but for the number and the line
pub rewrite_as_before : (r : Readback) (piece before after rest : List ℕ) (a b : Rewritten) → good r ≡ true → RewritePromise r piece before a after → RewritePromise r (take a.taken piece) before b rest
    → rewriting b rest ≡ faultless (rewriting a after)
rewrite_as_before r piece before after rest a b = over_lines.as_before rewrite_lines rewrites_lawful r piece before
