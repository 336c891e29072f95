-- From what a frame's reader hands out to what the public reader hands out, by steps and by a long read.
use Prim.Native.Nat.{ℕ, zero, suc, ◌+◌, ◌*◌}
use mathlib.Core.Path.{◌≡◌, refl, ◌∙◌, ap}
use mathlib.Core.Bool.{Bool, true, false, cond}
use mathlib.Core.List.{List, [], ◌∷◌, ◌++◌, map, append_assoc}
use native.Mathlib.Nat.{zero-add}
use native.Mathlib.Numerals.{one-add}
use native.Mathlib.Omega.{arith}
use lib.ListN.{length, get_or, take, drop, get_or-map}
use lib.Seq.{drop_at}
use lib.IntN.{ℤ}
use Rattle.numbers.proofs.Choices.{both}
use Rattle.frames.specs.Words.{break, line_words}
use Rattle.wire.specs.Line.{letter_of, marked_of}
use Rattle.wire.specs.declared.Report.{Report}
use Rattle.wire.specs.declared.Format.{Format}
use Rattle.frames.specs.Frame.{State, has, waits, move_of, fresh, step}
use Rattle.frames.specs.Frame as frame
use Rattle.frames.proofs.Words.{passing}
use Rattle.frames.proofs.Reading.{on}
use Rattle.frames.proofs.Replaced as replaced
use Rattle.reader.specs.State.{five_of, NewReader, Read}
use Rattle.reader.specs.Counts.{handed_out, numbers}
use Rattle.reader.specs.Promises.{step_of, FreshPromise}
use Rattle.reader.specs.Runs.{steps_of, StepsPromise, answers}
use Rattle.reader.specs.declared.Reader.{Reader}
use Rattle.reader.specs.declared.Answer.{Answer}
use Rattle.reader.specs.declared.Answer.TheVariants as answer
use Rattle.reader.specs.DamagedLines.{Given, no_word, a_break, HandsOutBy, HandsOut, HandsOutAt}
use Rattle.reader.proofs.Entered.{entered_all}
use Rattle.reader.proofs.Framed.{frame_of, state_of, told, ReaderOf, framed, fresh_of_lem, fresh_state}
use Rattle.reader.proofs.AsSent.{plain, as_sent, break_plain}
use Rattle.reader.proofs.Steps.{took}

-- the steps of the definition are permitted
pub permitted : (r : Reader) (words : List ℕ) → StepsPromise r words (steps_of r words)
unfolding steps_of StepsPromise
permitted r [] = tt
permitted r (w ∷ words) = (refl, permitted (step_of r w).next words)

-- the reports among the answers
same_reports : (l : List (frame.Answer Report)) → handed_out (map told l) ≡ frame.reports l
same_reports [] = refl
same_reports (frame.nothing ∷ l) = same_reports l
same_reports (frame.report p ∷ l) = ap (λ (x : List Report). p ∷ x) (same_reports l)
same_reports (frame.dropped k ∷ l) = same_reports l

-- an answer that is a report stands behind the reports of the answers before it
pub found_at : (l : List Answer) (i : ℕ) (p : Report) → get_or l i answer.Nothing ≡ answer.Report p → handed_out l ≡ handed_out (take i l) ++ (p ∷ handed_out (drop (suc i) l))
found_at [] i p e = cc
found_at (a ∷ l) zero p e = rw e
found_at (answer.Nothing ∷ l) (suc i) p e = found_at l i p e
found_at (answer.Report q ∷ l) (suc i) p e = ap (λ (x : List Report). q ∷ x) (found_at l i p e)
found_at (answer.Dropped k ∷ l) (suc i) p e = found_at l i p e

-- and so do its numbers
pub numbers_length : (l : List Report) → length (numbers l) ≡ 5 * length l
numbers_length [] = refl
numbers_length (p ∷ l) = omega (arith, numbers_length l)

pub numbers_append : (l m : List Report) → numbers (l ++ m) ≡ numbers l ++ numbers m
numbers_append [] m = refl
numbers_append (p ∷ l) m = ap (λ (x : List ℤ). five_of p ++ x) (numbers_append l m)

pub numbers_at : (l : List Report) (p : Report) (m : List Report) (rest : List ℤ) → take 5 (drop (5 * length l) (numbers (l ++ (p ∷ m)) ++ rest)) ≡ five_of p
numbers_at l p m rest =
    rw (numbers_append l (p ∷ m), append_assoc (numbers l), drop_at (numbers l) (five_of p ++ (numbers m ++ rest)) (5 * length l) (numbers_length l))

-- `seen` is what enters of the words
module _ (f : Format) (words seen : List ℕ) (legal : line_words words ≡ true) (enters : entered_all (letter_of f) words ≡ seen) where
  -- a good reader of f, and so a fresh one
  pub hands_out_by : (r : Reader) → ReaderOf f r → (found : List Report) → frame.read (frame_of f) (state_of r) seen ≡ found → HandsOutBy r words found
  hands_out_by r o found e =
      record {
        by_steps = all;
        by_read = λ before after b q room.
            let steps = steps_of r words in
            let w = permitted r words in
            let is = all steps w in
            rw is at (took r words steps before after b o.is_good legal w (rw is room) q);
      }
    where
      all : (steps : List Read) → StepsPromise r words steps → handed_out (answers steps) ≡ found
      all steps q = ap handed_out (rw enters at (framed f words r steps legal o q)) ∙ (same_reports (frame.answers (frame_of f) (state_of r) seen) ∙ e)

  pub hands_out : (found : List Report) → frame.read (frame_of f) (fresh (frame_of f)) seen ≡ found → HandsOut f words found
  hands_out found e a p = hands_out_by a.reader (fresh_of_lem f a p) found (rw (fresh_state f a p) e)

  pub hands_out_at : (i : ℕ) (p : Report) → replaced.Handed (frame_of f) seen i p → HandsOutAt f words i p
  hands_out_at i p h =
      record {
        by_steps = all;
        by_read = λ a steps before after b x y z room.
            let t = took a.reader words steps before after b (fresh_of_lem f a x).is_good legal y room z in
            let l = answers steps in
            let at = found_at l i p (all a steps x y) in (
              t,
              rw (t.written, at)
                  (numbers_at (handed_out (take i l)) p (handed_out (drop (suc i) l)) (drop (5 * length (handed_out (take i l) ++ (p ∷ handed_out (drop (suc i) l)))) before)),
            );
      }
    where
      all : (a : NewReader) (steps : List Read) → FreshPromise (letter_of f) a → StepsPromise a.reader words steps → get_or (answers steps) i answer.Nothing ≡ answer.Report p
      all a steps x y =
          rw (framed f words a.reader steps legal (fresh_of_lem f a x) y, fresh_state f a x, enters)
          (get_or-map told (frame.answers (frame_of f) (fresh (frame_of f)) seen) i frame.nothing ∙ ap told h)

-- a fresh reader answers a break by nothing and is fresh again
module _ (f : Format) where
  break_step : step (frame_of f) (fresh (frame_of f)) break ≡ (fresh (frame_of f), frame.nothing)
  unfolding move_of
  break_step = go (marked_of f)
    where
      go : (t : Bool) → ◌≡◌ {A = State × frame.Answer Report} (cond t (has []) waits, frame.drops (length (frame.kept (cond t (has []) waits)))) (cond t (has []) waits, frame.nothing)
      go true = refl
      go false = refl

  pub behind_given : {given : List ℕ} → Given given → (words : List ℕ) (i : ℕ) (p : Report) → replaced.Handed (frame_of f) words i p
      → replaced.Handed (frame_of f) (given ++ words) (length given + i) p
  behind_given no_word words i p h = rw zero-add h
  behind_given a_break words i p h = rw (one-add i, on (frame_of f) (fresh (frame_of f)) break words break_step) h

  pub read_given : {given : List ℕ} → Given given → (words : List ℕ)
      → frame.read (frame_of f) (fresh (frame_of f)) (given ++ words) ≡ frame.read (frame_of f) (fresh (frame_of f)) words
  read_given no_word words = refl
  read_given a_break words = ap frame.reports (on (frame_of f) (fresh (frame_of f)) break words break_step)

pub given_sent : (f : Format) {given : List ℕ} → Given given → as_sent f given ≡ true
unfolding passing
given_sent f no_word = refl
given_sent f a_break = both (plain f break) true (break_plain f) refl
