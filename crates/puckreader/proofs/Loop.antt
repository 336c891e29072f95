-- The long read's loop: the first word of what is left, and what stays within the machine's numbers.
use Prim.Native.Nat.{ℕ, suc, ◌+◌, ◌-◌, ◌*◌, ◌<◌, ◌≤◌}
use mathlib.Core.Path.{◌≡◌, ◌∙◌, ap}
use mathlib.Core.Bool.{true}
use mathlib.Core.List.{List, [], ◌∷◌, ◌++◌}
use native.Mathlib.Omega.{arith}
use lib.ListN.{length, get_or, take, drop, set, length-take}
use lib.Seq.{sets-eq, drop-cons}
use lib.IntN.{ℤ}
use borrow.Rule.Slice.PartMut.{put_mid}
use Rattle.fold.specs.Fold.{run}
use Rattle.fold.specs.Calls.{Counts, counts, sum, line, Stands}
use Rattle.fold.specs.Calls as calls
use Rattle.fold.proofs.Parts.{rest_is}
use Rattle.fold.proofs.Calls.{sum_append}
use Rattle.fold.proofs.Loops as loops
use Rattle.puckreader.specs.State.{PuckRead}
use Rattle.puckreader.specs.Rules.{word_of}
use Rattle.puckreader.specs.Good.{good}
use Rattle.puckreader.specs.Line.{PuckReading, report_of, reports_in, dropped_in, numbers, reads, reads_line, whole, Begins}
use Rattle.puckreader.specs.declared.PuckReader.{PuckReader}
use Rattle.puckreader.proofs.Kept.{held, count_small}
use Rattle.puckreader.proofs.Counting.{lawful, line_counts, bytes_few}

-- six stores at the front
pub put_is : (l : List ℤ) (a b c d e f : ℤ) {a' b' c' d' e' f' : ℤ} → 6 ≤ length l → a ≡ a' → b ≡ b' → c ≡ c' → d ≡ d' → e ≡ e' → f ≡ f'
    → set (set (set (set (set (set l 0 a) 1 b) 2 c) 3 d) 4 e) 5 f ≡ (a' ∷ b' ∷ c' ∷ d' ∷ e' ∷ f' ∷ []) ++ drop 6 l
put_is l a b c d e f h ea eb ec ed ee ef = sets-eq (a ∷ b ∷ c ∷ d ∷ e ∷ f ∷ []) l 0 h ∙ rw (ea, eb, ec, ed, ee, ef)

module _ {r : PuckReader} {w : ℕ} (words : List ℕ) (out : List ℤ) {s : PuckRead} (sound : good r ≡ true) (is : s ≡ word_of r w) where
  -- a word stops the read, or is taken, whatever stands behind it
  pub stopping : (s.refusal ≡ 0 → length out < 6 * reports_in s.answer)
      → Begins r (w ∷ words) out (record { refusal = s.refusal; next = r; taken = 0; reports = 0; dropped = 0 }) out
  stopping h = rw is (loops.stopping reads_line lawful r (w ∷ words) out sound (omega arith) (rw is at h))

  pub taking : s.refusal ≡ 0 → 6 * reports_in s.answer ≤ length out
      → Begins r (w ∷ words) out (record { refusal = 0; next = s.next; taken = 1; reports = reports_in s.answer; dropped = dropped_in s.answer })
      (numbers (report_of s.answer) ++ drop (6 * reports_in s.answer) out)
  taking z h = rw is (loops.taking reads_line lawful r (w ∷ words) out sound (omega arith) (rw is at z) (rw is at h))

-- how far it has come
pub record Far (words : List ℕ) (before : List ℤ) (at used : ℕ) (k : Counts) (out : List ℤ) : Type 0 where
  pub within : at ≤ length words
  pub room : used ≤ length before
  pub long : length out ≡ length before
  pub places : used ≡ 6 * k.reports

module _ {r t : PuckReader} {words : List ℕ} {before out : List ℤ} {at used : ℕ} {k : Counts} (s : Stands reads_line r words before t at used k out) where
  pub far : Far words before at used k out
  far = let w = loops.stands_within reads_line lawful s in record { within = w.0; room = w.1; long = w.2; places = w.3 }

  -- no more bytes are dropped than there are words, and bytes kept
  pub few : good r ≡ true → k.dropped ≤ length words + 3
  few g =
      let later = (run reads t (drop at words) (length before - used)).answers in
      let all = (run reads r words (length before)).answers in
      let h = held r g in
      let d : (sum reads_line all).dropped ≡ (sum reads_line s.answers).dropped + (sum reads_line later).dropped = rw s.part.is (ap (λ (k : Counts). k.dropped) (sum_append reads_line lawful s.answers later)) in
      omega (arith, line_counts words r (length before) h, bytes_few (take (length all) words), d, ap (λ (k : Counts). k.dropped) s.counts_are, count_small r h, length-take (length all) words)

-- the rest of the line as it is taken apart: its first word, and what stands behind it
pub first_behind : (words : List ℕ) (at : ℕ) → at < length words → take (length words - at) (drop at words) ≡ get_or words at 0 ∷ drop (suc at) words
first_behind words at h = rest_is words at ∙ drop-cons words at 0 h

-- where the loop stands behind a word that was taken
module _ {r t : PuckReader} {words : List ℕ} {before out last : List ℤ} {at used reports dropped : ℕ} {a : PuckReading}
    (s : Stands reads_line r words before t at used (counts reports dropped) out) (here : at < length words)
    (b : (rest : List ℕ) → Begins t (get_or words at 0 ∷ rest) (take (length out - used) (drop used out)) a last) where
  begins : calls.Begins reads_line t (take (length words - at) (drop at words)) (take (length out - used) (drop used out)) (whole a last)
  begins = rw (first_behind words at here) (b (drop (suc at) words))

  pub more : a.taken ≤ 1 → (a.taken ≡ 0 → ⊥)
      → Stands reads_line r words before a.next (at + 1) (used + 6 * a.reports) (counts (reports + a.reports) (dropped + a.dropped))
      (put_mid used (length out - used) out last)
  more few some = let one : a.taken ≡ 1 = omega arith in rw one at (loops.more reads_line lawful s begins)

  -- or one that wasn't
  pub ends_before : a.taken ≡ 0 → whole (record { refusal = a.refusal; next = t; taken = at; reports = reports; dropped = dropped }) (put_mid used (length out - used) out last) ≡ line reads_line r words before
  ends_before none = ap (whole _) (loops.unchanged reads_line lawful s begins none) ∙ loops.ends_before reads_line lawful s begins none
