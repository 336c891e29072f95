-- The long call's loop: where it stands, the first word of what is left, and how it goes on and ends.
use mathlib.Core.Path.{◌≡◌, refl, ◌∙◌, ap}
use mathlib.Core.Bool.{Bool, true, false}
use mathlib.Core.List.{List, ◌∷◌, ◌++◌}
use Prim.Native.Nat.{ℕ, suc, ◌+◌, ◌-◌, ◌*◌, ◌<◌, ◌≤◌}
use native.Mathlib.Omega.{arith}
use lib.Dec.{leb}
use lib.ListN.{length, get_or, take, drop}
use lib.Seq.{drop-cons}
use borrow.Rule.Slice.PartMut.{put_mid}
use borrow.Author.Tests.{leb-true, leb-false}
use Rattle.fold.specs.Fold.{run}
use Rattle.fold.specs.Calls.{sum, line, Stands}
use Rattle.fold.specs.Calls as fold
use Rattle.fold.proofs.Parts.{rest_is}
use Rattle.fold.proofs.Laws.{within, over_taken}
use Rattle.fold.proofs.Calls as calls
use Rattle.fold.proofs.Loops as loops
use Rattle.wire.specs.declared.Report.{Report}
use Rattle.reader.specs.Rules.{word_of}
use Rattle.reader.specs.Counts.{reports_in, dropped_in}
use Rattle.reader.specs.State.{Read}
use Rattle.reader.specs.declared.Answer.TheVariants as answer
use Rattle.reader.proofs.Word.{word_kept}
use Rattle.reader.proofs.Bounds.{one_byte}
use Rattle.bridge.specs.Splitting.{becomes, bytes_all}
use Rattle.bridge.specs.Good.{good}
use Rattle.bridge.specs.Line.{Converted, Counts, Long, given, behind, bridges, counts, whole, converts, told}
use Rattle.bridge.specs.Parts.{reported_of, Reported, Begins}
use Rattle.bridge.specs.declared.Bridge.{Bridge}
use Rattle.bridge.proofs.Counted.{lawful, reports_few}

module _ {b : Bridge} {w : ℕ} (words out : List ℕ) {s : Read} (g : good b ≡ true) (is : s ≡ word_of b.reader w) where
  -- a word stops the call, or is taken, whatever stands behind it
  pub stopping : (s.refusal ≡ 0 → length out < 3 * length (given b s).sent) → Begins b (w ∷ words) out (record { refusal = s.refusal; next = b; taken = 0; reports = 0; sent = 0; dropped = 0 }) out
  stopping h = rw is (loops.stopping converts lawful b (w ∷ words) out g (omega arith) (rw is at h))

  pub taking : s.refusal ≡ 0 → 3 * length (given b s).sent ≤ length out
      → Begins b (w ∷ words) out (record { refusal = 0; next = behind b s; taken = 1; reports = reports_in s.answer; sent = length (given b s).sent; dropped = dropped_in s.answer })
      (bytes_all (given b s).sent ++ drop (3 * length (given b s).sent) out)
  taking z h = rw is (loops.taking converts lawful b (w ∷ words) out g (omega arith) (rw is at z) (rw is at h))

  -- a word that is answered by a report
  pub reporting : {t : Converted} {after : List ℕ} (p : Report) → s.refusal ≡ 0 → s.answer ≡ answer.Report p → Reported b s.next p out t after → Begins b (w ∷ words) out t after
  unfolding reported_of
  reporting {t} {after} p z a e = go (leb (3 * length l) (length out)) refl
    where
      l : List Report
      l = becomes b.reader.format b.past p

      go : (u : Bool) → leb (3 * length l) (length out) ≡ u → Begins b (w ∷ words) out t after
      go true u =
          let i = rw u at e in
          rw (ap told i, ap (λ (x : Long). x.out) i) (rw a at (taking z (rw a (leb-true (3 * length l) (length out) u))))
      go false u =
          let i = rw u at e in
          rw (ap told i, ap (λ (x : Long). x.out) i) (rw z at (stopping (λ _. rw a (leb-false (3 * length l) (length out) u))))

-- how far it has come
pub record Far (b : Bridge) (words before : List ℕ) (taken used : ℕ) (k : Counts) (after : List ℕ) : Type 0 where
  pub within : taken ≤ length words
  pub places : used ≡ 3 * k.sent
  pub room : used ≤ length before
  pub long : length after ≡ length before
  pub few : k.reports ≤ taken
  pub lost : k.dropped ≤ length words + b.reader.count

-- no more bytes are dropped than were taken and had been kept
dropped_few : (words : List ℕ) (b : Bridge) (room : ℕ) → let f = run bridges b words room in (sum converts f.answers).dropped + f.next.reader.count ≤ length f.answers + b.reader.count
unfolding sum
dropped_few words b room =
    over_taken bridges (λ b words answers next. (sum converts answers).dropped + next.reader.count ≤ length answers + b.reader.count) (λ b. omega arith)
    (λ b w words answers next z ih. omega (arith, ih, word_kept b.reader w z, one_byte w)) words b room

module _ {words out₀ out : List ℕ} {b₀ b : Bridge} {at used : ℕ} {k : Counts} (s : Stands converts b₀ words out₀ b at used k out) where
  pub far : Far b₀ words out₀ at used k out
  far =
      let l = s.answers in
      let later = (run bridges b (drop at words) (length out₀ - used)).answers in
      let d = rw s.part.is at (dropped_few words b₀ (length out₀)) in
      let w = rw s.part.is at (within bridges words b₀ (length out₀)) in
      let both = ap (λ (k : Counts). k.dropped) (calls.sum_append converts lawful l later) in
      let h = loops.stands_within converts lawful s in
      record {
        within = h.0;
        places = h.3;
        room = h.1;
        long = h.2;
        few = omega (arith, reports_few l, ap (λ (k : Counts). k.reports) s.counts_are, s.part.words_are);
        lost = omega (arith, d, w.0, both, ap (λ (k : Counts). k.dropped) s.counts_are);
      }

-- the rest of the line as it is taken apart: its first word, and what stands behind it
pub first_behind : (words : List ℕ) (at : ℕ) → at < length words → take (length words - at) (drop at words) ≡ get_or words at 0 ∷ drop (suc at) words
first_behind words at h = rest_is words at ∙ drop-cons words at 0 h

-- where the loop stands behind a word that was taken
module _ {b t : Bridge} {words before out last : List ℕ} {at used reports sent dropped : ℕ} {a : Converted}
    (s : Stands converts b words before t at used (counts reports sent dropped) out) (here : at < length words)
    (e : (rest : List ℕ) → Begins t (get_or words at 0 ∷ rest) (take (length out - used) (drop used out)) a last) where
  begins : fold.Begins converts t (take (length words - at) (drop at words)) (take (length out - used) (drop used out)) (whole a last)
  begins = rw (first_behind words at here) (e (drop (suc at) words))

  pub more : a.taken ≤ 1 → (a.taken ≡ 0 → ⊥)
      → Stands converts b words before a.next (at + 1) (used + 3 * a.sent) (counts (reports + a.reports) (sent + a.sent) (dropped + a.dropped))
      (put_mid used (length out - used) out last)
  more few some = let one : a.taken ≡ 1 = omega arith in rw one at (loops.more converts lawful s begins)

  -- or one that wasn't
  pub ends_before : a.taken ≡ 0
      → whole (record { refusal = a.refusal; next = t; taken = at; reports = reports; sent = sent; dropped = dropped }) (put_mid used (length out - used) out last) ≡ line converts b words before
  ends_before none = ap (whole _) (loops.unchanged converts lawful s begins none) ∙ loops.ends_before converts lawful s begins none
