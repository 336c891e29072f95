-- Long reads between the tellings do exactly what the items one by one would do, where the slice has room for their reports.
use Prim.Native.Nat.{ℕ, suc, ◌+◌, ◌-◌, ◌*◌, ◌≤◌}
use mathlib.Core.Path.{◌≡◌, refl, sym, ◌∙◌, ap}
use mathlib.Core.Bool.{true, not}
use mathlib.Core.List.{List, [], ◌∷◌, ◌++◌, append_assoc}
use native.Mathlib.Omega.{arith}
use lib.ListN.{length, take, drop, length-append, length-drop}
use lib.Seq.{take_at, drop_at, drop-drop}
use lib.Dec.{leb}
use lib.IntN.{ℤ}
use borrow.Author.Tests.{leb-true}
use Rattle.fold.specs.Fold.{ran, behind, written, run}
use Rattle.fold.specs.Calls.{counted, line}
use Rattle.fold.proofs.Laws.{taken}
use Rattle.numbers.proofs.Choices.{both as both_hold}
use Rattle.numbers.proofs.Tested.{left, right}
use Rattle.frames.specs.Words.{silence}
use Rattle.wire.specs.Numbers.{success}
use Rattle.wire.specs.declared.Report.{Report}
use Rattle.reader.specs.Counts.{reports_in, written_in, handed_out, numbers}
use Rattle.reader.specs.declared.Answer.{Answer}
use Rattle.reader.specs.declared.Answer.TheVariants as answer
use Rattle.reader.proofs.Counted as report
use Rattle.reader.proofs.Handed.{numbers_length, numbers_append}
use Rattle.replies.specs.Replying.{is_none}
use Rattle.replies.specs.Good.{good}
use Rattle.replies.specs.Rules.{kind_of, word_of}
use Rattle.replies.specs.Line.{HeardLine, Long, Counts, whole, Both, hears, hears_line, told_in, replies_among, own_answers}
use Rattle.replies.specs.Promises.{Telling, ReadPromise, tell_of, step_of}
use Rattle.tellings.specs.Items.{Item, word, telling, as_items, legal_items, Done, after_done, own_answers_of, replies_of, Call, long, tell, items_of, Called, was_read, was_told, CallsPromise, AllTaken, TookAll}
use Rattle.tellings.specs.Items as items
use Rattle.replies.specs.declared.Reply.{Reply}
use Rattle.replies.specs.declared.ToldReader.{ToldReader}
use Rattle.replies.proofs.Counted.{both, sum_is, own_written}
use Rattle.replies.proofs.Word.{word_fine}
use Rattle.replies.proofs.Permitted.{read_is}
use Rattle.replies.proofs.Goodness.{step_word, read_line, tell_stays_good}
use Rattle.replies.proofs.Refusals.{word_taken}
use Rattle.replies.proofs.Counting.{once}
use Rattle.tellings.proofs.Apart.{done_of, tells}

-- the answers to words
abbrev boths_of : List Done → List Both
boths_of [] = []
boths_of (items.heard h ∷ done) = both h.reply h.answer ∷ boths_of done
boths_of (items.told t ∷ done) = boths_of done

boths_own : (done : List Done) → own_answers (boths_of done) ≡ own_answers_of done
boths_own [] = refl
boths_own (items.heard h ∷ done) = ap (λ (x : List Answer). h.answer ∷ x) (boths_own done)
boths_own (items.told t ∷ done) = boths_own done

boths_replies : (done : List Done) → replies_among (boths_of done) ≡ replies_of done
boths_replies [] = refl
boths_replies (items.heard h ∷ done) = ap (λ (x : List Reply). told_in h.reply ++ x) (boths_replies done)
boths_replies (items.told t ∷ done) = boths_replies done

-- the first of what was done, and then the rest
own_first : (p q : List Done) → own_answers_of (p ++ q) ≡ own_answers_of p ++ own_answers_of q
own_first [] q = refl
own_first (items.heard h ∷ p) q = ap (λ (x : List Answer). h.answer ∷ x) (own_first p q)
own_first (items.told t ∷ p) q = own_first p q

replies_first : (p q : List Done) → replies_of (p ++ q) ≡ replies_of p ++ replies_of q
replies_first [] q = refl
replies_first (items.heard h ∷ p) q = rw (replies_first p q, append_assoc)
replies_first (items.told t ∷ p) q = replies_first p q

handed_append : (l k : List Answer) → handed_out (l ++ k) ≡ handed_out l ++ handed_out k
handed_append [] k = refl
handed_append (answer.Nothing ∷ l) k = handed_append l k
handed_append (answer.Report p ∷ l) k = ap (λ (x : List Report). p ∷ x) (handed_append l k)
handed_append (answer.Dropped n ∷ l) k = handed_append l k

done_append : (p q : List Item) (s : ToldReader) → done_of s (p ++ q) ≡ done_of s p ++ done_of (after_done s (done_of s p)) q
unfolding done_of
done_append [] q s = refl
done_append (word w ∷ p) q s = ap (λ (x : List Done). items.heard (step_of s w) ∷ x) (done_append p q (step_of s w).next)
done_append (telling asked ∷ p) q s = ap (λ (x : List Done). items.told (tell_of s asked) ∷ x) (done_append p q (tell_of s asked).next)

-- the words of one long read
line_done : (ws : List ℕ) (s : ToldReader) (room : ℕ) → good s ≡ true → legal_items (as_items ws) ≡ true
    → let d = done_of s (as_items ws) in 5 * length (handed_out (own_answers_of d)) ≤ room
    → (run hears s ws room ≡ ran success (after_done s d) (boths_of d)) × (length (boths_of d) ≡ length ws) × (good (after_done s d) ≡ true)
unfolding run done_of legal_items
line_done [] s room g l h = (refl, refl, g)
line_done (w ∷ ws) s room g l h =
    let t = word_of s w in
    let later = own_answers_of (done_of t.next (as_items ws)) in
    let k : 5 * (reports_in t.answer + length (handed_out later)) ≤ room = rw (step_word s w g, report.reports_first t.answer later) at h in
    let n = report.five_in t.answer in
    let rest = line_done ws t.next (room - length (written_in t.answer)) (word_fine s w g).0 (right (leb w silence) (legal_items (as_items ws)) l) (omega (arith, k, n)) in
    rw (step_word s w g, taken hears s w room (word_taken s w g (leb-true w silence (left (leb w silence) (legal_items (as_items ws)) l))) (omega (arith, k, n)))
    (ap (behind (both t.reply t.answer ∷ [])) rest.0, ap suc rest.1, rest.2)

record Read (s : ToldReader) (ws : List ℕ) (before : List ℤ) (a : HeardLine) (after : List ℤ) (d : List Done) : Type 0 where
  refusal : a.refusal ≡ success
  next : a.next ≡ after_done s d
  taken : a.taken ≡ length ws
  reports : a.reports ≡ length (handed_out (own_answers_of d))
  reply : told_in a.reply ≡ replies_of d
  wrote : after ≡ numbers (handed_out (own_answers_of d)) ++ drop (5 * length (handed_out (own_answers_of d))) before
  still_good : good a.next ≡ true

reads_all : (s : ToldReader) (ws : List ℕ) (before : List ℤ) (a : HeardLine) (after : List ℤ) → good s ≡ true → legal_items (as_items ws) ≡ true
    → let d = done_of s (as_items ws) in 5 * length (handed_out (own_answers_of d)) ≤ length before
    → ReadPromise s ws before a after
    → Read s ws before a after d
unfolding line
reads_all s ws before a after g l h p =
    let d = done_of s (as_items ws) in
    let done = line_done ws s (length before) g l h in
    let is : whole a after ≡ counted hears_line (ran success (after_done s d) (boths_of d)) before = read_is s ws before a after p ∙ read_line s ws before g ∙ rw done.0 in
    let own = boths_own d in
    let wrote : written hears (boths_of d) ≡ numbers (handed_out (own_answers_of d)) = own_written (boths_of d) ∙ rw own (report.numbers_written (own_answers_of d)) in
    let five : length (written hears (boths_of d)) ≡ 5 * length (handed_out (own_answers_of d)) = ap length (own_written (boths_of d)) ∙ rw own (report.five_each (own_answers_of d)) in
    record {
      refusal = ap (λ (x : Long). x.refusal) is;
      next = ap (λ (x : Long). x.next) is;
      taken = ap (λ (x : Long). x.taken) is ∙ done.1;
      reports = ap (λ (x : Long). x.counts.reports) is ∙ ap (λ (k : Counts). k.reports) (sum_is (boths_of d)) ∙ ap (λ (x : List Answer). length (handed_out x)) own;
      reply = ap (λ (x : Long). told_in x.counts.reply) is ∙ ap (λ (k : Counts). told_in k.reply) (sum_is (boths_of d)) ∙ sym (rw done.0 at (once ws s (length before) g).is) ∙ boths_replies d;
      wrote = ap (λ (x : Long). x.out) is ∙ rw (five, wrote);
      still_good = rw (ap (λ (x : Long). x.next) is) done.2;
    }

-- legal items in two parts
pub legal_left : (p q : List Item) → legal_items (p ++ q) ≡ true → (legal_items p ≡ true) × (legal_items q ≡ true)
unfolding legal_items
legal_left [] q l = (refl, l)
legal_left (i ∷ p) q l =
    let t = legal_left p q (right (items.is_legal i) (legal_items (p ++ q)) l) in
    (both_hold (items.is_legal i) (legal_items p) (left (items.is_legal i) (legal_items (p ++ q)) l) t.0, t.1)

-- and all the calls
pub took_all_lem : (calls : List Call) (s : ToldReader) (before : List ℤ) (called : List Called) → good s ≡ true → legal_items (items_of calls) ≡ true
    → let d = done_of s (items_of calls) in 5 * length (handed_out (own_answers_of d)) ≤ length before
    → CallsPromise s calls before called
    → TookAll calls (handed_out (own_answers_of d)) (replies_of d) before called
unfolding done_of CallsPromise AllTaken legal_items
took_all_lem [] s before [] g l h p = record { taken = tt; reports = refl; replies_are = refl; written = refl }
took_all_lem [] s before (c ∷ called) g l h p = absurd p
took_all_lem (call ∷ calls) s before [] g l h p = absurd p
took_all_lem (long ws ∷ calls) s before (was_told t ∷ called) g l h p = absurd p
took_all_lem (tell asked ∷ calls) s before (was_read a after ∷ called) g l h p = absurd p
took_all_lem (tell asked ∷ calls) s before (was_told t ∷ called) g l h p =
    let e = p.0 in
    let n = left (not (is_none (kind_of asked))) (legal_items (items_of calls)) l in
    let later = took_all_lem calls (tell_of s asked).next before called (tell_stays_good s asked (tell_of s asked) g refl).0 (right (not (is_none (kind_of asked))) (legal_items (items_of calls)) l) h (rw e at p.1) in
    record {
      taken = (ap (λ (x : Telling). x.refusal) (e ∙ tells s.awaited s.reader asked g n), later.taken);
      reports = later.reports;
      replies_are = later.replies_are;
      written = later.written;
    }
took_all_lem (long ws ∷ calls) s before (was_read a after ∷ called) g l h p =
    let legal = legal_left (as_items ws) (items_of calls) l in
    let d = done_of s (as_items ws) in
    let rest = done_of (after_done s d) (items_of calls) in
    let split = done_append (as_items ws) (items_of calls) s in
    let first = handed_out (own_answers_of d) in
    let found : handed_out (own_answers_of (d ++ rest)) ≡ first ++ handed_out (own_answers_of rest) = ap handed_out (own_first d rest) ∙ handed_append (own_answers_of d) (own_answers_of rest) in
    let room = rw (split, found, length-append first (handed_out (own_answers_of rest))) at h in
    let five : 5 * (length first + length (handed_out (own_answers_of rest))) ≡ 5 * length first + 5 * length (handed_out (own_answers_of rest)) = omega arith in
    let r = reads_all s ws before a after g legal.0 (omega arith) p.0 in
    let front : take (5 * a.reports) after ≡ numbers first = rw (r.reports, r.wrote) (take_at (numbers first) (drop (5 * length first) before) (5 * length first) (numbers_length first)) in
    let left_over : drop (5 * a.reports) after ≡ drop (5 * length first) before = rw (r.reports, r.wrote) (drop_at (numbers first) (drop (5 * length first) before) (5 * length first) (numbers_length first)) in
    let more : 5 * length (handed_out (own_answers_of (done_of a.next (items_of calls)))) ≤ length (drop (5 * a.reports) after) = rw (r.next, left_over, length-drop (5 * length first) before) (omega arith) in
    let later = rw r.next at (took_all_lem calls a.next (drop (5 * a.reports) after) called r.still_good legal.1 more p.1) in
    rw (split, found, replies_first d rest)
    (record {
      taken = (r.refusal, r.taken, later.taken);
      reports = rw (r.reports, later.reports) (sym (length-append first (handed_out (own_answers_of rest))));
      replies_are = rw (r.reply, later.replies_are);
      written = rw (front, later.written, left_over, numbers_append first (handed_out (own_answers_of rest)), length-append first (handed_out (own_answers_of rest)), append_assoc, drop-drop (5 * length (handed_out (own_answers_of rest))) (5 * length first) before, five);
    })
