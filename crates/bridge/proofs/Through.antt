-- What a reader hands out of a line, damaged or not, reaches through the bridge, report by report.
use Prim.Native.Nat.{ℕ, suc, ◌*◌, ◌≤◌}
use mathlib.Core.Path.{◌≡◌, refl, sym, ◌∙◌, ap}
use mathlib.Core.Bool.{true, false}
use mathlib.Core.List.{List, [], ◌∷◌, ◌++◌, append_assoc}
use lib.ListN.{length, get_or, take, drop}
use lib.Seq.{take_at, drop_at}
use Rattle.frames.specs.Words.{line_words}
use Rattle.wire.specs.Line.{letter_of}
use Rattle.wire.specs.Numbers.{success}
use Rattle.wire.specs.declared.Report.{Report}
use Rattle.wire.specs.declared.Format.{Format}
use Rattle.reader.specs.Counts.{handed_out}
use Rattle.reader.specs.Promises as reader
use Rattle.reader.specs.Runs.{steps_of, StepsPromise, answers}
use Rattle.reader.specs.DamagedLines.{HandsOutBy, HandsOut, HandsOutAt}
use Rattle.reader.specs.State.{Read}
use Rattle.reader.specs.declared.Answer.{Answer}
use Rattle.reader.specs.declared.Answer.TheVariants as answer
use Rattle.reader.proofs.Handed.{permitted, found_at}
use Rattle.bridge.specs.Remembered.{is_a, none, movement, noted}
use Rattle.bridge.specs.Splitting.{becomes, bytes_all}
use Rattle.bridge.specs.Good.{good}
use Rattle.bridge.specs.Promises.{NewBridge, FreshPromise, ConvertPromise, fresh_of}
use Rattle.bridge.specs.Sent.{sends, past_after}
use Rattle.bridge.specs.declared.Past.{Past}
use Rattle.bridge.specs.declared.Bridge.{Bridge}
use Rattle.bridge.specs.Line.{Converted}
use Rattle.bridge.proofs.Goodness.{fresh_is_good}
use Rattle.bridge.proofs.Progress.{Passed, passed}
use Rattle.bridge.proofs.Writing.{three_each, bytes_append}

-- A long call that took every word of a line of which these reports were found: the V reports of each, one report after the other, and nothing else.
pub record Sends (letter : ℕ) (past : Past) (words : List ℕ) (found : List Report) (before : List ℕ) (a : Converted) (after : List ℕ) : Type 0 where
  pub refusal : a.refusal ≡ success
  pub taken : a.taken ≡ length words
  pub reports : a.reports ≡ length found
  pub sent : a.sent ≡ length (sends letter past found)
  pub remembers : a.next.past ≡ past_after letter past found
  pub written : after ≡ bytes_all (sends letter past found) ++ drop (3 * a.sent) before

-- one that took every word is told by the reader's steps over them
by_steps : (b : Bridge) (words : List ℕ) (steps : List Read) (out : List ℕ) (a : Converted) (after : List ℕ) → Passed b words steps out a after
    → Sends b.reader.format b.past words (handed_out (answers steps)) out a after
by_steps b words steps out a after q =
    record {
      refusal = q.refusal;
      taken = q.taken;
      reports = q.told.reports;
      sent = q.told.sent;
      remembers = ap (λ (c : Bridge). c.past) q.told.next;
      written = q.told.written;
    }

-- whatever a good bridge's reader hands out of legal words, with 99 places for each report
pub sends_found : (b : Bridge) (words : List ℕ) (found : List Report) (out : List ℕ) (a : Converted) (after : List ℕ) → good b ≡ true → line_words words ≡ true → HandsOutBy b.reader words found
    → 99 * length found ≤ length out
    → ConvertPromise b words out a after
    → Sends b.reader.format b.past words found out a after
sends_found b words found out a after g l h room e =
    let steps = steps_of b.reader words in
    let s = permitted b.reader words in
    let is = h.by_steps steps s in
    rw (← is) (by_steps b words steps out a after (passed b words out a after steps g l s (rw is room) e))

-- and of a fresh one: what demand 3 says that a fresh reader of f hands out of a line on which a stretch was replaced, or bytes were lost, is sent
pub fresh_sends : (f : Format) (words : List ℕ) (found : List Report) (n : NewBridge) (out : List ℕ) (a : Converted) (after : List ℕ) → line_words words ≡ true → HandsOut f words found
    → FreshPromise (letter_of f) n
    → 99 * length found ≤ length out
    → ConvertPromise n.bridge words out a after
    → Sends n.bridge.reader.format none words found out a after
unfolding fresh_of
fresh_sends f words found n out a after l h p room e =
    let r = reader.fresh_of (letter_of f) in
    let past = ap (λ (n : NewBridge). n.bridge.past) p in
    let is = h r refl in
    rw past at (sends_found n.bridge words found out a after (fresh_is_good (letter_of f) n p) l (rw (← (ap (λ (n : NewBridge). n.bridge.reader) p)) at is) room e)

-- a report among others: its V reports stand behind those of the reports before it
sends_both : (letter : ℕ) (past : Past) (l k : List Report) → sends letter past (l ++ k) ≡ sends letter past l ++ sends letter (past_after letter past l) k
unfolding sends past_after
sends_both letter past [] k = refl
sends_both letter past (p ∷ l) k =
    ap (λ (t : List Report). becomes letter past p ++ t) (sends_both letter (noted letter past p) l k) ∙ sym (append_assoc (becomes letter past p) (sends letter (noted letter past p) l) _)

pub sent_at : (letter : ℕ) (past : Past) (l : List Answer) (i : ℕ) (p : Report) → get_or l i answer.Nothing ≡ answer.Report p
    → let before = handed_out (take i l) in
    let later = past_after letter past before in
    sends letter past (handed_out l) ≡ sends letter past before ++ (becomes letter later p ++ sends letter (noted letter later p) (handed_out (drop (suc i) l)))
unfolding sends
sent_at letter past l i p e = ap (sends letter past) (found_at l i p e) ∙ sends_both letter past (handed_out (take i l)) (p ∷ handed_out (drop (suc i) l))

-- the bytes of its V reports stand in the slice behind those of the reports that were handed out before it
abbrev pub SendsAt : ℕ → Past → List Report → Report → List ℕ → Type 0
SendsAt letter past before p after =
    let its : List Report = becomes letter (past_after letter past before) p in
    take (3 * length its) (drop (3 * length (sends letter past before)) after) ≡ bytes_all its

behind_them : (x y z : List Report) (old : List ℕ) → take (3 * length y) (drop (3 * length x) (bytes_all (x ++ (y ++ z)) ++ old)) ≡ bytes_all y
behind_them x y z old =
    rw (bytes_append x (y ++ z), bytes_append y z, append_assoc, append_assoc, drop_at (bytes_all x) (bytes_all y ++ (bytes_all z ++ old)) (3 * length x) (three_each x))
    (take_at (bytes_all y) (bytes_all z ++ old) (3 * length y) (three_each y))

-- What demand 3 says that a fresh reader of f answers to word i, the report p, is sent by a fresh bridge: with 99 places for each report found the call takes all
-- and sends the V reports of each, p's behind those of the reports found before word i.
pub fresh_sends_at : (f : Format) (words : List ℕ) (i : ℕ) (p : Report) (n : NewBridge) (steps : List Read) (out : List ℕ) (a : Converted) (after : List ℕ) → line_words words ≡ true → HandsOutAt f words i p
    → FreshPromise (letter_of f) n
    → StepsPromise n.bridge.reader words steps
    → 99 * length (handed_out (answers steps)) ≤ length out
    → ConvertPromise n.bridge words out a after
    → let letter = n.bridge.reader.format in
    Sends letter none words (handed_out (answers steps)) out a after × SendsAt letter none (handed_out (take i (answers steps))) p after
unfolding fresh_of
fresh_sends_at f words i p n steps out a after l h q s room e =
    let b = n.bridge in
    let letter = b.reader.format in
    let past = ap (λ (n : NewBridge). n.bridge.past) q in
    let all = rw past at (by_steps b words steps out a after (passed b words out a after steps (fresh_is_good (letter_of f) n q) l s room e)) in
    let own = ap (λ (n : NewBridge). n.bridge.reader) q in
    let at = h.by_steps (reader.fresh_of (letter_of f)) steps refl (rw own at s) in
    let before = handed_out (take i (answers steps)) in
    let later = past_after letter none before in
    (all, rw (all.written, sent_at letter none (answers steps) i p at) (behind_them (sends letter none before) (becomes letter later p) (sends letter (noted letter later p) (handed_out (drop (suc i) (answers steps)))) (drop (3 * a.sent) out)))

-- outside A they are told by the report alone
pub alone : (letter : ℕ) (past other : Past) (p : Report) → is_a letter ≡ false → becomes letter past p ≡ becomes letter other p
unfolding becomes movement
alone letter past other p e = rw e
