-- Every byte is somewhere: in a report, dropped, in a whole reply or a broken one, discarded by a new telling, or kept.
use Rattle.std.proofs.Common.{Option, None, Some}
use Prim.Native.Nat.{ℕ, ◌+◌, ◌*◌}
use mathlib.Core.Path.{◌≡◌, refl, sym, ◌∙◌, ap}
use mathlib.Core.Bool.{Bool, true, false}
use mathlib.Core.Logic.{◌⊎◌, inl, inr, ⊎_elim}
use mathlib.Core.List.{List, ◌++◌, append-nil}
use native.Mathlib.Omega.{arith}
use lib.ListN.{length, take}
use lib.IntN.{ℤ}
use borrow.Author.Tests.{eqb-false}
use Rattle.fold.specs.Fold.{run}
use Rattle.fold.specs.Calls.{line}
use Rattle.fold.proofs.Laws.{over_taken}
use Rattle.wire.specs.Line.{size_by}
use Rattle.wire.specs.Numbers.{success, bad_state}
use Rattle.frames.specs.Words.{is_byte}
use Rattle.numbers.proofs.Tested.{holds, right}
use Rattle.reader.specs.Counts.{byte_in, bytes_in, reports_in, dropped_in, handed_out, dropped_among}
use Rattle.reader.proofs.Counted.{reports_first}
use Rattle.replies.specs.Replying.{is_none, fits, fitting, broken}
use Rattle.replies.specs.Good.{good}
use Rattle.replies.specs.Rules.{Heard, kind_of, continues, word_of}
use Rattle.replies.specs.Line.{HeardLine, Both, hears, or_else, reply_among, told_in, replies_among, own_answers, heard_line}
use Rattle.replies.specs.Counts.{whole_bytes, broken_bytes}
use Rattle.replies.specs.Promises.{Telling, TellPromise, StepPromise, ReadPromise, tell_of}
use Rattle.replies.specs.declared.Kind.{Kind}
use Rattle.replies.specs.declared.Asked.{Asked}
use Rattle.replies.specs.declared.Awaited.{Awaited}
use Rattle.replies.specs.declared.Reply.{Reply}
use Rattle.replies.specs.declared.ToldReader.{ToldReader}
use Rattle.replies.proofs.Word.{word_counts, word_fine, by_word, good_reader}
use Rattle.replies.proofs.Counted.{or_nothing, sum_is}
use Rattle.replies.proofs.Permitted.{step_is, read_is}
use Rattle.replies.proofs.Goodness.{step_word, read_line}

-- a telling discards the bytes that have come of an unfinished reply, and keeps all else
pub tell_counts : (s : ToldReader) (asked : Asked) (t : Telling) → TellPromise s asked t → t.refusal ≡ success
    → (s.awaited.came.count ≡ t.discarded) × (t.next.awaited.came.count ≡ 0) × (t.next.reader ≡ s.reader)
unfolding tell_of
tell_counts s asked t e = rw e (go (good s) (is_none (kind_of asked)) refl refl)
  where
    go : (g n : Bool) → good s ≡ g → is_none (kind_of asked) ≡ n → (tell_of s asked).refusal ≡ success
        → (s.awaited.came.count ≡ (tell_of s asked).discarded) × ((tell_of s asked).next.awaited.came.count ≡ 0) × ((tell_of s asked).next.reader ≡ s.reader)
    go true true g n = rw (g, n) (λ z. absurd (eqb-false 12 0 refl z))
    go true false g n = rw (g, n) (λ z. (refl, refl, refl))
    go false n g k = rw g (λ z. absurd (eqb-false bad_state 0 refl z))

-- a step that is not refused
pub step_counts : (s : ToldReader) (w : ℕ) (h : Heard) → good s ≡ true → StepPromise s w h → h.refusal ≡ success
    → byte_in w + (s.reader.count + s.awaited.came.count)
    ≡ size_by s.reader.format * reports_in h.answer + dropped_in h.answer + whole_bytes h.reply + broken_bytes h.reply + (h.next.reader.count + h.next.awaited.came.count)
step_counts s w h g e = rw (step_is s w h e ∙ step_word s w g) (word_counts s w g)

-- where no reply is awaited none is told, and the telling of one ends the awaiting
abbrev Settles : ToldReader → Heard → Type 0
Settles s h = ((h.reply ≡ None) ⊎ (is_none h.next.awaited.kind ≡ true)) × (is_none s.awaited.kind ≡ true → (h.reply ≡ None) × (is_none h.next.awaited.kind ≡ true))

none_fits : (k : Option Kind) (place byte : ℕ) → is_none k ≡ true → fits k place byte ≡ false
unfolding fits
none_fits None place byte n = refl
none_fits (Some k) place byte n = absurd (holds n)

not_next : (a : Awaited) (w : ℕ) → is_none a.kind ≡ true → continues a w ≡ true → ⊥
not_next a w n e = holds (sym (none_fits a.kind a.came.count w n) ∙ right (is_byte w) (fitting a w) e)

settles : (s : ToldReader) (w : ℕ) → good s ≡ true → Settles s (word_of s w)
unfolding broken
settles s w g =
    by_word (Settles s) s w (good_reader s g)
    (λ e f. (inr refl, λ n. absurd (not_next s.awaited w n e)))
    (λ e f. (inl refl, λ n. absurd (not_next s.awaited w n e)))
    (λ e z. (inr refl, λ n. (rw n, refl)))
    (λ e b. (inl refl, λ n. (refl, n)))

-- so that there is at most one in a call, and it is the one that is told
pub record Once (s : ToldReader) (answers : List Both) : Type 0 where
  pub is : replies_among answers ≡ told_in (reply_among answers)
  pub none : is_none s.awaited.kind ≡ true → reply_among answers ≡ None

first_once : (a : Both) (l : List Both) → (a.reply ≡ None) ⊎ (reply_among l ≡ None) → replies_among l ≡ told_in (reply_among l)
    → told_in a.reply ++ replies_among l ≡ told_in (or_else a.reply (reply_among l))
first_once a l (inl z) e = rw z e
first_once a l (inr z) e = rw (e, z, or_nothing a.reply, append-nil)

-- a long read, over the words taken, also at a stop for room and at a bad word
abbrev Counted : ℕ → ToldReader → List ℕ → List Both → ToldReader → Type 0
Counted size s words answers next =
    bytes_in words + (s.reader.count + s.awaited.came.count)
    ≡ size * length (handed_out (own_answers answers)) + dropped_among (own_answers answers) + whole_bytes (reply_among answers) + broken_bytes (reply_among answers)
    + (next.reader.count + next.awaited.came.count)

either_bytes : (p q : Option Reply) → (p ≡ None) ⊎ (q ≡ None)
    → whole_bytes (or_else p q) + broken_bytes (or_else p q) ≡ whole_bytes p + broken_bytes p + (whole_bytes q + broken_bytes q)
either_bytes p q (inl z) = rw z (omega arith)
either_bytes p q (inr z) = rw (z, or_nothing p) (omega arith)

line_counts : (size : ℕ) (words : List ℕ) (s : ToldReader) (room : ℕ) → good s ≡ true → size_by s.reader.format ≡ size
    → let f = run hears s words room in Once s f.answers × Counted size s (take (length f.answers) words) f.answers f.next
unfolding bytes_in dropped_among
line_counts size words s room =
    over_taken hears (λ s words answers next. good s ≡ true → size_by s.reader.format ≡ size → Once s answers × Counted size s words answers next)
    (λ s g e. (record { is = refl; none = λ _. refl }, omega arith))
    (λ s w words answers next z ih g e.
    let fine = word_fine s w g in
    let later = ih fine.0 (ap size_by fine.1 ∙ e) in
    let h = settles s w g in
    let apart = ⊎_elim inl (λ n. inr (later.0.none n)) h.0 in (
      record {
        is = first_once (hears.answer s w) answers apart later.0.is;
        none = λ n. let k = h.1 n in rw k.0 (later.0.none k.1);
      },
      rw (reports_first (word_of s w).answer (own_answers answers))
          (omega (arith, rw e at (word_counts s w g z), later.1, either_bytes (word_of s w).reply (reply_among answers) apart)),
    )) words s room

pub once : (words : List ℕ) (s : ToldReader) (room : ℕ) → good s ≡ true → Once s (run hears s words room).answers
once words s room g = (line_counts (size_by s.reader.format) words s room g refl).0

pub read_counts : (s : ToldReader) (words : List ℕ) (out : List ℤ) (a : HeardLine) (after : List ℤ) → good s ≡ true → ReadPromise s words out a after
    → bytes_in (take a.taken words) + (s.reader.count + s.awaited.came.count)
    ≡ size_by s.reader.format * a.reports + a.dropped + whole_bytes a.reply + broken_bytes a.reply + (a.next.reader.count + a.next.awaited.came.count)
unfolding line
read_counts s words out a after g e =
    let answers = (run hears s words (length out)).answers in
    rw (ap heard_line (read_is s words out a after e ∙ read_line s words out g), sum_is answers) (line_counts (size_by s.reader.format) words s (length out) g refl).1
