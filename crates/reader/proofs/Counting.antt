-- "bytes in plus kept before equal bytes in reports plus dropped plus kept after"
use Prim.Native.Nat.{ℕ, ◌+◌, ◌*◌, ◌<◌}
use mathlib.Core.Path.{◌≡◌, refl, sym, ◌∙◌, ap, subst}
use mathlib.Core.Bool.{true}
use mathlib.Core.Logic.{◌⊎◌, inl, inr}
use mathlib.Core.List.{List}
use native.Mathlib.Omega.{arith}
use lib.ListN.{length, take}
use lib.Dec.{eqb}
use lib.IntN.{ℤ}
use borrow.Author.Tests.{eqb-false}
use Rattle.fold.specs.Fold.{run}
use Rattle.fold.specs.Calls.{sum, line}
use Rattle.fold.proofs.Laws.{over_taken}
use Rattle.fold.proofs.Calls.{call_line, by_good, bad_state_lem}
use Rattle.frames.specs.Words.{break, silence}
use Rattle.wire.specs.Line.{size_by}
use Rattle.wire.specs.Numbers.{bad_state}
use Rattle.reader.specs.Good.{good}
use Rattle.reader.specs.Rules.{dropping, break_of, silence_of, word_of}
use Rattle.reader.specs.Line.{Reading, reading, reads, reads_line}
use Rattle.reader.specs.Counts.{byte_in, bytes_in, reports_in, dropped_in}
use Rattle.reader.specs.Promises.{StepPromise, ReadPromise, step_of}
use Rattle.reader.specs.declared.Reader.{Reader}
use Rattle.reader.specs.State.{Read}
use Rattle.reader.specs.declared.Answer.{Answer}
use Rattle.reader.specs.declared.Answer.TheVariants.{Nothing, Report, Dropped}
use Rattle.numbers.proofs.Choices.{cases}
use Rattle.reader.proofs.Word.{by_word, Kept, dropping_is, word_kept, word_format}
use Rattle.reader.proofs.Counted.{lawful}
use Rattle.reader.proofs.Permitted.{step_is}
use Rattle.reader.proofs.Goodness.{step_word}

-- a step that is not refused
pub step_counts : (r : Reader) (w : ℕ) (s : Read) → StepPromise r w s → s.refusal ≡ 0
    → byte_in w + r.count ≡ size_by r.format * reports_in s.answer + dropped_in s.answer + s.next.count
unfolding step_of
step_counts r w s e =
    rw (step_is r w s e)
    (cases (Kept r (byte_in w)) (good r) (λ _. word_kept r w) (λ _ z. absurd (eqb-false bad_state 0 refl z)))

-- a long read, over the words taken, also at a stop for room and at a bad word
line_counts : (size : ℕ) (words : List ℕ) (r : Reader) (room : ℕ) → size_by r.format ≡ size → let f = run reads r words room in
    bytes_in (take (length f.answers) words) + r.count ≡ size * (sum reads_line f.answers).reports + (sum reads_line f.answers).dropped + f.next.count
unfolding bytes_in sum
line_counts size =
    over_taken reads
    (λ r words answers next. size_by r.format ≡ size → bytes_in words + r.count ≡ size * (sum reads_line answers).reports + (sum reads_line answers).dropped + next.count)
    (λ r z. omega arith)
    (λ r w words answers next z ih e. omega (arith, rw e at (word_kept r w z), ih (ap size_by (word_format r w) ∙ e)))

pub read_counts : (r : Reader) (words : List ℕ) (out : List ℤ) (a : Reading) (after : List ℤ) → ReadPromise r words out a after
    → bytes_in (take a.taken words) + r.count ≡ size_by r.format * a.reports + a.dropped + a.next.count
unfolding line bytes_in
read_counts r words out a after e =
    by_good reads_line lawful r
    (λ g. rw (ap reading (e ∙ call_line reads_line lawful r words out g)) (line_counts (size_by r.format) words r (length out) refl))
    (λ g. rw (ap reading (bad_state_lem reads_line lawful r words out e g)) (omega arith))

-- "where none is dropped the answer is nothing": never "dropped 0"
abbrev SomeDropped : Answer → Type 0
SomeDropped Nothing = Unit
SomeDropped (Report p) = Unit
SomeDropped (Dropped k) = 0 < k

abbrev Fine : Read → Type 0
Fine s = SomeDropped s.answer

dropping_some : (k : ℕ) → SomeDropped (dropping k)
unfolding dropping
dropping_some k = cases SomeDropped (eqb k 0) (λ _. tt) (λ e. let n = eqb-false k 0 e in omega arith)

word_drops_some : (r : Reader) (w : ℕ) → Fine (word_of r w)
word_drops_some r w =
    by_word Fine r w (λ _ _. omega arith) (λ _ _ _ _. tt) (λ _ _ _ _. tt) (λ _ _ _ _. dropping_some r.count) (λ _ _ _ _. omega arith)
    (λ _. dropping_some r.count) (λ _. dropping_some r.count) (λ _. tt)

pub never_dropped_none : (r : Reader) (w : ℕ) (s : Read) → StepPromise r w s → s.answer ≡ Dropped 0 → ⊥
unfolding step_of
never_dropped_none r w s e z =
    let some = cases Fine (good r) (λ _. word_drops_some r w) (λ _. tt) in
    omega (arith, subst SomeDropped (sym (ap (λ (t : Read). t.answer) (step_is r w s e)) ∙ z) some)

-- "256 and 257 are never counted as bytes": they drop the kept bytes and no more
pub pause_counts_none : (r : Reader) (w : ℕ) (s : Read) → StepPromise r w s → good r ≡ true → (w ≡ break) ⊎ (w ≡ silence) → dropped_in s.answer ≡ r.count
unfolding break_of silence_of word_of
pause_counts_none r w s e g (inl z) = rw (step_is r w s e ∙ step_word r w g, z) (omega (arith, dropping_is 0 r.count))
pause_counts_none r w s e g (inr z) = rw (step_is r w s e ∙ step_word r w g, z) (omega (arith, dropping_is 0 r.count))
