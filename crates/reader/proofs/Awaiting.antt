-- A fresh reader of U, T or W hands out nothing before the first silence, whatever the words.
use Prim.Native.Nat.{ℕ}
use mathlib.Core.Path.{◌≡◌, refl, sym, ◌∙◌, ap}
use mathlib.Core.Bool.{Bool, true, false}
use mathlib.Core.List.{List, [], ◌∷◌}
use native.Mathlib.Omega.{arith}
use lib.Dec.{eqb}
use lib.ListN.{length}
use lib.IntN.{ℤ}
use borrow.Author.Tests.{eqb-false}
use Rattle.fold.specs.Fold.{written, run}
use Rattle.fold.specs.Calls.{Counts, line}
use Rattle.fold.proofs.Laws.{by_words}
use Rattle.frames.specs.Words.{silence}
use Rattle.wire.specs.Line.{letter_of, named_by, marked_by, known}
use Rattle.wire.specs.declared.Format.TheVariants.{FiveByte}
use Rattle.reader.specs.State.{fresh, NewReader, Read}
use Rattle.reader.specs.Good.{good}
use Rattle.reader.specs.Rules.{word_of}
use Rattle.reader.specs.Line.{Reading, Long, reads}
use Rattle.reader.specs.Counts.{reports_in, handed_out}
use Rattle.reader.specs.Promises.{FreshPromise, ReadPromise, fresh_of}
use Rattle.reader.specs.Runs.{steps_of, StepsPromise, answers, has_silence}
use Rattle.reader.specs.declared.Reader.{Reader}
use Rattle.numbers.proofs.Choices.{neither}
use Rattle.numbers.proofs.Tested.{holds}
use Rattle.reader.proofs.Word.{dropping_reports, by_word, word_format}
use Rattle.reader.proofs.Keeps.{word_good}
use Rattle.reader.proofs.Counted.{empty, reports_first, five_each, sum_is}
use Rattle.reader.proofs.Permitted.{steps_are}
use Rattle.reader.proofs.Goodness.{step_word, read_line, fresh_is_good}

-- an awaiting reader of an unmarked format
record Waits (r : Reader) : Type 0 where
  is_good : good r ≡ true
  unmarked : marked_by r.format ≡ false
  awaiting : r.awaiting ≡ true

-- no word but a silence makes it hand out a report or end its waiting
record Waited (s : Read) : Type 0 where
  none : reports_in s.answer ≡ 0
  still : s.next.awaiting ≡ true

word_waits : (r : Reader) (w : ℕ) → Waits r → eqb w silence ≡ false → Waited (word_of r w)
word_waits r w h n =
    by_word Waited r w (λ _ _. record { none = refl; still = h.awaiting }) (λ _ a. no a) (λ _ a. no a) (λ _ a. no a) (λ _ a. no a)
    (λ _. record { none = dropping_reports r.count; still = rw h.unmarked }) (λ e. absurd (eqb-false w silence n e))
    (λ _. record { none = refl; still = h.awaiting })
  where
    no : {A : Type 0} → r.awaiting ≡ false → A
    no a = absurd (holds (sym a ∙ h.awaiting))

next_waits : (r : Reader) (w : ℕ) → Waits r → eqb w silence ≡ false → Waits (word_of r w).next
next_waits r w h n =
    record { is_good = word_good r h.is_good w; unmarked = rw (word_format r w) h.unmarked; awaiting = (word_waits r w h n).still }

-- over steps
steps_wait : (words : List ℕ) (r : Reader) → Waits r → has_silence words ≡ false → handed_out (answers (steps_of r words)) ≡ []
unfolding steps_of has_silence
steps_wait [] r h n = refl
steps_wait (w ∷ words) r h n =
    let quiet = (neither (eqb w silence) (has_silence words) n).0 in
    let rest = steps_wait words (word_of r w).next (next_waits r w h quiet) (neither (eqb w silence) (has_silence words) n).1 in
    let s = word_of r w in
    rw (step_word r w h.is_good) (empty _ (omega (arith, reports_first s.answer (answers (steps_of s.next words)), (word_waits r w h quiet).none, ap length rest)))

-- and over a line
line_waits : (words : List ℕ) (r : Reader) (room : ℕ) → Waits r → has_silence words ≡ false → length (handed_out (run reads r words room).answers) ≡ 0
unfolding has_silence
line_waits =
    by_words reads (λ r words room f. Waits r → has_silence words ≡ false → length (handed_out f.answers) ≡ 0) (λ r room h n. refl) (λ r w words room s h n. refl)
    (λ r w words room f t ih h n.
    let quiet = neither (eqb w silence) (has_silence words) n in
    omega (arith, reports_first (word_of r w).answer f.answers, (word_waits r w h quiet.0).none, ih (next_waits r w h quiet.0) quiet.1))

-- a fresh reader of an unmarked format waits; so does that of U, which comes for a letter that is not in the table
unmarked_u : marked_by (letter_of FiveByte) ≡ false
unfolding marked_by named_by
unmarked_u = refl

fresh_waits : (letter : ℕ) (a : NewReader) → marked_by letter ≡ false → FreshPromise letter a → Waits a.reader
unfolding fresh_of
fresh_waits letter a m e = go (known letter) refl
  where
    waits : (n : ℕ) → a.reader ≡ fresh n → marked_by n ≡ false → Waits a.reader
    waits n i u = record { is_good = fresh_is_good letter a e; unmarked = rw i u; awaiting = rw (i, u) }

    go : (k : Bool) → known letter ≡ k → Waits a.reader
    go true k = waits letter (ap (λ (n : NewReader). n.reader) (rw k at e)) m
    go false k = waits (letter_of FiveByte) (ap (λ (n : NewReader). n.reader) (rw k at e)) unmarked_u

pub nothing_before_silence : (letter : ℕ) (a : NewReader) (words : List ℕ) (steps : List Read)
    → marked_by letter ≡ false
    → FreshPromise letter a
    → has_silence words ≡ false
    → StepsPromise a.reader words steps
    → handed_out (answers steps) ≡ []
nothing_before_silence letter a words steps m e n p =
    rw (steps_are a.reader words steps p) (steps_wait words a.reader (fresh_waits letter a m e) n)

pub nothing_read_before_silence : (letter : ℕ) (a : NewReader) (words : List ℕ) (out : List ℤ) (b : Reading) (after : List ℤ)
    → marked_by letter ≡ false
    → FreshPromise letter a
    → has_silence words ≡ false
    → ReadPromise a.reader words out b after
    → (b.reports ≡ 0) × (after ≡ out)
unfolding line
nothing_read_before_silence letter a words out b after m e n p =
    let waits = fresh_waits letter a m e in
    let i = p ∙ read_line a.reader words out waits.is_good in
    let found = (run reads a.reader words (length out)).answers in
    let none = line_waits words a.reader (length out) waits n in
    (ap (λ (l : Long). l.counts.reports) i ∙ (ap (λ (k : Counts). k.reports) (sum_is found) ∙ none), ap (λ (l : Long). l.out) i ∙ rw (empty (written reads found) (five_each found ∙ omega (arith, none))))
