-- One word: the format stays, the bytes kept stay below the size, and none is lost from the count.
use Prim.Native.Nat.{ℕ, ◌+◌, ◌*◌, ◌<◌}
use mathlib.Core.Path.{◌≡◌, refl, sym, ◌∙◌}
use mathlib.Core.Bool.{true, false, cond, ◌&&◌}
use mathlib.Core.Logic.{◌⊎◌, inl, inr}
use mathlib.Core.List.{[], ◌∷◌}
use native.Mathlib.Omega.{arith}
use lib.Dec.{eqb}
use borrow.Author.Tests.{eqb-true, eqb-false, leb-true, leb-false}
use Rattle.numbers.proofs.Tested.{left, right, holds}
use Rattle.frames.specs.Words.{is_byte, break, silence}
use Rattle.wire.specs.Line.{size_by, marked_by}
use Rattle.wire.specs.Places.{fits_by}
use Rattle.wire.specs.Reading.{report_by}
use Rattle.wire.specs.Numbers.{success, bad_word}
use Rattle.reader.specs.State.{reader, fresh, ready, Read}
use Rattle.reader.specs.Rules.{entered, answered, more, refusing, dropping, alone, fitting, finishes, starting, straying, keep, start, stray, lose, byte_of, break_of, silence_of, word_of}
use Rattle.reader.specs.Counts.{byte_in, reports_in, dropped_in}
use Rattle.reader.specs.declared.Reader.{Reader}
use Rattle.reader.specs.declared.Answer.TheVariants.{Nothing, Report, Dropped}
use Rattle.numbers.proofs.Choices.{cases}

-- a byte that strays is lost alone
stray_lost : (r : Reader) (b : ℕ) → straying r b ≡ true → stray r ≡ lose r
unfolding stray lose
stray_lost r b e =
    let both = left (marked_by r.format && eqb r.count 0) (fits_by r.format 1 b) e in
    rw (left (marked_by r.format) (eqb r.count 0) both, eqb-true r.count 0 (right (marked_by r.format) (eqb r.count 0) both))

pub strays_as_lost : (r : Reader) (b : ℕ) → cond (straying r b) (stray r) (lose r) ≡ lose r
strays_as_lost r b = cases (λ (s : Read). s ≡ lose r) (straying r b) (stray_lost r b) (λ _. refl)

-- a byte is dropped alone while awaiting, kept, the start of a report, or lost
pub by_rules : (P : Read → Type 0) (r : Reader) (b : ℕ)
    → (r.awaiting ≡ true → P (alone r))
    → (r.awaiting ≡ false → fitting r b ≡ true → P (keep r b))
    → (r.awaiting ≡ false → fitting r b ≡ false → starting r b ≡ true → P (start r b))
    → (r.awaiting ≡ false → fitting r b ≡ false → starting r b ≡ false → P (lose r))
    → P (byte_of r b)
unfolding byte_of
by_rules P r b waits keeps starts loses =
    cases P r.awaiting waits
    (λ w. cases P (fitting r b) (keeps w)
    (λ f. cases P (starting r b) (starts w f) (λ s. rw (strays_as_lost r b) (loses w f s))))

pub lost_is : (r : Reader) (b : ℕ) → r.awaiting ≡ false → fitting r b ≡ false → starting r b ≡ false → byte_of r b ≡ lose r
lost_is r b w f s =
    by_rules (λ (t : Read). t ≡ lose r) r b (λ e. absurd (holds (sym w ∙ e))) (λ _ e. absurd (holds (sym f ∙ e)))
    (λ _ _ e. absurd (holds (sym s ∙ e))) (λ _ _ _. refl)

-- and a word, its byte entered: such a byte, the last of a report or not; a break; a silence; or none of these
module _ (P : Read → Type 0) (r : Reader) (w : ℕ) where
  abbrev b : ℕ
  b = entered r.format w

  pub by_word : (is_byte w ≡ true → r.awaiting ≡ true → P (alone r))
      → (is_byte w ≡ true → r.awaiting ≡ false → fitting r b ≡ true → finishes r ≡ true → P (answered (ready r.format) (Report (report_by r.format (more r b)))))
      → (is_byte w ≡ true → r.awaiting ≡ false → fitting r b ≡ true → finishes r ≡ false → P (answered (reader r.format (more r b) (r.count + 1) false) Nothing))
      → (is_byte w ≡ true → r.awaiting ≡ false → fitting r b ≡ false → starting r b ≡ true → P (answered (reader r.format (b ∷ 0 ∷ 0 ∷ 0 ∷ 0 ∷ []) 1 false) (dropping r.count)))
      → (is_byte w ≡ true → r.awaiting ≡ false → fitting r b ≡ false → starting r b ≡ false → P (answered (fresh r.format) (Dropped (r.count + 1))))
      → (w ≡ break → P (answered (fresh r.format) (dropping r.count)))
      → (w ≡ silence → P (answered (ready r.format) (dropping r.count)))
      → (silence < w → P (refusing bad_word r))
      → P (word_of r w)
  unfolding word_of keep start lose break_of silence_of
  by_word waits ends keeps starts loses broken quiet bad =
      cases P (is_byte w)
      (λ i. by_rules P r b (waits i) (λ a f. cases P (finishes r) (ends i a f) (keeps i a f)) (starts i) (loses i))
      (λ n. cases P (eqb w break) (λ e. broken (eqb-true w break e))
      (λ k. cases P (eqb w silence) (λ e. quiet (eqb-true w silence e))
      (λ s. bad (omega (arith, leb-false w 255 n, eqb-false w break k, eqb-false w silence s)))))

-- the format stays
pub word_format : (r : Reader) (w : ℕ) → (word_of r w).next.format ≡ r.format
word_format r w =
    by_word (λ s. s.next.format ≡ r.format) r w
    (λ _ _. refl) (λ _ _ _ _. refl) (λ _ _ _ _. refl) (λ _ _ _ _. refl) (λ _ _ _ _. refl) (λ _. refl) (λ _. refl) (λ _. refl)

-- a word's bytes, with those kept before, are those in its report, dropped and kept after
abbrev pub Kept : Reader → ℕ → Read → Type 0
Kept r n s = s.refusal ≡ 0 → n + r.count ≡ size_by r.format * reports_in s.answer + dropped_in s.answer + s.next.count

pub dropping_is : (size k : ℕ) → size * reports_in (dropping k) + dropped_in (dropping k) ≡ k
unfolding dropping
dropping_is size k =
    cases (λ a. size * reports_in a + dropped_in a ≡ k) (eqb k 0) (λ e. omega (arith, eqb-true k 0 e)) (λ e. omega arith)

pub dropping_reports : (k : ℕ) → reports_in (dropping k) ≡ 0
dropping_reports k = omega (arith, dropping_is 0 k, dropping_is 1 k)

pub word_kept : (r : Reader) (w : ℕ) → Kept r (byte_in w) (word_of r w)
word_kept r w =
    by_word (Kept r (byte_in w)) r w (λ i _ _. rw i (omega arith)) (λ i _ _ e _. rw i (omega (arith, eqb-true (r.count + 1) (size_by r.format) e)))
    (λ i _ _ _ _. rw i (omega arith)) (λ i _ _ _ _. rw i (omega (arith, all))) (λ i _ _ _ _. rw i (omega arith))
    (λ e _. rw e (omega (arith, all))) (λ e _. rw e (omega (arith, all))) (λ _ e. absurd (eqb-false 4 0 refl e))
  where
    all : size_by r.format * reports_in (dropping r.count) + dropped_in (dropping r.count) ≡ r.count
    all = dropping_is (size_by r.format) r.count

-- a word is refused with 4 where it is above 257, and else not
abbrev pub Numbered : ℕ → Read → Type 0
Numbered w s = (s.refusal ≡ success) ⊎ ((s.refusal ≡ bad_word) × (silence < w))

pub word_number : (r : Reader) (w : ℕ) → Numbered w (word_of r w)
word_number r w =
    by_word (Numbered w) r w (λ _ _. inl refl) (λ _ _ _ _. inl refl) (λ _ _ _ _. inl refl) (λ _ _ _ _. inl refl) (λ _ _ _ _. inl refl)
    (λ _. inl refl) (λ _. inl refl) (λ h. inr (refl, h))

-- behind a byte that it dropped a reader of an unmarked format awaits a silence
pub lost_awaits : (r : Reader) (w : ℕ) → marked_by r.format ≡ false → is_byte w ≡ true → (dropped_in (word_of r w).answer ≡ 0 → ⊥) → (word_of r w).next.awaiting ≡ true
lost_awaits r w m i =
    by_word (λ s. (dropped_in s.answer ≡ 0 → ⊥) → s.next.awaiting ≡ true) r w (λ _ a _. a) (λ _ _ _ _ n. absurd (n refl)) (λ _ _ _ _ n. absurd (n refl))
    (λ _ _ _ s _. absurd (holds (sym m ∙ left (marked_by r.format) (fits_by r.format 0 (entered r.format w)) s))) (λ _ _ _ _ _. rw m)
    (λ e _. absurd (holds (rw e at i))) (λ e _. absurd (holds (rw e at i))) (λ h _. absurd (omega (arith, leb-true w 255 i, h)))
