-- What one word does to a good reader, case by case, and what a good reply that is awaited has.
use Rattle.std.proofs.Common.{Option, None, Some}
use Prim.Native.Nat.{ℕ, ◌+◌, ◌*◌, ◌<◌}
use mathlib.Core.Path.{◌≡◌, refl}
use mathlib.Core.Bool.{Bool, true, false, ◌&&◌}
use mathlib.Core.Logic.{◌⊎◌, inl, inr, ⊎_elim}
use native.Mathlib.Omega.{arith}
use lib.Dec.{eqb, ltb}
use borrow.Author.Tests.{eq-eqb, ne_eqb, eqb-true, eqb-false, ltb-true}
use Rattle.numbers.proofs.Choices.{or_else, both}
use Rattle.numbers.proofs.Tested.{holds, left, right}
use Rattle.frames.specs.Words.{is_byte, silence}
use Rattle.wire.specs.Numbers.{success, bad_word}
use Rattle.reader.specs.Good as readers
use Rattle.reader.specs.Rules as report
use Rattle.reader.specs.State.{Read}
use Rattle.reader.specs.declared.Answer.TheVariants as answer
use Rattle.reader.specs.Counts.{byte_in, reports_in, dropped_in}
use Rattle.reader.proofs.Word.{word_format}
use Rattle.reader.proofs.Word as kept
use Rattle.reader.proofs.Keeps.{word_good}
use Rattle.wire.specs.Line.{size_by}
use Rattle.replies.specs.Replying.{came, none, awaiting, nothing, size_of, fits, fitting, finishes, more, told, broken, below_size, placed}
use Rattle.replies.specs.Replying as replying
use Rattle.replies.specs.Good.{good}
use Rattle.replies.specs.Rules.{Heard, told_reader, heard, refusing, continues, word_of}
use Rattle.replies.specs.Counts.{whole_bytes, broken_bytes}
use Rattle.replies.specs.declared.Kind.{Kind}
use Rattle.replies.specs.declared.Kind.TheVariants as kind
use Rattle.replies.specs.declared.Came.{Came}
use Rattle.replies.specs.declared.Awaited.{Awaited}
use Rattle.replies.specs.declared.ToldReader.{ToldReader}
use Rattle.replies.proofs.Lines.{word_kept, keep_last, keep_more, word_passes}

-- a good reader has a good report reader, and a good reply
pub good_reader : (s : ToldReader) → good s ≡ true → readers.good s.reader ≡ true
unfolding good
good_reader s g = left (readers.good s.reader) (replying.good s.awaited) g

pub good_awaited : (s : ToldReader) → good s ≡ true → replying.good s.awaited ≡ true
unfolding good
good_awaited s g = right (readers.good s.reader) (replying.good s.awaited) g

-- a word: the last byte of the reply, one before it, a word that the report reader takes, or one that it refuses
module _ (P : Heard → Type 0) (s : ToldReader) (w : ℕ) (g : readers.good s.reader ≡ true) where
  abbrev own : Read
  own = report.word_of s.reader w

  pub by_word : (continues s.awaited w ≡ true → finishes s.awaited ≡ true → P (heard (told_reader s.reader nothing) (told s.awaited w) answer.Nothing))
      → (continues s.awaited w ≡ true → finishes s.awaited ≡ false → P (heard (told_reader s.reader (more s.awaited w)) None answer.Nothing))
      → (continues s.awaited w ≡ false → own.refusal ≡ success → P (heard (told_reader own.next nothing) (broken s.awaited) own.answer))
      → (continues s.awaited w ≡ false → silence < w → P (refusing bad_word s))
      → P (word_of s w)
  by_word ends keeps passes bad = go (continues s.awaited w) refl (finishes s.awaited) refl
    where
      go : (t : Bool) → continues s.awaited w ≡ t → (u : Bool) → finishes s.awaited ≡ u → P (word_of s w)
      go true e true f = rw (word_kept s w e, keep_last s.reader s.awaited w f) (ends e f)
      go true e false f = rw (word_kept s w e, keep_more s.reader s.awaited w f) (keeps e f)
      go false e u f =
          rw (word_passes s w g e)
          (⊎_elim (λ z. rw (eq-eqb own.refusal success z) (passes e z)) (λ b. rw (ne_eqb own.refusal success (λ z. omega (arith, b.0)), b.0) (bad e b.1)) (kept.word_number s.reader w))

-- a reply of which no byte has come is good
pub awaiting_good : (k : Option Kind) → replying.good (awaiting k none) ≡ true
unfolding replying.good placed
awaiting_good k = refl

-- fewer bytes have come of it than it has, or none is awaited
below : (a : Awaited) → replying.good a ≡ true → below_size a ≡ true
unfolding replying.good
below a g = left (below_size a) _ (left (below_size a && placed a 0 a.came.first) (placed a 1 a.came.second) g)

pub few : (a : Awaited) → replying.good a ≡ true → (a.came.count ≡ 0) ⊎ (a.came.count < size_of a.kind)
few a g = or_else (eqb a.came.count 0) (ltb a.came.count (size_of a.kind)) (λ e. inl (eqb-true a.came.count 0 e)) (λ e. inr (ltb-true a.came.count (size_of a.kind) e)) (below a g)

-- the next byte, which is not the last, leaves it good, with one byte more
abbrev OneMore : Awaited → Awaited → Type 0
OneMore a b = (replying.good b ≡ true) × (b.came.count ≡ a.came.count + 1)

-- where it is the first, and where one has come
first_more : (k : Option Kind) (c : Came) (w : ℕ) → c.count ≡ 0 → replying.good (awaiting k (came 1 w 0)) ≡ true → OneMore (awaiting k c) (more (awaiting k c) w)
unfolding more
first_more k c w z h = rw z (h, refl)

next_more : (k : Option Kind) (c : Came) (w : ℕ) → c.count ≡ 1 → replying.good (awaiting k (came 2 c.first w)) ≡ true → OneMore (awaiting k c) (more (awaiting k c) w)
unfolding more
next_more k c w z h = rw z (h, refl)

more_by : (k : Option Kind) (c : Came) (w : ℕ) → replying.good (awaiting k c) ≡ true → fits k c.count w ≡ true → finishes (awaiting k c) ≡ false → OneMore (awaiting k c) (more (awaiting k c) w)
unfolding replying.good placed fits
more_by None c w g e f = absurd (holds e)
more_by (Some kind.Ack) c w g e f = let n = eqb-false (c.count + 1) 1 f in absurd (⊎_elim (λ z. n (omega arith)) (λ l. n (omega arith)) (few (awaiting (Some kind.Ack) c) g))
more_by (Some kind.Code) c w g e f = let n = eqb-false (c.count + 1) 1 f in absurd (⊎_elim (λ z. n (omega arith)) (λ l. n (omega arith)) (few (awaiting (Some kind.Code) c) g))
more_by (Some kind.Letters) c w g e f =
    let n = eqb-false (c.count + 1) 2 f in
    let z : c.count ≡ 0 = ⊎_elim (λ z. z) (λ l. omega arith) (few (awaiting (Some kind.Letters) c) g) in
    first_more (Some kind.Letters) c w z (both (replying.letter_fits 0 w) true (rw z at e) refl)
more_by (Some kind.Buttons) c w g e f =
    let n = eqb-false (c.count + 1) 3 f in
    ⊎_elim (λ z. first_more (Some kind.Buttons) c w z refl)
    (λ l. go (eqb c.count 0) refl (λ d. omega (arith, n, eqb-false c.count 0 d)))
    (few (awaiting (Some kind.Buttons) c) g)
  where
    go : (t : Bool) → eqb c.count 0 ≡ t → (t ≡ false → c.count ≡ 1) → OneMore (awaiting (Some kind.Buttons) c) (more (awaiting (Some kind.Buttons) c) w)
    go true z one = first_more (Some kind.Buttons) c w (eqb-true c.count 0 z) refl
    go false z one = next_more (Some kind.Buttons) c w (one refl) refl

pub more_good : (a : Awaited) (w : ℕ) → replying.good a ≡ true → continues a w ≡ true → finishes a ≡ false → OneMore a (more a w)
more_good a w g e f = more_by a.kind a.came w g (right (is_byte w) (fitting a w) e) f

-- the bytes of a whole reply, and of a broken one
pub told_bytes : (k : Option Kind) (c : Came) (w : ℕ) → whole_bytes (told (awaiting k c) w) + broken_bytes (told (awaiting k c) w) ≡ size_of k
told_bytes None c w = refl
told_bytes (Some kind.Ack) c w = refl
told_bytes (Some kind.Code) c w = refl
told_bytes (Some kind.Letters) c w = refl
told_bytes (Some kind.Buttons) c w = refl

broken_by : (k : Option Kind) (c : Came) → replying.good (awaiting k c) ≡ true → whole_bytes (broken (awaiting k c)) + broken_bytes (broken (awaiting k c)) ≡ c.count
unfolding broken
broken_by None c g = ⊎_elim (λ z. omega arith) (λ l. omega arith) (few (awaiting None c) g)
broken_by (Some kind.Ack) c g = omega arith
broken_by (Some kind.Code) c g = omega arith
broken_by (Some kind.Letters) c g = omega arith
broken_by (Some kind.Buttons) c g = omega arith

pub broken_bytes_lem : (a : Awaited) → replying.good a ≡ true → whole_bytes (broken a) + broken_bytes (broken a) ≡ a.came.count
broken_bytes_lem a g = broken_by a.kind a.came g

-- a word leaves a good reader of the same format
abbrev pub Fine : ToldReader → Heard → Type 0
Fine s h = (good h.next ≡ true) × (h.next.reader.format ≡ s.reader.format)

pub made : (s : ToldReader) → readers.good s.reader ≡ true → replying.good s.awaited ≡ true → good s ≡ true
unfolding good
made s h k = both (readers.good s.reader) (replying.good s.awaited) h k

pub word_fine : (s : ToldReader) (w : ℕ) → good s ≡ true → Fine s (word_of s w)
word_fine s w g =
    let h = good_reader s g in
    by_word (Fine s) s w h
    (λ e f. (made (told_reader s.reader nothing) h (awaiting_good None), refl))
    (λ e f. (made (told_reader s.reader (more s.awaited w)) h (more_good s.awaited w (good_awaited s g) e f).0, refl))
    (λ e z. (made (told_reader (report.word_of s.reader w).next nothing) (word_good s.reader h w) (awaiting_good None), word_format s.reader w))
    (λ e b. (g, refl))

pub told_fine : (s : ToldReader) (k : Option Kind) → good s ≡ true → good (told_reader s.reader (awaiting k none)) ≡ true
told_fine s k g = made (told_reader s.reader (awaiting k none)) (good_reader s g) (awaiting_good k)

-- its bytes, and those kept before, are in a report, dropped, of a whole reply or a broken one, or kept after
abbrev pub Kept : ToldReader → ℕ → Heard → Type 0
Kept s w h =
    h.refusal ≡ success
    → byte_in w + (s.reader.count + s.awaited.came.count)
    ≡ size_by s.reader.format * reports_in h.answer + dropped_in h.answer + whole_bytes h.reply + broken_bytes h.reply + (h.next.reader.count + h.next.awaited.came.count)

is_one : (a : Awaited) (w : ℕ) → continues a w ≡ true → byte_in w ≡ 1
is_one a w e = rw (left (is_byte w) (fitting a w) e)

pub word_counts : (s : ToldReader) (w : ℕ) → good s ≡ true → Kept s w (word_of s w)
word_counts s w g =
    let a = s.awaited in
    by_word (Kept s w) s w (good_reader s g)
    (λ e f z. omega (arith, is_one a w e, eqb-true (a.came.count + 1) (size_of a.kind) f, told_bytes a.kind a.came w))
    (λ e f z. omega (arith, is_one a w e, (more_good a w (good_awaited s g) e f).1))
    (λ e r z. omega (arith, kept.word_kept s.reader w r, broken_bytes_lem a (good_awaited s g)))
    (λ e b z. absurd (eqb-false bad_word success refl z))

-- it is refused with 4 where it is above 257, and else not
abbrev pub Numbered : ToldReader → ℕ → Heard → Type 0
Numbered s w h = (h.refusal ≡ success) ⊎ ((h ≡ refusing bad_word s) × (silence < w))

pub word_number : (s : ToldReader) (w : ℕ) → good s ≡ true → Numbered s w (word_of s w)
word_number s w g = by_word (Numbered s w) s w (good_reader s g) (λ e f. inl refl) (λ e f. inl refl) (λ e z. inl refl) (λ e b. inr (refl, b))
