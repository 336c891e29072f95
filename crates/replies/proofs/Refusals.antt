-- Refusals: 6, then 12 for a telling; 6, then 4 for a word; the old reader, no answer, counts of 0 and an unchanged slice; and 4 in a long read.
use Prim.Native.Nat.{ℕ, ◌<◌, ◌≤◌}
use mathlib.Core.Path.{◌≡◌, refl, sym, ◌∙◌, ap}
use mathlib.Core.Bool.{Bool, true, false}
use mathlib.Core.Logic.{◌⊎◌, inl, inr, ⊎_elim}
use mathlib.Core.List.Memᴰ
use mathlib.Core.List.{List, ◌∷◌, ◌++◌}
use native.Mathlib.Omega.{arith}
use lib.ListN.{length, get_or}
use lib.IntN.{ℤ}
use Rattle.fold.specs.Calls.{stopped, with_refusal, Refuses}
use Rattle.fold.proofs.Calls as calls
use Rattle.frames.specs.Words.{is_byte, silence}
use Rattle.wire.specs.Numbers.{success, bad_state, bad_word, accepted, refusal}
use borrow.Author.Tests.{leb-true}
use Rattle.numbers.proofs.Choices.{cases}
use Rattle.numbers.proofs.Tested.{left}
use Rattle.reader.specs.Promises as reader
use Rattle.reader.specs.State.{Read}
use Rattle.reader.proofs.Goodness as report
use Rattle.reader.proofs.Refusals as refusals
use Rattle.replies.specs.Replying.{is_none, fitting}
use Rattle.replies.specs.Good.{good}
use Rattle.replies.specs.Rules.{Heard, kind_of, refusing, word_of}
use Rattle.replies.specs.Line.{HeardLine, Long, whole, heard_line, hears_line}
use Rattle.replies.specs.Promises.{Telling, TellPromise, StepPromise, ReadPromise, TellRefusal, StepRefusal, ReadRefusal, no_reply, telling_of, tell_of, step_of}
use Rattle.replies.specs.declared.Asked.{Asked}
use Rattle.replies.specs.declared.ToldReader.{ToldReader}
use Rattle.replies.proofs.Word.{good_reader, by_word, word_number}
use Rattle.replies.proofs.Permitted.{step_is, read_is}
use Rattle.replies.proofs.Goodness.{lawful, step_word}

-- a telling: 6 whatever the command, and then 12
pub bad_state_tell : (s : ToldReader) (asked : Asked) (t : Telling) → good s ≡ false → TellPromise s asked t → t ≡ telling_of bad_state s 0
unfolding tell_of
bad_state_tell s asked t g e = rw (e, g)

pub no_reply_tell : (s : ToldReader) (asked : Asked) (t : Telling) → good s ≡ true → is_none (kind_of asked) ≡ true → TellPromise s asked t → t ≡ telling_of no_reply s 0
unfolding tell_of
no_reply_tell s asked t g n e = rw (e, g, n)

pub tell_refusals : (s : ToldReader) (asked : Asked) (t : Telling) → TellPromise s asked t → TellRefusal s t
unfolding tell_of
tell_refusals s asked t e = go (good s) refl (is_none (kind_of asked)) refl
  where
    go : (g : Bool) → good s ≡ g → (n : Bool) → is_none (kind_of asked) ≡ n → TellRefusal s t
    go false g n k = refusal (Memᴰ.head (bad_state_tell s asked t g e))
    go true g true k = refusal (Memᴰ.tail (Memᴰ.head (no_reply_tell s asked t g k e)))
    go true g false k = accepted (rw (e, g, k))

-- a word: 6 whatever it is, and 4 for one above 257
pub bad_state_lem : (s : ToldReader) (w : ℕ) (h : Heard) → good s ≡ false → StepPromise s w h → h ≡ refusing bad_state s
unfolding step_of
bad_state_lem s w h g e = rw (step_is s w h e, g)

above : (s : ToldReader) (w : ℕ) → good s ≡ true → silence < w → word_of s w ≡ refusing bad_word s
above s w g h =
    let r = good_reader s g in
    let bad = ap (λ (t : Read). t.refusal) (sym (report.step_word s.reader w r) ∙ refusals.bad_word_lem s.reader w (reader.step_of s.reader w) r h refl) in
    by_word (λ (t : Heard). t ≡ refusing bad_word s) s w r
    (λ e f. absurd (omega (arith, leb-true w 255 (left (is_byte w) (fitting s.awaited w) e))))
    (λ e f. absurd (omega (arith, leb-true w 255 (left (is_byte w) (fitting s.awaited w) e))))
    (λ e z. absurd (omega (arith, bad)))
    (λ e b. refl)

pub bad_word_lem : (s : ToldReader) (w : ℕ) (h : Heard) → good s ≡ true → silence < w → StepPromise s w h → h ≡ refusing bad_word s
bad_word_lem s w h g l e = step_is s w h e ∙ step_word s w g ∙ above s w g l

-- and no other: a good reader takes every line word
pub word_taken : (s : ToldReader) (w : ℕ) → good s ≡ true → w ≤ silence → (word_of s w).refusal ≡ success
word_taken s w g h = ⊎_elim (λ z. z) (λ b. absurd (omega (arith, b.1))) (word_number s w g)

pub takes_line_words : (s : ToldReader) (w : ℕ) (h : Heard) → good s ≡ true → w ≤ silence → StepPromise s w h → h.refusal ≡ success
takes_line_words s w h g l e = rw (step_is s w h e ∙ step_word s w g) (word_taken s w g l)

pub step_refusals : (s : ToldReader) (w : ℕ) (h : Heard) → StepPromise s w h → StepRefusal s h
unfolding step_of
step_refusals s w h e =
    rw (step_is s w h e)
    (cases (StepRefusal s) (good s) (λ g. ⊎_elim accepted (λ b. refusal (Memᴰ.tail (Memᴰ.head b.0))) (word_number s w g)) (λ _. refusal (Memᴰ.head refl)))

-- 4 just for a word above 257
refuses : Refuses hears_line bad_word silence
refuses =
    record {
      some = λ z. omega (arith, z);
      either = λ s w g. ⊎_elim inl (λ b. inr (ap (λ (h : Heard). h.refusal) b.0, b.1)) (word_number s w g);
      above = λ s w g h. ap (λ (t : Heard). t.refusal) (above s w g h);
    }

-- a long read
pub bad_state_read : (s : ToldReader) (words : List ℕ) (out : List ℤ) (a : HeardLine) (after : List ℤ) → good s ≡ false → ReadPromise s words out a after → whole a after ≡ stopped hears_line bad_state s out
bad_state_read s words out a after g e = calls.bad_state_lem hears_line lawful s words out (read_is s words out a after e) g

pub bad_word_read : (s : ToldReader) (p q : List ℕ) (w : ℕ) (out : List ℤ) (a b : HeardLine) (x y : List ℤ)
    → good s ≡ true
    → silence < w
    → ReadPromise s p out b y
    → b.taken ≡ length p
    → ReadPromise s (p ++ w ∷ q) out a x
    → whole a x ≡ with_refusal bad_word (whole b y)
bad_word_read s p q w out a b x y g h f t e =
    calls.bad_word_lem hears_line lawful refuses s p q w out g h (read_is s p out b y f) t (read_is s (p ++ w ∷ q) out a x e)

-- of a good reader it ends with 0, or with 4 before a word above 257
pub read_ends : (s : ToldReader) (words : List ℕ) (out : List ℤ) (a : HeardLine) (after : List ℤ) → good s ≡ true → ReadPromise s words out a after
    → (a.refusal ≡ success) ⊎ ((a.refusal ≡ bad_word) × (silence < get_or words a.taken 0))
read_ends s words out a after g e = calls.ends hears_line lawful refuses s words out (read_is s words out a after e) g

pub read_refusals : (s : ToldReader) (words : List ℕ) (out : List ℤ) (a : HeardLine) (after : List ℤ) → ReadPromise s words out a after → ReadRefusal s words out a after
read_refusals s words out a after e =
    calls.outcomes hears_line lawful refuses s words out (read_is s words out a after e) accepted (λ x. refusal (Memᴰ.head x)) (λ x. refusal (Memᴰ.tail (Memᴰ.head x)))

-- "a bad word behind a stop for room is not reached": where words are left, what follows them changes nothing
pub not_reached : (s : ToldReader) (p q : List ℕ) (out : List ℤ) (a b : HeardLine) (x y : List ℤ)
    → good s ≡ true
    → ReadPromise s p out b y
    → b.taken < length p
    → ReadPromise s (p ++ q) out a x
    → (a ≡ b) × (x ≡ y)
not_reached s p q out a b x y g f t e =
    let j = calls.not_reached hears_line lawful s p q out (read_is s p out b y f) t (read_is s (p ++ q) out a x e) in
    (ap heard_line j, ap (λ (l : Long). l.out) j)
