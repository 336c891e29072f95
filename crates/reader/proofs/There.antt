-- There: a ready reader given the bytes that the encoder writes for an accepted report answers nothing and then the report as carried, and is
-- ready again.
use Prim.Native.Nat.{ℕ, suc, ◌+◌, ◌-◌, ◌<◌, ◌≤◌}
use mathlib.Core.Path.{◌≡◌, refl, sym, ◌∙◌, ap}
use mathlib.Core.Bool.{true, false}
use mathlib.Core.List.{List, [], ◌∷◌, ◌++◌}
use native.Mathlib.Nat.{add-zero, zero-add, add-suc, suc-add}
use native.Mathlib.Numerals.{add-one, one-add}
use native.Mathlib.Omega.{arith}
use lib.ListN.{length, get_or, take, drop, set, replicate, get_or-append}
use lib.Seq.{take_at, sets, sets-eq}
use lib.IntN.{ℤ}
use borrow.Author.Tests.{le-leb, eq-eqb, ne_eqb}
use Rattle.wire.proofs.Letters.{size_named, fits_named}
use Rattle.wire.specs.Line.{named_by, size_of, size_by, known}
use Rattle.wire.specs.Table.{bytes_of}
use Rattle.wire.specs.Holds.{accepted, carried_by}
use Rattle.wire.specs.Places.{fits_at}
use Rattle.wire.specs.Reading.{report_of, report_by}
use Rattle.wire.specs.Numbers.{success}
use Rattle.wire.specs.Encoder.{Encoding, refusal_of, length_of, outcome, encode_in, Encoded}
use Rattle.wire.specs.Promises.{EncodePromise}
use Rattle.wire.specs.declared.Report.{Report}
use Rattle.wire.specs.declared.Format.{Format}
use Rattle.std.proofs.Common.{Option, Some, None}
use Rattle.wire.proofs.Accepts.{done}
use Rattle.wire.proofs.Codec as codec
use Rattle.wire.proofs.Front.{size_between, size_small, same_front}
use Rattle.reader.specs.State.{reader, ready, five_of, Read}
use Rattle.reader.specs.Good.{good}
use Rattle.reader.specs.Rules.{answered, keep, byte_of, word_of}
use Rattle.fold.specs.Calls.{stopped}
use Rattle.fold.proofs.Calls as calls
use Rattle.reader.specs.Line.{Reading, Long, whole, reads_line}
use Rattle.reader.specs.Promises.{read_of, ReadPromise}
use Rattle.reader.specs.Runs.{steps_of, StepsPromise, answers, reader_after}
use Rattle.reader.specs.declared.Reader.{Reader}
use Rattle.reader.specs.declared.Answer.{Answer}
use Rattle.reader.specs.declared.Answer.TheVariants as answer
use Rattle.reader.proofs.Entered.{fit_enters}
use Rattle.reader.proofs.Keeps.{ready_good, word_good}
use Rattle.reader.proofs.Permitted.{steps_are}
use Rattle.reader.proofs.Counted.{lawful}
use Rattle.reader.proofs.Goodness.{step_word}

-- what a long read of a report's bytes gives back
abbrev gave : Reader → Report → List ℕ → List ℤ → Long
gave r p bytes out = whole (record { refusal = success; next = ready r.format; taken = length bytes; reports = 1; dropped = 0 }) (five_of p ++ drop 5 out)

-- a reader answers bytes by nothing up to the last and then by a report, and is ready again; by steps, and in a long read with room for it
record Reads (r : Reader) (p : Report) (bytes : List ℕ) : Type 0 where
  told : answers (steps_of r bytes) ≡ replicate (length bytes - 1) answer.Nothing ++ answer.Report p ∷ []
  again : reader_after r (steps_of r bytes) ≡ ready r.format
  written : (out : List ℤ) → 5 ≤ length out → read_of r bytes out ≡ gave r p bytes out

module _ (f : Format) (letter : ℕ) (named : named_by letter ≡ Some f) where
  ready_is_good : good (ready letter) ≡ true
  unfolding known
  ready_is_good = ready_good letter (rw named)

  -- a byte that fits its place: one that is kept, and the last
  module _ (kept : List ℕ) (n b : ℕ) (g : good (reader letter kept n false) ≡ true) (fit : fits_at f n b ≡ true) where
    word_is : word_of (reader letter kept n false) b ≡ keep (reader letter kept n false) b
    unfolding word_of byte_of
    word_is =
        let fits = fits_named letter named n b ∙ fit in
        rw (le-leb b 255 (omega (arith, codec.fits_byte f n b fit)), fit_enters letter n b fits, fits)

    one_more_lem : (suc n ≡ size_of f → ⊥) → word_of (reader letter kept n false) b ≡ answered (reader letter (set kept n b) (suc n) false) answer.Nothing
    unfolding keep
    one_more_lem ne = word_is ∙ rw (add-one n, ne_eqb (suc n) (size_by letter) (λ e. ne (e ∙ size_named letter named)))

    still_good : (suc n ≡ size_of f → ⊥) → good (reader letter (set kept n b) (suc n) false) ≡ true
    still_good ne = rw (one_more_lem ne) at (word_good (reader letter kept n false) g b)

    last_one : suc n ≡ size_of f → word_of (reader letter kept n false) b ≡ answered (ready letter) (answer.Report (report_by letter (set kept n b)))
    unfolding keep
    last_one e = word_is ∙ rw (add-one n, eq-eqb (suc n) (size_by letter) (e ∙ sym (size_named letter named)))

  -- the bytes that are left of a report, each of which fits its place
  abbrev FitFrom : ℕ → List ℕ → Type 0
  FitFrom n bytes = (i : ℕ) → i < length bytes → fits_at f (n + i) (get_or bytes i 0) ≡ true

  read_from : (bs : List ℕ) (b : ℕ) (kept : List ℕ) (n : ℕ) → good (reader letter kept n false) ≡ true → suc (n + length bs) ≡ size_of f → FitFrom n (b ∷ bs)
      → Reads (reader letter kept n false) (report_by letter (sets kept n (b ∷ bs))) (b ∷ bs)
  unfolding steps_of
  read_from [] b kept n g size fits =
      let fit = rw add-zero at (fits 0 (omega arith)) in
      let w = last_one kept n b g fit (omega arith) in
      let s = step_word (reader letter kept n false) b g ∙ w in
      record {
        told = rw s;
        again = rw s;
        written = λ out room. rw w at (calls.goes_on reads_line lawful (reader letter kept n false) b [] out g refl {j = stopped reads_line success (ready letter) (drop 5 out)} (rw w) (rw w room) (rw w (sym (calls.no_words reads_line lawful (ready letter) (drop 5 out) ready_is_good))));
      }
  read_from (c ∷ bs) b kept n g size fits =
      let fit = rw add-zero at (fits 0 (omega arith)) in
      let more : suc n ≡ size_of f → ⊥ = λ e. omega arith in
      let w = one_more_lem kept n b g fit more in
      let s = step_word (reader letter kept n false) b g ∙ w in
      let shifted : FitFrom (suc n) (c ∷ bs) = λ i h. rw (suc-add n i, ← add-suc n i) (fits (suc i) (omega arith)) in
      let rest = read_from bs c (set kept n b) (suc n) (still_good kept n b g fit more) (omega arith) shifted in
      let less : length (b ∷ c ∷ bs) - 1 ≡ suc (length (c ∷ bs) - 1) = omega arith in
      record {
        told = rw (s, less) (ap (λ (l : List Answer). answer.Nothing ∷ l) rest.told);
        again = rw s rest.again;
        written = λ out room. rw w at (calls.goes_on reads_line lawful (reader letter kept n false) b (c ∷ bs) out g refl {j = gave (ready letter) (report_by letter (sets kept n (b ∷ c ∷ bs))) (c ∷ bs) out} (rw w) (rw w (omega arith)) (rw w (sym (rest.written out room)))) ∙ rw one-add;
      }

  report_is : (bytes : List ℕ) → length bytes ≡ size_of f → report_by letter (sets (replicate 5 0) 0 bytes) ≡ report_of f bytes
  unfolding report_by
  report_is bytes e =
      let zeros : List ℕ = replicate 5 0 in
      let whole : sets zeros 0 bytes ≡ bytes ++ drop (0 + length bytes) zeros = sets-eq bytes zeros 0 (omega (arith, size_small f)) in
      rw (named, whole) (same_front f (bytes ++ drop (0 + length bytes) zeros) bytes (λ i h. get_or-append bytes (drop (0 + length bytes) zeros) 0 i (omega arith)))

  -- the bytes of an accepted report, to a ready reader
  all_read : (bytes : List ℕ) → length bytes ≡ size_of f → FitFrom 0 bytes → Reads (ready letter) (report_of f bytes) bytes
  all_read [] size fits = absurd (omega (arith, (size_between f).0))
  all_read (b ∷ bs) size fits = rw (report_is (b ∷ bs) size) at (read_from bs b (replicate 5 0) 0 ready_is_good (omega arith) fits)

  heard : (p : Report) → accepted f p ≡ true → Reads (ready letter) (carried_by letter p) (bytes_of f p)
  unfolding carried_by
  heard p a =
      let size = codec.bytes_length f p in
      rw (named, ← codec.there f p a) (all_read (bytes_of f p) size (λ i h. rw zero-add (codec.bytes_fit f p a i (omega arith))))

-- the bytes that an encoder has written
record Sent (letter : ℕ) (p : Report) (size : ℕ) (bytes : List ℕ) : Type 0 where
  f : Format
  named : named_by letter ≡ Some f
  taken : accepted f p ≡ true
  sized : size ≡ size_of f
  are : bytes ≡ bytes_of f p

sent : (letter : ℕ) (p : Report) (before after : List ℕ) (e : Encoded) → EncodePromise letter p before e after → refusal_of e ≡ success → Sent letter p (length_of e) (take (length_of e) after)
unfolding encode_in
sent letter p before after e h z = go (named_by letter) refl
  where
    go : (n : Option Format) → named_by letter ≡ n → Sent letter p (length_of e) (take (length_of e) after)
    go None q = absurd (omega (arith, z, ap (λ (l : Encoding). l.refusal) (rw q at h)))
    go (Some f) q =
        let d = done f p before (outcome e after) (rw q at h) z in
        let size = ap (λ (l : Encoding). l.told) d.is in
        let buffer = ap (λ (l : Encoding). l.buffer) d.is in
        record {
          f = f;
          named = q;
          taken = d.taken;
          sized = size;
          are = rw (size, buffer) (take_at (bytes_of f p) (drop (size_of f) before) (size_of f) (codec.bytes_length f p));
        }

heard_sent : (letter : ℕ) (p : Report) (before after : List ℕ) (e : Encoded) → EncodePromise letter p before e after → refusal_of e ≡ success
    → Reads (ready letter) (carried_by letter p) (take (length_of e) after) × (length (take (length_of e) after) ≡ length_of e) × (good (ready letter) ≡ true)
heard_sent letter p before after e h z =
    let t = sent letter p before after e h z in (
      rw t.are (heard t.f letter t.named p t.taken),
      rw t.are (codec.bytes_length t.f p ∙ sym t.sized),
      ready_is_good t.f letter t.named,
    )

pub there : (letter : ℕ) (p : Report) (before after : List ℕ) (e : Encoded) (steps : List Read)
    → EncodePromise letter p before e after
    → refusal_of e ≡ success
    → StepsPromise (ready letter) (take (length_of e) after) steps
    → (answers steps ≡ replicate (length_of e - 1) answer.Nothing ++ answer.Report (carried_by letter p) ∷ []) × (reader_after (ready letter) steps ≡ ready letter)
there letter p before after e steps h z s =
    let r = heard_sent letter p before after e h z in
    rw (steps_are (ready letter) (take (length_of e) after) steps s) (rw r.1 at r.0.told, r.0.again)

pub there_read : (letter : ℕ) (p : Report) (before after : List ℕ) (e : Encoded) (out written : List ℤ) (a : Reading)
    → EncodePromise letter p before e after
    → refusal_of e ≡ success
    → 5 ≤ length out
    → ReadPromise (ready letter) (take (length_of e) after) out a written
    → whole a written ≡ whole (record { refusal = success; next = ready letter; taken = length_of e; reports = 1; dropped = 0 }) (five_of (carried_by letter p) ++ drop 5 out)
there_read letter p before after e out written a h z room i =
    let r = heard_sent letter p before after e h z in
    i ∙ (rw r.1 at (r.0.written out room))
