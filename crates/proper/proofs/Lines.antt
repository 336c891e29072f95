-- Lines of reports that a box can latch, and the words that the yard check lets stand.
use Prim.Native.Nat.{ℕ, suc, ◌+◌, ◌-◌, ◌<◌}
use mathlib.Core.Path.{◌≡◌, refl, ap, ◌∙◌}
use mathlib.Core.Bool.{true, false}
use mathlib.Core.List.{List, [], ◌∷◌, ◌++◌, append_assoc, append-nil}
use native.Mathlib.Omega.{arith}
use lib.ListN.{length, take, length-append}
use lib.Seq.{length-take-le, get_or-append_seam}
use lib.Dec.{eqb-suc-zero}
use borrow.Author.Tests.{eq-eqb, ne_eqb, le-leb}
use Rattle.frames.specs.Words.{break, silence}
use Rattle.frames.specs.Passages.{Passage, silent, finished, broken, UnderWay, nothing, first, words_of, passage_words, part_words, SoundOf, Sound, SoundPart}
use Rattle.frames.specs.Frame.{Fits, Full, Whole}
use Rattle.frames.proofs.Reading.{part_of}
use Rattle.wire.specs.Line.{letter_of, size_of, size_by}
use Rattle.wire.specs.Table.{bytes_of}
use Rattle.wire.specs.Reading.{at}
use Rattle.wire.specs.Messages.{Message, report, reply, message_bytes}
use Rattle.wire.specs.declared.Report.{Report}
use Rattle.wire.specs.declared.Format.{Format}
use Rattle.wire.proofs.Letters.{letter_named, size_named, fits_named}
use Rattle.wire.proofs.Front.{size_between}
use Rattle.wire.proofs.Codec.{bytes_length, fits_byte}
use Rattle.yard.specs.Stands.{barred_by, stands, stands_by}
use Rattle.yard.specs.State.{ended, none_gone}
use Rattle.yard.specs.Rules.{can, first_with, one_more, byte_can, silence_of, word_of}
use Rattle.yard.specs.Log.{sendable}
use Rattle.yard.specs.declared.Yard.{Yard}
use Rattle.proper.proofs.Latchable.{Latchable, strict, last_of, having}
use Rattle.proper.proofs.Fields.{fitting, sent_stands}

-- reports of f that a box can latch, and no replies
abbrev pub LatchableIn : Format → Message → Type 0
LatchableIn f (report l) = (l.format ≡ f) × Latchable f l.report
LatchableIn f (reply bytes) = ⊥

module _ (f : Format) where
  -- the check by its letter
  pub stands_by_lem : (place a z b : ℕ) → stands_by (letter_of f) place a z b ≡ stands f place a z b
  unfolding stands_by stands barred_by
  stands_by_lem place a z b = rw (fits_named (letter_of f) (letter_named f) place b, letter_named f)

  pub size_is : size_by (letter_of f) ≡ size_of f
  size_is = size_named (letter_of f) (letter_named f)

  -- a byte that stands is one
  stood_byte : (place a z b : ℕ) → stands f place a z b ≡ true → b < 256
  stood_byte place a z b h = fits_byte f place b (fitting f place a z b h)

  -- one more byte has gone
  last_more : (k : List ℕ) (b : ℕ) → last_of (k ++ (b ∷ [])) ≡ b
  last_more k b =
      let e : length (k ++ (b ∷ [])) - 1 ≡ length k = omega (arith, length-append k (b ∷ [])) in
      ap (λ (i : ℕ). at i (k ++ (b ∷ []))) e ∙ get_or-append_seam k b [] 0

  having_more : (k : List ℕ) (b : ℕ) → one_more (having f k) b ≡ having f (k ++ (b ∷ []))
  unfolding one_more first_with
  having_more [] b = refl
  having_more (a ∷ k) b = rw (last_more (a ∷ k) b, eqb-suc-zero (length k)) (ap (λ (n : ℕ). record { format = letter_of f; first = a; last = b; count = n; ended = 0 }) n)
    where
      n : suc (length k) + 1 ≡ suc (length (k ++ (b ∷ [])))
      n = omega (arith, length-append k (b ∷ []))

  -- a byte: one that stands, the last or not, and one that does not
  byte_word : (y : Yard) (b : ℕ) → b < 256 → ended y ≡ false → word_of y b ≡ byte_can y b
  unfolding word_of
  byte_word y b l e = rw (le-leb b silence (omega arith), e, le-leb b 255 (omega arith))

  pub more_word : (k : List ℕ) (b : ℕ) → (strict f).fits k b ≡ true → suc (length k) < size_of f → word_of (having f k) b ≡ can (having f (k ++ (b ∷ [])))
  unfolding byte_can
  more_word k b h l =
      byte_word (having f k) b (stood_byte (length k) (at 0 k) (last_of k) b h) refl
      ∙ rw (stands_by_lem (length k) (at 0 k) (last_of k) b, h, size_is, ne_eqb (length k + 1) (size_of f) (λ e. omega arith), having_more k b)

  pub last_word : (k : List ℕ) (b : ℕ) → (strict f).fits k b ≡ true → suc (length k) ≡ size_of f → word_of (having f k) b ≡ can (none_gone (letter_of f))
  unfolding byte_can
  last_word k b h l =
      byte_word (having f k) b (stood_byte (length k) (at 0 k) (last_of k) b h) refl
      ∙ rw (stands_by_lem (length k) (at 0 k) (last_of k) b, h, size_is, eq-eqb (length k + 1) (size_of f) (omega arith))

  break_word : (k : List ℕ) → word_of (having f k) break ≡ can (none_gone (letter_of f))
  unfolding word_of
  break_word k = refl

  silence_word : word_of (having f []) silence ≡ can (none_gone (letter_of f))
  unfolding word_of silence_of
  silence_word = refl

  -- a word that can be sent
  one_sent : (y z : Yard) (w : ℕ) (ws : List ℕ) → word_of y w ≡ can z → sendable y (w ∷ ws) ≡ suc (sendable z ws)
  unfolding sendable
  one_sent y z w ws e = rw e

  -- bytes of a report that is not whole, and the last ones
  goes_on : (k bs ws : List ℕ) → Fits (strict f) k bs → length k + length bs < size_of f → sendable (having f k) (bs ++ ws) ≡ length bs + sendable (having f (k ++ bs)) ws
  goes_on k [] ws h l = rw append-nil (omega arith)
  goes_on k (b ∷ bs) ws h l =
      let r = goes_on (k ++ (b ∷ [])) bs ws h.1 (omega (arith, length-append k (b ∷ []))) in
      let a : k ++ (b ∷ []) ++ bs ≡ k ++ (b ∷ bs) = append_assoc k (b ∷ []) bs in
      one_sent (having f k) (having f (k ++ (b ∷ []))) b (bs ++ ws) (more_word k b h.0 (omega arith)) ∙ rw (r, a) (omega arith)

  ends : (k : List ℕ) (b : ℕ) (bs ws : List ℕ) → Fits (strict f) k (b ∷ bs) → length k + suc (length bs) ≡ size_of f → sendable (having f k) (b ∷ bs ++ ws) ≡ suc (length bs) + sendable (having f []) ws
  ends k b [] ws h l = one_sent (having f k) (having f []) b ws (last_word k b h.0 (omega arith)) ∙ omega arith
  ends k b (c ∷ bs) ws h l =
      let r = ends (k ++ (b ∷ [])) c bs ws h.1 (omega (arith, length-append k (b ∷ []))) in
      one_sent (having f k) (having f (k ++ (b ∷ []))) b (c ∷ bs ++ ws) (more_word k b h.0 (omega arith)) ∙ rw r (omega arith)

  -- whole reports, and the first bytes of one
  whole_sent : (r : Report) (ws : List ℕ) → Latchable f r → sendable (having f []) (bytes_of f r ++ ws) ≡ length (bytes_of f r) + sendable (having f []) ws
  whole_sent r ws l = go (bytes_of f r) (sent_stands f r l) (bytes_length f r)
    where
      go : (bs : List ℕ) → Fits (strict f) [] bs → length bs ≡ size_of f → sendable (having f []) (bs ++ ws) ≡ length bs + sendable (having f []) ws
      go [] h e = absurd (omega (arith, (size_between f).0))
      go (b ∷ bs) h e = ends [] b bs ws h (omega arith)

  whole : (r : Report) → Latchable f r → Whole (strict f) (bytes_of f r)
  whole r l = (sent_stands f r l, go (bytes_of f r) (bytes_length f r))
    where
      go : (bs : List ℕ) → length bs ≡ size_of f → Full (strict f) bs
      go [] e = omega (arith, (size_between f).0)
      go (b ∷ bs) e = e

  part_sent : (n : ℕ) (m : Message) (ws : List ℕ) → LatchableIn f m → n < length (message_bytes m) → sendable (having f []) (take n (message_bytes m) ++ ws) ≡ length (take n (message_bytes m)) + sendable (having f (take n (message_bytes m))) ws
  part_sent n (report l) ws h e =
      let k : n < length (bytes_of f l.report) = rw h.0 at e in
      let p = part_of (strict f) (bytes_of f l.report) n (whole l.report h.1) k in
      rw h.0 (goes_on [] (take n (bytes_of f l.report)) ws p.0 (omega (arith, length-take-le n (bytes_of f l.report) (omega arith), bytes_length f l.report)))
  part_sent n (reply bytes) ws h e = absurd h

  passage_sent : (p : Passage Message) (ws : List ℕ) → SoundOf message_bytes (LatchableIn f) p → sendable (having f []) (words_of message_bytes p ++ ws) ≡ length (words_of message_bytes p) + sendable (having f []) ws
  passage_sent silent ws h = one_sent (having f []) (having f []) silence ws silence_word ∙ omega arith
  passage_sent (finished (report l)) ws h = rw h.0 (whole_sent l.report ws h.1)
  passage_sent (finished (reply bytes)) ws h = absurd h
  passage_sent (broken n m) ws h =
      rw append_assoc
      (part_sent n m (break ∷ ws) h.0 h.1
      ∙ rw (one_sent (having f (take n (message_bytes m))) (having f []) break ws (break_word (take n (message_bytes m)))) (omega (arith, length-append (take n (message_bytes m)) (break ∷ []))))

  -- every word of a line of such reports can be sent
  pub line_sent : (ps : List (Passage Message)) (g : UnderWay Message) → Sound message_bytes (LatchableIn f) ps → SoundPart message_bytes (LatchableIn f) g
      → sendable (none_gone (letter_of f)) (passage_words message_bytes ps ++ part_words message_bytes g) ≡ length (passage_words message_bytes ps ++ part_words message_bytes g)
  unfolding sendable
  line_sent [] nothing s h = refl
  line_sent [] (first n m) s h = let e = part_sent n m [] h.0 h.1 in (rw append-nil at e) ∙ omega arith
  line_sent (p ∷ ps) g s h =
      let r = line_sent ps g s.1 h in
      rw append_assoc (passage_sent p (passage_words message_bytes ps ++ part_words message_bytes g) s.0 ∙ rw r (omega (arith, length-append (words_of message_bytes p) (passage_words message_bytes ps ++ part_words message_bytes g))))
