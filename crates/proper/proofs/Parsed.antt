-- Words of which each can be sent are those of a line that a box can send.
use Prim.Native.Nat.{ℕ, suc, ◌+◌, ◌<◌}
use mathlib.Core.Path.{◌≡◌, refl, sym, ap, ◌∙◌}
use mathlib.Core.Bool.{Bool, true, false}
use mathlib.Core.List.{List, [], ◌∷◌, ◌++◌, append_assoc, append-nil}
use native.Mathlib.Omega.{arith}
use lib.ListN.{length, length-append}
use lib.Dec.{eqb, leb}
use borrow.Author.Tests.{eqb-true, eqb-false, leb-true, leb-false}
use Rattle.numbers.proofs.Tested.{holds}
use Rattle.frames.specs.Words.{is_byte, break, silence}
use Rattle.frames.specs.Passages.{Passage, silent, finished, broken, UnderWay, nothing, first, passage_words, part_words}
use Rattle.frames.specs.Frame.{Fits}
use Rattle.wire.specs.Line.{letter_of, size_of}
use Rattle.wire.specs.Reading.{at, report_of}
use Rattle.wire.specs.Messages.{Message, message_bytes, latched_in}
use Rattle.wire.specs.declared.Report.{Report}
use Rattle.wire.specs.declared.Format.{Format}
use Rattle.wire.proofs.Front.{size_between}
use Rattle.yard.specs.State.{none_gone}
use Rattle.yard.specs.Rules.{sent, byte_can, silence_of, word_of}
use Rattle.yard.specs.Log.{sendable}
use Rattle.yard.specs.declared.Judged.{Judged}
use Rattle.proper.proofs.Latchable.{Latchable, strict, last_of, having}
use Rattle.proper.proofs.Fields.{stood_sent}
use Rattle.proper.proofs.Filled.{Begun, stood_begun}
use Rattle.proper.proofs.Lines.{stands_by_lem, more_word, last_word}

-- what can stand on a box's line, and be under way at its end
abbrev pub CanPass : Format → Passage Message → Type 0
CanPass f silent = Unit {0}
CanPass f (finished m) = (r : Report) × (m ≡ latched_in f r) × Latchable f r
CanPass f (broken n m) = (r : Report) × (m ≡ latched_in f r) × Begun f n r

abbrev pub CanStand : Format → List (Passage Message) → Type 0
CanStand f [] = Unit {0}
CanStand f (p ∷ passages) = CanPass f p × CanStand f passages

abbrev pub CanGo : Format → UnderWay Message → Type 0
CanGo f nothing = Unit {0}
CanGo f (first n m) = (r : Report) × (m ≡ latched_in f r) × Begun f n r

pub record Line (f : Format) (words : List ℕ) : Type 0 where
  pub passages : List (Passage Message)
  pub going : UnderWay Message
  pub stands : CanStand f passages
  pub goes : CanGo f going
  pub as_sent_lem : words ≡ passage_words message_bytes passages ++ part_words message_bytes going

module _ (f : Format) where
  -- what is told of a word that can be sent
  data Sent (k : List ℕ) (w : ℕ) : Type 0 where
    quiet : w ≡ silence → k ≡ [] → (word_of (having f k) w).next ≡ having f [] → Sent k w
    breaks : w ≡ break → (word_of (having f k) w).next ≡ having f [] → Sent k w
    last : (strict f).fits k w ≡ true → suc (length k) ≡ size_of f → (word_of (having f k) w).next ≡ having f [] → Sent k w
    more : (strict f).fits k w ≡ true → suc (length k) < size_of f → (word_of (having f k) w).next ≡ having f (k ++ (w ∷ [])) → Sent k w

  none : (k : List ℕ) → length k ≡ 0 → k ≡ []
  none [] e = refl
  none (b ∷ k) e = absurd (omega arith)

  byte_told : (k : List ℕ) (w : ℕ) → length k < size_of f → word_of (having f k) w ≡ byte_can (having f k) w → sent (byte_can (having f k) w) ≡ true → Sent k w
  unfolding byte_can
  byte_told k w l is c = go ((strict f).fits k w) refl (eqb (length k + 1) (size_of f)) refl
    where
      go : (s : Bool) → (strict f).fits k w ≡ s → (t : Bool) → eqb (length k + 1) (size_of f) ≡ t → Sent k w
      go true e true h = let n : suc (length k) ≡ size_of f = omega (arith, eqb-true (length k + 1) (size_of f) h) in last e n (ap (λ (j : Judged). j.next) (last_word f k w e n))
      go true e false h =
          let d = eqb-false (length k + 1) (size_of f) h in
          let n : suc (length k) < size_of f = omega arith in
          more e n (ap (λ (j : Judged). j.next) (more_word f k w e n))
      go false e t h = absurd (holds (rw (stands_by_lem f (length k) (at 0 k) (last_of k) w, e) at c))

  told : (k : List ℕ) (w : ℕ) → length k < size_of f → sent (word_of (having f k) w) ≡ true → Sent k w
  unfolding word_of silence_of
  told k w l c = go (leb w silence) refl (is_byte w) refl (eqb w break) refl (eqb (length k) 0) refl
    where
      go : (a : Bool) → leb w silence ≡ a → (b : Bool) → is_byte w ≡ b → (d : Bool) → eqb w break ≡ d → (e : Bool) → eqb (length k) 0 ≡ e → Sent k w
      go false p b q d r e s = absurd (holds (rw p at c))
      go true p true q d r e s = byte_told k w l (rw (p, q)) (rw (p, q) at c)
      go true p false q true r e s = let w_is = eqb-true w break r in breaks w_is (rw (p, q, r))
      go true p false q false r true s =
          let d = eqb-false w break r in
          quiet (omega (arith, leb-true w silence p, leb-false w 255 q)) (none k (eqb-true (length k) 0 s)) (rw (p, q, r, s))
      go true p false q false r false s = absurd (holds (rw (p, q, r, s) at c))

  first_sent : (k : List ℕ) (w : ℕ) (ws : List ℕ) → sendable (having f k) (w ∷ ws) ≡ suc (length ws) → (sent (word_of (having f k) w) ≡ true) × (sendable (word_of (having f k) w).next ws ≡ length ws)
  unfolding sendable
  first_sent k w ws h = go (sent (word_of (having f k) w)) refl
    where
      go : (t : Bool) → sent (word_of (having f k) w) ≡ t → (sent (word_of (having f k) w) ≡ true) × (sendable (word_of (having f k) w).next ws ≡ length ws)
      go true e = let q : suc (sendable (word_of (having f k) w).next ws) ≡ suc (length ws) = rw e at h in (e, omega arith)
      go false e = let q : ◌≡◌ {A = ℕ} 0 (suc (length ws)) = rw e at h in absurd (omega arith)

  -- one byte more stands behind those that stand
  fits_more : (j k : List ℕ) (w : ℕ) → Fits (strict f) j k → (strict f).fits (j ++ k) w ≡ true → Fits (strict f) j (k ++ (w ∷ []))
  fits_more j [] w h e = (rw append-nil at e, tt)
  fits_more j (b ∷ k) w h e = (h.0, fits_more (j ++ (b ∷ [])) k w h.1 (rw append_assoc e))

  parse : (k ws : List ℕ) → Fits (strict f) [] k → length k < size_of f → sendable (having f k) ws ≡ length ws → Line f (k ++ ws)
  parse k [] h l e =
      let q = stood_begun f k h l in
      record { passages = []; going = first (length k) (latched_in f q.0); stands = tt; goes = (q.0, refl, q.1); as_sent_lem = append-nil k ∙ sym q.2 }
  parse k (w ∷ ws) h l e =
      let c = first_sent k w ws e in
      go (told k w l c.0)
      (λ (q : (word_of (having f k) w).next ≡ having f []). parse [] ws tt (omega (arith, (size_between f).0)) (rw q at c.1))
      (λ (q : (word_of (having f k) w).next ≡ having f (k ++ (w ∷ []))) (s : Fits (strict f) [] (k ++ (w ∷ []))) (n : suc (length k) < size_of f). parse (k ++ (w ∷ [])) ws s (omega (arith, length-append k (w ∷ []))) (rw q at c.1))
    where
      go : Sent k w
          → ((word_of (having f k) w).next ≡ having f [] → Line f ws)
          → ((word_of (having f k) w).next ≡ having f (k ++ (w ∷ [])) → Fits (strict f) [] (k ++ (w ∷ [])) → suc (length k) < size_of f → Line f (k ++ (w ∷ []) ++ ws))
          → Line f (k ++ (w ∷ ws))
      go (quiet e n q) r m =
          let p = r q in
          record { passages = silent ∷ p.passages; going = p.going; stands = (tt, p.stands); goes = p.goes; as_sent_lem = rw (n, e) (ap (λ (x : List ℕ). silence ∷ x) p.as_sent_lem) }
      go (breaks e q) r m =
          let p = r q in
          let b = stood_begun f k h l in
          record {
            passages = broken (length k) (latched_in f b.0) ∷ p.passages;
            going = p.going;
            stands = ((b.0, refl, b.1), p.stands);
            goes = p.goes;
            as_sent_lem = rw (e, b.2, append_assoc, append_assoc, p.as_sent_lem);
          }
      go (last s n q) r m =
          let p = r q in
          let fit = fits_more [] k w h s in
          let b = stood_sent f (k ++ (w ∷ [])) fit (omega (arith, length-append k (w ∷ []))) in
          record {
            passages = finished (latched_in f (report_of f (k ++ (w ∷ [])))) ∷ p.passages;
            going = p.going;
            stands = ((report_of f (k ++ (w ∷ [])), refl, b.0), p.stands);
            goes = p.goes;
            as_sent_lem = rw (b.1, append_assoc, append_assoc, p.as_sent_lem);
          }
      go (more s n q) r m = rw append_assoc at (m q (fits_more [] k w h s) n)

  -- words of which each can be sent
  pub parsed : (ws : List ℕ) → sendable (none_gone (letter_of f)) ws ≡ length ws → Line f ws
  parsed ws e = parse [] ws tt (omega (arith, (size_between f).0)) e
