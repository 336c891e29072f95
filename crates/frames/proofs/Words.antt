-- Words that each pass a test: joined, taken apart, and the words of a line.
use Prim.Native.Nat.{ℕ}
use mathlib.Core.Path.{◌≡◌, refl}
use mathlib.Core.Bool.{Bool, true, ◌&&◌}
use mathlib.Core.List.{List, [], ◌∷◌, ◌++◌}
use lib.ListN.{take}
use Rattle.numbers.proofs.Choices.{both}
use Rattle.numbers.proofs.Tested.{left, right}
use Rattle.frames.specs.Words.{silence, break}
use Rattle.frames.specs.Passages.{Passage, silent, finished, broken, UnderWay, nothing, first, Sub, none, gone, stays, words_of, passage_words, part_words, Lost, of_finished, of_broken, of_going, SoundOf, Sound, SoundPart}
use Rattle.frames.specs.Frame.{Frame, Fits, Framed}
use Rattle.frames.proofs.Passages.{sound_left, sound_right}
use Rattle.frames.proofs.Reading.{part_of}

unfoldable pub passing : (ℕ → Bool) → List ℕ → Bool
passing P [] = true
passing P (w ∷ words) = P w && passing P words

module _ (P : ℕ → Bool) where
  pub passing_append : (u v : List ℕ) → passing P u ≡ true → passing P v ≡ true → passing P (u ++ v) ≡ true
  unfolding passing
  passing_append [] v h k = k
  passing_append (w ∷ u) v h k = both (P w) (passing P (u ++ v)) (left (P w) (passing P u) h) (passing_append u v (right (P w) (passing P u) h) k)

  pub passing_left : (u v : List ℕ) → passing P (u ++ v) ≡ true → passing P u ≡ true
  unfolding passing
  passing_left [] v h = refl
  passing_left (w ∷ u) v h = both (P w) (passing P u) (left (P w) (passing P (u ++ v)) h) (passing_left u v (right (P w) (passing P (u ++ v)) h))

  pub passing_right : (u v : List ℕ) → passing P (u ++ v) ≡ true → passing P v ≡ true
  unfolding passing
  passing_right [] v h = h
  passing_right (w ∷ u) v h = passing_right u v (right (P w) (passing P (u ++ v)) h)

  -- what is left of such words
  passing_sub : {u v : List ℕ} → Sub u v → passing P v ≡ true → passing P u ≡ true
  unfolding passing
  passing_sub none h = h
  passing_sub (gone {a = b} {all = bytes} d) h = passing_sub d (right (P b) (passing P bytes) h)
  passing_sub (stays {a = b} {left = rest} {all = bytes} d) h = both (P b) (passing P rest) (left (P b) (passing P bytes) h) (passing_sub d (right (P b) (passing P bytes) h))

  -- the words of a line of framed reports, where a break, a silence and whatever fits its place pass the test
  module _ {R K : Type 0} (F : Frame R) (bytes : K → List ℕ) (breaks : P break ≡ true) (pauses : P silence ≡ true)
      (fits : (k : List ℕ) (b : ℕ) → F.fits k b ≡ true → P b ≡ true) where
    fits_pass : (k bs : List ℕ) → Fits F k bs → passing P bs ≡ true
    unfolding passing
    fits_pass k [] h = refl
    fits_pass k (b ∷ bs) h = both (P b) (passing P bs) (fits k b h.0) (fits_pass (k ++ (b ∷ [])) bs h.1)

    part_pass : (n : ℕ) (k : K) → SoundPart bytes (Framed F bytes) (first n k) → passing P (take n (bytes k)) ≡ true
    part_pass n k h = fits_pass [] (take n (bytes k)) (part_of F (bytes k) n h.0 h.1).0

    break_pass : (ws : List ℕ) → passing P ws ≡ true → passing P (break ∷ ws) ≡ true
    unfolding passing
    break_pass ws h = both (P break) (passing P ws) breaks h

    passage_pass : (p : Passage K) → SoundOf bytes (Framed F bytes) p → passing P (words_of bytes p) ≡ true
    unfolding passing
    passage_pass silent h = both (P silence) true pauses refl
    passage_pass (finished k) h = fits_pass [] (bytes k) h.0
    passage_pass (broken n k) h = passing_append (take n (bytes k)) (break ∷ []) (part_pass n k h) (both (P break) true breaks refl)

    passages_pass : (l : List (Passage K)) → Sound bytes (Framed F bytes) l → passing P (passage_words bytes l) ≡ true
    unfolding passing
    passages_pass [] h = refl
    passages_pass (p ∷ l) h = passing_append (words_of bytes p) (passage_words bytes l) (passage_pass p h.0) (passages_pass l h.1)

    going_pass : (g : UnderWay K) → SoundPart bytes (Framed F bytes) g → passing P (part_words bytes g) ≡ true
    unfolding passing
    going_pass nothing h = refl
    going_pass (first n k) h = part_pass n k h

    pub line_passes : (l : List (Passage K)) (g : UnderWay K) → Sound bytes (Framed F bytes) l → SoundPart bytes (Framed F bytes) g
        → passing P (passage_words bytes l ++ part_words bytes g) ≡ true
    line_passes l g s h = passing_append (passage_words bytes l) (part_words bytes g) (passages_pass l s) (going_pass g h)

    -- and of one of which a report lost bytes
    pub lost_passes : {passages others : List (Passage K)} {going : UnderWay K} {ws : List ℕ}
        → Sound bytes (Framed F bytes) passages
        → SoundPart bytes (Framed F bytes) going
        → Lost bytes passages going ws others
        → passing P ws ≡ true
    lost_passes s g (of_finished before later going k rest d h) =
        let b = sound_left bytes (Framed F bytes) before (finished k ∷ later) s in
        let t = sound_right bytes (Framed F bytes) before (finished k ∷ later) s in
        passing_append (passage_words bytes before) _ (passages_pass before b)
        (passing_append rest _ (passing_sub d (fits_pass [] (bytes k) t.0.0)) (line_passes later going t.1 g))
    lost_passes s g (of_broken before later going n k rest d) =
        let b = sound_left bytes (Framed F bytes) before (broken n k ∷ later) s in
        let t = sound_right bytes (Framed F bytes) before (broken n k ∷ later) s in
        passing_append (passage_words bytes before) _ (passages_pass before b)
        (passing_append rest _ (passing_sub d (part_pass n k t.0)) (break_pass _ (line_passes later going t.1 g)))
    lost_passes s g (of_going passages n k rest d) = passing_append (passage_words bytes passages) rest (passages_pass passages s) (passing_sub d (part_pass n k g))
