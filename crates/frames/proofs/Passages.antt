-- Passages in two parts: their words, that they are sound, and their finished reports.
use Prim.Native.Nat.{ℕ}
use mathlib.Core.Path.{◌≡◌, refl}
use mathlib.Core.List.{List, [], ◌∷◌, ◌++◌, append_assoc}
use Rattle.frames.specs.Passages.{Passage, silent, finished, broken, UnderWay, nothing, first, finished_in, finished_by, passage_words, Lost, of_finished, of_broken, of_going, SoundOf, Sound, SoundPart}

module _ {K : Type 0} (bytes : K → List ℕ) where
  pub passages_append : (a b : List (Passage K)) → passage_words bytes (a ++ b) ≡ passage_words bytes a ++ passage_words bytes b
  passages_append [] b = refl
  passages_append (p ∷ a) b = rw (passages_append a b, append_assoc)

  module _ (Test : K → Type 0) where
    pub sound_append : (a b : List (Passage K)) → Sound bytes Test a → Sound bytes Test b → Sound bytes Test (a ++ b)
    sound_append [] b s t = t
    sound_append (p ∷ a) b s t = (s.0, sound_append a b s.1 t)

    pub sound_left : (a b : List (Passage K)) → Sound bytes Test (a ++ b) → Sound bytes Test a
    sound_left [] b s = tt
    sound_left (p ∷ a) b s = (s.0, sound_left a b s.1)

    pub sound_right : (a b : List (Passage K)) → Sound bytes Test (a ++ b) → Sound bytes Test b
    sound_right [] b s = s
    sound_right (p ∷ a) b s = sound_right a b s.1

    -- the passages other than the report that lost bytes
    pub others_sound : {passages others : List (Passage K)} {going : UnderWay K} {words : List ℕ} → Sound bytes Test passages → Lost bytes passages going words others → Sound bytes Test others
    others_sound s (of_finished before after going k left d h) =
        sound_append before after (sound_left before (finished k ∷ after) s) (sound_right before (finished k ∷ after) s).1
    others_sound s (of_broken before after going n k left d) =
        sound_append before after (sound_left before (broken n k ∷ after) s) (sound_right before (broken n k ∷ after) s).1
    others_sound s (of_going passages n k left d) = s

  -- where one test gives another
  module _ (Test Other : K → Type 0) (gives : (k : K) → Test k → Other k) where
    sound_of : (p : Passage K) → SoundOf bytes Test p → SoundOf bytes Other p
    sound_of silent s = tt
    sound_of (finished k) s = gives k s
    sound_of (broken n k) s = (gives k s.0, s.1)

    pub sound_by : (l : List (Passage K)) → Sound bytes Test l → Sound bytes Other l
    sound_by [] s = tt
    sound_by (p ∷ l) s = (sound_of p s.0, sound_by l s.1)

    pub part_by : (g : UnderWay K) → SoundPart bytes Test g → SoundPart bytes Other g
    part_by nothing s = tt
    part_by (first n k) s = (gives k s.0, s.1)

  -- where two ways to tell a report agree
  module _ {R : Type 0} (Test : K → Type 0) (shows tells : K → List R) (same : (k : K) → Test k → shows k ≡ tells k) where
    same_in : (p : Passage K) → SoundOf bytes Test p → finished_in shows p ≡ finished_in tells p
    same_in silent s = refl
    same_in (finished k) s = same k s
    same_in (broken n k) s = refl

    pub same_finished : (l : List (Passage K)) → Sound bytes Test l → finished_by shows l ≡ finished_by tells l
    same_finished [] s = refl
    same_finished (p ∷ l) s = rw (same_in p s.0, same_finished l s.1)

pub finished_append : {K R : Type 0} (shows : K → List R) (a b : List (Passage K)) → finished_by shows (a ++ b) ≡ finished_by shows a ++ finished_by shows b
finished_append shows [] b = refl
finished_append shows (p ∷ a) b = rw (finished_append shows a b, append_assoc)
