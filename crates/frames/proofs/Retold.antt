-- A line of which each report is told as one of another kind: its words, and that it is sound.
use Prim.Native.Nat.{ℕ}
use mathlib.Core.Path.{◌≡◌, refl}
use mathlib.Core.List.{List, [], ◌∷◌}
use Rattle.frames.specs.Passages.{Passage, silent, finished, broken, UnderWay, nothing, first, words_of, passage_words, part_words, SoundOf, Sound, SoundPart}
use Rattle.frames.specs.Retold.{passage_as, passages_as, under_way_as}

module _ {K L : Type 0} (kind : K → L) (bytes : L → List ℕ) where
  abbrev bytes_as : K → List ℕ
  bytes_as k = bytes (kind k)

  word_as : (p : Passage K) → words_of bytes (passage_as kind p) ≡ words_of bytes_as p
  word_as silent = refl
  word_as (finished k) = refl
  word_as (broken n k) = refl

  pub words_as : (l : List (Passage K)) → passage_words bytes (passages_as kind l) ≡ passage_words bytes_as l
  words_as [] = refl
  words_as (p ∷ l) = rw (word_as p, words_as l)

  pub part_as : (g : UnderWay K) → part_words bytes (under_way_as kind g) ≡ part_words bytes_as g
  part_as nothing = refl
  part_as (first n k) = refl

  module _ (Test : L → Type 0) where
    sound_one : (p : Passage K) → SoundOf bytes_as (λ k. Test (kind k)) p → SoundOf bytes Test (passage_as kind p)
    sound_one silent s = s
    sound_one (finished k) s = s
    sound_one (broken n k) s = s

    pub sound_as : (l : List (Passage K)) → Sound bytes_as (λ k. Test (kind k)) l → Sound bytes Test (passages_as kind l)
    sound_as [] s = tt
    sound_as (p ∷ l) s = (sound_one p s.0, sound_as l s.1)

    pub part_sound_as : (g : UnderWay K) → SoundPart bytes_as (λ k. Test (kind k)) g → SoundPart bytes Test (under_way_as kind g)
    part_sound_as nothing s = s
    part_sound_as (first n k) s = s
