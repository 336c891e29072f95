-- In an unmarked format a reader that waits hands out nothing up to a silence, and from there on the finished reports of an unbroken line.
use mathlib.Core.Path.{◌≡◌, refl, ◌∙◌}
use mathlib.Core.List.{List, [], ◌∷◌, ◌++◌, append_assoc}
use mathlib.Core.Bool.{Bool, true, false}
use Prim.Native.Nat.{ℕ}
use native.Mathlib.Omega.{arith}
use lib.ListN.{take}
use lib.Dec.{eqb}
use borrow.Author.Tests.{ne_eqb}
use Rattle.frames.specs.Words as words
use Rattle.frames.specs.Passages.{Passage, silent, finished, broken, UnderWay, Unbroken, Unpaused, finished_by, passage_words, part_words, Sound, SoundPart}
use Rattle.frames.specs.Frame.{Frame, waits, move_of, fresh, read, Fits, Framed, decoded, Laws}
use Rattle.frames.proofs.Passages.{passages_append, sound_left, sound_right}
use Rattle.frames.proofs.Reading.{passes, quiet, part_of, calm_read}

module _ {R : Type 0} (F : Frame R) (L : Laws F) (unmarked : F.marked ≡ false) where
  -- no word but a silence ends the waiting, and none hands out a report
  waits_on : (w : ℕ) (ws : List ℕ) → (w ≡ words.silence → ⊥) → read F waits (w ∷ ws) ≡ read F waits ws
  unfolding move_of
  waits_on w ws n = go (eqb w words.break) refl
    where
      go : (t : Bool) → eqb w words.break ≡ t → read F waits (w ∷ ws) ≡ read F waits ws
      go true e = passes F 0 waits w ws (rw (ne_eqb w words.silence n, e, unmarked))
      go false e = passes F 1 waits w ws (rw (ne_eqb w words.silence n, e, unmarked))

  -- no byte that fits some place is a silence
  bytes_wait : (k bytes ws : List ℕ) → Fits F k bytes → read F waits (bytes ++ ws) ≡ read F waits ws
  bytes_wait k [] ws f = refl
  bytes_wait k (b ∷ bytes) ws f = waits_on b (bytes ++ ws) (λ e. omega (arith, L.byte k b f.0)) ∙ bytes_wait (k ++ (b ∷ [])) bytes ws f.1

  module _ {K : Type 0} (bytes : K → List ℕ) where
    line_waits : (l : List (Passage K)) (ws : List ℕ) → Sound bytes (Framed F bytes) l → Unpaused l → read F waits (passage_words bytes l ++ ws) ≡ read F waits ws
    line_waits [] ws s u = refl
    line_waits (silent ∷ l) ws s u = absurd u
    line_waits (finished k ∷ l) ws s u = rw append_assoc (bytes_wait [] (bytes k) (passage_words bytes l ++ ws) s.0.0 ∙ line_waits l ws s.1 u)
    line_waits (broken n k ∷ l) ws s u =
        let rest = passage_words bytes l ++ ws in
        simp append_assoc
        (bytes_wait [] (take n (bytes k)) (words.break ∷ rest) (part_of F (bytes k) n s.0.0 s.0.1).0
        ∙ waits_on words.break rest (λ e. omega arith)
        ∙ line_waits l ws s.1 u)

    -- so that a fresh reader hands out exactly the finished reports behind the first silence, where none is broken off
    pub from_silence : (front rest : List (Passage K)) (g : UnderWay K)
        → Sound bytes (Framed F bytes) (front ++ (silent ∷ rest))
        → SoundPart bytes (Framed F bytes) g
        → Unpaused front
        → Unbroken rest
        → read F (fresh F) (passage_words bytes (front ++ (silent ∷ rest)) ++ part_words bytes g) ≡ finished_by (decoded F bytes) rest
    from_silence front rest g s p u b =
        let sound = sound_right bytes (Framed F bytes) front (silent ∷ rest) s in
        let later = passage_words bytes rest ++ part_words bytes g in
        let is : fresh F ≡ waits = rw unmarked in
        rw (is, passages_append bytes front (silent ∷ rest), append_assoc)
        (line_waits front (words.silence ∷ later) (sound_left bytes (Framed F bytes) front (silent ∷ rest) s) u
        ∙ passes F 0 waits words.silence later (quiet F waits)
        ∙ calm_read F L bytes rest g sound.1 b p)
