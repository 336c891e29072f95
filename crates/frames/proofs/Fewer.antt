-- A line of which silences were left out: its bytes and breaks stay, so that it is the same passages with fewer silences.
use Prim.Native.Nat.{ℕ, ◌<◌}
use mathlib.Core.Path.{◌≡◌, refl, sym, ◌∙◌, ap}
use mathlib.Core.Bool.{Bool}
use mathlib.Core.List.{List, [], ◌∷◌, ◌++◌, append_assoc}
use native.Mathlib.Omega.{arith}
use lib.ListN.{take}
use Rattle.frames.specs.Words.{break, silence}
use Rattle.frames.specs.Passages.{Passage, silent, finished, broken, UnderWay, nothing, first, Unbroken, finished_by, words_of, passage_words, part_words, Sound, SoundPart}
use Rattle.frames.specs.Frame.{Frame, Fits, Framed, Laws}
use Rattle.frames.specs.Damage.{Shown, Fewer, Quieter}
use Rattle.frames.specs.Damage as damage
use Rattle.frames.proofs.Reading.{part_of}

-- where all damage shows, it does so with silences left out too
pub fewer_shown : {marked : Bool} {fewer left words : List ℕ} → Fewer fewer left → Shown marked left words → Shown marked fewer words
fewer_shown f (damage.unheard d) = damage.unheard (fewer_shown f d)
fewer_shown damage.whole damage.whole = damage.whole
fewer_shown (damage.stays f) (damage.stays d) = damage.stays (fewer_shown f d)
fewer_shown (damage.unheard f) (damage.stays d) = damage.unheard (fewer_shown f d)
fewer_shown (damage.stays f) (damage.scar gone d) = damage.scar gone (fewer_shown f d)
fewer_shown (damage.stays f) (damage.comes_in m d) = damage.comes_in m (fewer_shown f d)
fewer_shown (damage.unheard f) (damage.comes_in m d) = fewer_shown f d

-- words before them stay
pub fewer_behind : (front : List ℕ) {left words : List ℕ} → Fewer left words → Fewer (front ++ left) (front ++ words)
fewer_behind [] f = f
fewer_behind (w ∷ front) f = damage.stays (fewer_behind front f)

-- words of which none is a silence
abbrev Sounding : List ℕ → Type 0
Sounding [] = Unit {0}
Sounding (w ∷ words) = (w < silence) × Sounding words

sounding_append : (u v : List ℕ) → Sounding u → Sounding v → Sounding (u ++ v)
sounding_append [] v h k = k
sounding_append (w ∷ u) v h k = (h.0, sounding_append u v h.1 k)

-- such words stay, and what is behind them
record Behind (front left words : List ℕ) : Type 0 where
  rest : List ℕ
  is : left ≡ front ++ rest
  fewer : Fewer rest words

behind : (front : List ℕ) {left words : List ℕ} → Sounding front → Fewer left (front ++ words) → Behind front left words
behind [] {left} h f = record { rest = left; is = refl; fewer = f }
behind (w ∷ front) h (damage.stays f) =
    let b = behind front h.1 f in
    record { rest = b.rest; is = ap (λ (l : List ℕ). w ∷ l) b.is; fewer = b.fewer }
behind (_ ∷ front) h (damage.unheard f) = absurd (omega (arith, h.0))

all_stay : (words : List ℕ) {left : List ℕ} → Sounding words → Fewer left words → left ≡ words
all_stay [] h damage.whole = refl
all_stay (w ∷ words) h (damage.stays f) = ap (λ (l : List ℕ). w ∷ l) (all_stay words h.1 f)
all_stay (_ ∷ words) h (damage.unheard f) = absurd (omega (arith, h.0))

-- passages with fewer silences: sound, unbroken and finished as before
module _ {K : Type 0} where
  pub quieter_unbroken : {left passages : List (Passage K)} → Quieter left passages → Unbroken passages → Unbroken left
  quieter_unbroken damage.whole u = tt
  quieter_unbroken (damage.stays {p = silent} q) u = quieter_unbroken q u
  quieter_unbroken (damage.stays {p = finished k} q) u = quieter_unbroken q u
  quieter_unbroken (damage.stays {p = broken n k} q) u = absurd u
  quieter_unbroken (damage.unheard q) u = quieter_unbroken q u

  pub quieter_finished : {R : Type 0} (shows : K → List R) {left passages : List (Passage K)} → Quieter left passages
      → finished_by shows left ≡ finished_by shows passages
  quieter_finished shows damage.whole = refl
  quieter_finished shows (damage.stays q) = rw (quieter_finished shows q)
  quieter_finished shows (damage.unheard q) = quieter_finished shows q

  pub quieter_sound : (bytes : K → List ℕ) (Test : K → Type 0) {left passages : List (Passage K)} → Quieter left passages
      → Sound bytes Test passages
      → Sound bytes Test left
  quieter_sound bytes Test damage.whole s = tt
  quieter_sound bytes Test (damage.stays q) s = (s.0, quieter_sound bytes Test q s.1)
  quieter_sound bytes Test (damage.unheard q) s = quieter_sound bytes Test q s.1

-- What is left of the words of a line, where silences were left out, is the words of its passages with fewer silences.
module _ {R K : Type 0} (F : Frame R) (laws : Laws F) (bytes : K → List ℕ) where
  fits_sounding : (k bs : List ℕ) → Fits F k bs → Sounding bs
  fits_sounding k [] h = tt
  fits_sounding k (b ∷ bs) h = (omega (arith, laws.byte k b h.0), fits_sounding (k ++ (b ∷ [])) bs h.1)

  part_sounding : (n : ℕ) (k : K) → SoundPart bytes (Framed F bytes) (first n k) → Sounding (take n (bytes k))
  part_sounding n k h = fits_sounding [] (take n (bytes k)) (part_of F (bytes k) n h.0 h.1).0

  going_sounding : (g : UnderWay K) → SoundPart bytes (Framed F bytes) g → Sounding (part_words bytes g)
  going_sounding nothing h = tt
  going_sounding (first n k) h = part_sounding n k h

  pub record Left (left : List ℕ) (passages : List (Passage K)) (going : UnderWay K) : Type 0 where
    pub quiet : List (Passage K)
    pub quieter : Quieter quiet passages
    pub is : left ≡ passage_words bytes quiet ++ part_words bytes going

  module _ (going : UnderWay K) (end : SoundPart bytes (Framed F bytes) going) where
    one_more_lem : (p : Passage K) (passages : List (Passage K)) → Sounding (words_of bytes p)
        → ((left : List ℕ) → Fewer left (passage_words bytes passages ++ part_words bytes going) → Left left passages going)
        → {left : List ℕ} → Fewer left (passage_words bytes (p ∷ passages) ++ part_words bytes going)
        → Left left (p ∷ passages) going
    one_more_lem p passages h later f =
        let b = behind (words_of bytes p) h (rw append_assoc at f) in
        let l = later b.rest b.fewer in
        let joined = append_assoc (words_of bytes p) (passage_words bytes l.quiet) (part_words bytes going) in
        record {
          quiet = p ∷ l.quiet;
          quieter = damage.stays l.quieter;
          is = b.is ∙ (ap (λ (r : List ℕ). words_of bytes p ++ r) l.is ∙ sym joined);
        }

    pub left_of : (passages : List (Passage K)) → Sound bytes (Framed F bytes) passages
        → {left : List ℕ} → Fewer left (passage_words bytes passages ++ part_words bytes going)
        → Left left passages going
    left_of [] s f = record { quiet = []; quieter = damage.whole; is = all_stay (part_words bytes going) (going_sounding going end) f }
    left_of (silent ∷ passages) s (damage.stays f) =
        let l = left_of passages s.1 f in
        record { quiet = silent ∷ l.quiet; quieter = damage.stays l.quieter; is = ap (λ (l : List ℕ). silence ∷ l) l.is }
    left_of (silent ∷ passages) s (damage.unheard f) =
        let l = left_of passages s.1 f in
        record { quiet = l.quiet; quieter = damage.unheard l.quieter; is = l.is }
    left_of (finished k ∷ passages) s f =
        one_more_lem (finished k) passages (fits_sounding [] (bytes k) s.0.0) (λ left g. left_of passages s.1 g) f
    left_of (broken n k ∷ passages) s f =
        let sounding = sounding_append (take n (bytes k)) (break ∷ []) (part_sounding n k s.0) (omega arith, tt) in
        one_more_lem (broken n k) passages sounding (λ left g. left_of passages s.1 g) f
