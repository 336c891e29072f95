-- A reader over a line on which all damage shows: it is in step with what is sent, or as it is after a break; and hands
-- out only what was finished.
use mathlib.Core.Path.{◌≡◌, refl, sym, ap, ◌∙◌}
use mathlib.Core.List.{List, [], ◌∷◌, ◌++◌, append_assoc, append-nil}
use mathlib.Core.Bool.{Bool, true, false}
use Prim.Native.Nat.{ℕ, suc, ◌+◌, ◌<◌}
use native.Mathlib.Omega.{arith}
use lib.ListN.{length, take, length-append}
use lib.Seq.{append_snoc}
use borrow.Author.Tests.{eq-eqb, ne_eqb}
use Rattle.frames.specs.Words.{break, silence}
use Rattle.frames.specs.Passages.{Passage, silent, finished, broken, UnderWay, nothing, first, Sub, none, gone, stays, finished_by, passage_words, part_words, Sound, SoundPart}
use Rattle.frames.specs.Frame.{Frame, State, has, kept, report, reports, drops, move_of, fresh, complete, keep, step, read, Fits, Whole, Part, Framed, decoded, Laws, Marked}
use Rattle.frames.proofs.Reading.{on, passes, quiet, part_of}
use Rattle.frames.specs.Damage.{Shown, whole, unheard, scar, comes_in}
use Rattle.frames.specs.Damage as damage
use Rattle.frames.proofs.Sub.{sub_all, sub_then}

-- A line of the frame, word by word: behind the bytes k of the report that is going, these words, in which these
-- reports are finished.
module _ {R : Type 0} (F : Frame R) where
  pub data Line : List ℕ → List ℕ → List R → Type 0 where
    ends : {k : List ℕ} → Line k [] []
    pauses : {words : List ℕ} {rs : List R} → Line [] words rs → Line [] (silence ∷ words) rs
    breaks : {k words : List ℕ} {rs : List R} → Line [] words rs → Line k (break ∷ words) rs
    goes_on : {k : List ℕ} {b : ℕ} {words : List ℕ} {rs : List R} → F.fits k b ≡ true → complete F (k ++ (b ∷ [])) ≡ false
        → Line (k ++ (b ∷ [])) words rs
        → Line k (b ∷ words) rs
    finishes : {k : List ℕ} {b : ℕ} {words : List ℕ} {rs : List R} → F.fits k b ≡ true → complete F (k ++ (b ∷ [])) ≡ true
        → Line [] words rs
        → Line k (b ∷ words) (F.decode (k ++ (b ∷ [])) ∷ rs)

  -- behind words that are lost
  pub record Rest (words : List ℕ) (rs : List R) : Type 0 where
    pub going : List ℕ
    pub left : List R
    pub line : Line going words left
    pub among : Sub left rs

  pub skip : {k : List ℕ} {rs : List R} (lost words : List ℕ) → Line k (lost ++ words) rs → Rest words rs
  skip {k} {rs} [] words l = record { going = k; left = rs; line = l; among = sub_all rs }
  skip {k = k} {rs = rs} (w ∷ lost) words (pauses l) = skip {k = k} {rs = rs} lost words l
  skip {k = k} {rs = rs} (w ∷ lost) words (breaks l) = skip {k = []} {rs = rs} lost words l
  skip {k = k} {rs = rs} (w ∷ lost) words (goes_on h c l) = skip {k = k ++ (w ∷ [])} {rs = rs} lost words l
  skip {k = k} (w ∷ lost) words (finishes {rs = rs} h c l) =
      let x = skip {k = []} {rs = rs} lost words l in
      record { going = x.going; left = x.left; line = x.line; among = gone x.among }

-- the words of passages are such a line
module _ {R : Type 0} (F : Frame R) (L : Laws F) where
  rest_line : (a : ℕ) (k : List ℕ) (b : ℕ) (bs : List ℕ) {ws : List ℕ} {rs : List R} → Fits F (a ∷ k) (b ∷ bs) → suc (suc (length k + length bs)) ≡ F.size a
      → Line F [] ws rs
      → Line F (a ∷ k) (b ∷ bs ++ ws) (F.decode (a ∷ k ++ (b ∷ bs)) ∷ rs)
  rest_line a k b [] f e l = finishes f.0 (eq-eqb (suc (length (k ++ (b ∷ [])))) (F.size a) (omega (arith, length-append k (b ∷ [])))) l
  rest_line a k b (c ∷ cs) f e l =
      rw (← append_snoc k b (c ∷ cs))
      (goes_on f.0 (ne_eqb (suc (length (k ++ (b ∷ [])))) (F.size a) (λ x. omega (arith, length-append k (b ∷ []))))
      (rest_line a (k ++ (b ∷ [])) c cs f.1 (omega (arith, length-append k (b ∷ []))) l))

  whole_line : (bs : List ℕ) {ws : List ℕ} {rs : List R} → Whole F bs → Line F [] ws rs → Line F [] (bs ++ ws) (F.decode bs ∷ rs)
  whole_line [] w l = absurd w.1
  whole_line (b ∷ []) w l = absurd (omega (arith, L.long b w.0.0, w.1))
  whole_line (b ∷ c ∷ cs) w l =
      let two = L.long b w.0.0 in
      goes_on w.0.0 (ne_eqb 1 (F.size b) (λ x. omega arith)) (rest_line b [] c cs w.0.1 (omega (arith, w.1)) l)

  part_more : (a : ℕ) (k bs : List ℕ) {ws : List ℕ} {rs : List R} → Fits F (a ∷ k) bs → suc (length k + length bs) < F.size a
      → ((k : List ℕ) → Line F k ws rs)
      → Line F (a ∷ k) (bs ++ ws) rs
  part_more a k [] f e l = l (a ∷ k)
  part_more a k (b ∷ bs) f e l =
      goes_on f.0 (ne_eqb (suc (length (k ++ (b ∷ [])))) (F.size a) (λ x. omega (arith, length-append k (b ∷ []))))
      (part_more a (k ++ (b ∷ [])) bs f.1 (omega (arith, length-append k (b ∷ []))) l)

  part_line : (bs : List ℕ) {ws : List ℕ} {rs : List R} → Part F bs → ((k : List ℕ) → Line F k ws rs) → Line F [] (bs ++ ws) rs
  part_line [] p l = l []
  part_line (b ∷ bs) p l =
      let two = L.long b p.0.0 in
      goes_on p.0.0 (ne_eqb 1 (F.size b) (λ x. omega arith)) (part_more b [] bs p.0.1 (omega (arith, p.1)) l)

  module _ {K : Type 0} (bytes : K → List ℕ) where
    pub line_of_lem : (l : List (Passage K)) (g : UnderWay K) → Sound bytes (Framed F bytes) l → SoundPart bytes (Framed F bytes) g
        → Line F [] (passage_words bytes l ++ part_words bytes g) (finished_by (decoded F bytes) l)
    line_of_lem [] nothing s e = ends
    line_of_lem [] (first n k) s e = rw append-nil at (part_line (take n (bytes k)) {ws = []} (part_of F (bytes k) n e.0 e.1) (λ k. ends))
    line_of_lem (silent ∷ l) g s e = pauses (line_of_lem l g s.1 e)
    line_of_lem (finished k ∷ l) g s e = rw append_assoc (whole_line (bytes k) s.0 (line_of_lem l g s.1 e))
    line_of_lem (broken n k ∷ l) g s e =
        let rest = line_of_lem l g s.1 e in
        rw (append_assoc (take n (bytes k) ++ (break ∷ [])), append_assoc (take n (bytes k)))
        (part_line (take n (bytes k)) (part_of F (bytes k) n s.0.0 s.0.1) (λ k. breaks rest))

module _ {R : Type 0} (F : Frame R) (L : Laws F) (M : F.marked ≡ true → Marked F) where
  -- a reader beside a line on which the bytes k of a report have gone: it has just these, or is as a break leaves it
  pub data Beside : State → List ℕ → Type 0 where
    in_step : {k : List ℕ} → Beside (has k) k
    out : {k : List ℕ} → Beside (fresh F) k

  -- a byte that fits, in step; and a break
  takes : (k : List ℕ) (b : ℕ) → F.fits k b ≡ true → step F (has k) b ≡ keep F (k ++ (b ∷ []))
  unfolding move_of
  takes k b h = let l : b < 256 = L.byte k b h in rw (ne_eqb b 257 (λ e. omega arith), ne_eqb b 256 (λ e. omega arith), h)

  broken_off : (s : State) → step F s break ≡ (fresh F, drops (length (kept s)))
  unfolding move_of
  broken_off s = refl

  -- out of step: the byte is dropped, unless it is a first byte of a marked format, where the reader is in step again
  data Meets (k : List ℕ) (b : ℕ) : Type 0 where
    joins : fresh F ≡ has k → Meets k b
    misses : ((ds : List ℕ) → read F (fresh F) (b ∷ ds) ≡ read F (fresh F) ds) → Meets k b

  unmarked_drops : F.marked ≡ false → (b : ℕ) → b < 256 → step F (fresh F) b ≡ (fresh F, drops 1)
  unfolding move_of
  unmarked_drops m b l = rw (ne_eqb b 257 (λ e. omega arith), ne_eqb b 256 (λ e. omega arith), m)

  no_first : F.marked ≡ true → (a : ℕ) (k : List ℕ) (b : ℕ) → F.fits (a ∷ k) b ≡ true → F.fits [] b ≡ false
  no_first m a k b h = go (F.fits [] b) refl
    where
      go : (t : Bool) → F.fits [] b ≡ t → F.fits [] b ≡ false
      go true e = e ∙ (sym h ∙ (M m).first_only a k b e)
      go false e = e

  marked_drops : F.marked ≡ true → (b : ℕ) → b < 256 → F.fits [] b ≡ false → step F (fresh F) b ≡ (fresh F, drops 1)
  unfolding move_of
  marked_drops m b l n = rw (ne_eqb b 257 (λ e. omega arith), ne_eqb b 256 (λ e. omega arith), m, n)

  meets : (k : List ℕ) (b : ℕ) → F.fits k b ≡ true → Meets k b
  meets k b h = go F.marked refl k h
    where
      go : (t : Bool) → F.marked ≡ t → (k : List ℕ) → F.fits k b ≡ true → Meets k b
      go true m [] h = joins (rw m)
      go true m (a ∷ k) h = misses (λ ds. passes F 1 (fresh F) b ds (marked_drops m b (L.byte (a ∷ k) b h) (no_first m a k b h)))
      go false m k h = misses (λ ds. passes F 1 (fresh F) b ds (unmarked_drops m b (L.byte k b h)))

  -- a byte that is not the last of its report, and one that is
  more_in : (k : List ℕ) (b : ℕ) (ds : List ℕ) → F.fits k b ≡ true → complete F (k ++ (b ∷ [])) ≡ false
      → read F (has k) (b ∷ ds) ≡ read F (has (k ++ (b ∷ []))) ds
  more_in k b ds h c = passes F 0 (has k) b ds (takes k b h ∙ rw c)

  last_in : (k : List ℕ) (b : ℕ) (ds : List ℕ) → F.fits k b ≡ true → complete F (k ++ (b ∷ [])) ≡ true
      → read F (has k) (b ∷ ds) ≡ F.decode (k ++ (b ∷ [])) ∷ read F (has []) ds
  last_in k b ds h c =
      let e : step F (has k) b ≡ (has [], report (F.decode (k ++ (b ∷ [])))) = takes k b h ∙ rw c in
      ap reports (on F (has k) b ds e)

  at_more : {s : State} {k : List ℕ} {b : ℕ} {rs : List R} (ds : List ℕ) → F.fits k b ≡ true → complete F (k ++ (b ∷ [])) ≡ false → Beside s k
      → Sub (read F (has (k ++ (b ∷ []))) ds) rs
      → Sub (read F (fresh F) ds) rs
      → Sub (read F s (b ∷ ds)) rs
  at_more {k = k} {b} ds h c in_step i o = rw (more_in k b ds h c) i
  at_more {k = k} {b} {rs} ds h c out i o = go (meets k b h)
    where
      go : Meets k b → Sub (read F (fresh F) (b ∷ ds)) rs
      go (joins e) = rw (e, more_in k b ds h c) i
      go (misses e) = rw (e ds) o

  at_last : {s : State} {k : List ℕ} {b : ℕ} {rs : List R} (ds : List ℕ) → F.fits k b ≡ true → complete F (k ++ (b ∷ [])) ≡ true → Beside s k
      → Sub (read F (has []) ds) rs
      → Sub (read F (fresh F) ds) rs
      → Sub (read F s (b ∷ ds)) (F.decode (k ++ (b ∷ [])) ∷ rs)
  at_last {k = k} {b} ds h c in_step i o = rw (last_in k b ds h c) (stays i)
  at_last {k = k} {b} {rs} ds h c out i o = go (meets k b h)
    where
      go : Meets k b → Sub (read F (fresh F) (b ∷ ds)) (F.decode (k ++ (b ∷ [])) ∷ rs)
      go (joins e) = rw (e, last_in k b ds h c) (stays i)
      go (misses e) = rw (e ds) (gone o)

  -- so that over what is left only finished reports are handed out
  pub follow : {s : State} {k left words : List ℕ} {rs : List R} → Shown F.marked left words → Line F k words rs → Beside s k → Sub (read F s left) rs
  follow whole ends st = none
  follow {s} (damage.stays {left = ds} d) (pauses l) st = rw (passes F (length (kept s)) s silence ds (quiet F s)) (follow {s = has []} d l in_step)
  follow {s} (damage.stays {left = ds} d) (breaks l) st = rw (passes F (length (kept s)) s break ds (broken_off s)) (follow {s = fresh F} d l out)
  follow {s} {k} (damage.stays {left = ds} d) (goes_on {b = b} h c l) st = at_more ds h c st (follow {s = has (k ++ (b ∷ []))} d l in_step) (follow {s = fresh F} d l out)
  follow {s} {k} (damage.stays {left = ds} d) (finishes h c l) st = at_last ds h c st (follow {s = has []} d l in_step) (follow {s = fresh F} d l out)
  follow {s} (unheard d) (pauses l) st = follow {s = s} d l st
  follow {k = k} (unheard d) (goes_on h c l) st = absurd (omega (arith, L.byte k silence h))
  follow {k = k} (unheard d) (finishes h c l) st = absurd (omega (arith, L.byte k silence h))
  follow {s} (scar lost {left = ds} {words} d) l st =
      let x = skip F lost words l in
      rw (passes F (length (kept s)) s break ds (broken_off s)) (sub_then (follow {s = fresh F} d x.line out) x.among)
  follow {s} (comes_in {left = ds} m d) l st =
      let o : fresh F ≡ has [] = rw m in
      rw (passes F (length (kept s)) s silence ds (quiet F s), ← o) (follow {s = fresh F} d l out)
