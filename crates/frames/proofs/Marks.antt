-- In a marked format, whatever came before, the finished reports of a line are handed out and no others.
use mathlib.Core.Path.{◌≡◌, refl, sym, ap, ◌∙◌}
use mathlib.Core.List.{List, [], ◌∷◌, ◌++◌, append_assoc, append-nil}
use mathlib.Core.Bool.{Bool, true, false}
use Prim.Native.Nat.{ℕ, suc, ◌+◌, ◌<◌}
use native.Mathlib.Omega.{arith}
use lib.ListN.{length, take, length-append, replicate}
use borrow.Author.Tests.{ne_eqb}
use Rattle.frames.specs.Words as words
use Rattle.frames.specs.Passages.{Passage, silent, finished, broken, UnderWay, nothing, first, Sub, none, gone, stays, finished_in, finished_by, words_of, passage_words, part_words, SoundOf, Sound, SoundPart}
use Rattle.frames.specs.Frame.{Frame, State, has, waits, kept, Answer, report, dropped, drops, reports, move_of, step, answers, after, read, Fits, Full, Whole, Part, Framed, decoded, Marked}
use Rattle.frames.specs.Frame as frame
use Rattle.frames.proofs.Reading.{reports_one, read_append, on, passes, quiet, starting, more, rest, part_of}

module _ {R : Type 0} (F : Frame R) (M : Marked F) where
  -- a first byte starts a report anywhere
  starts : (s : State) (b : ℕ) → F.fits [] b ≡ true → step F s b ≡ (has (b ∷ []), drops (length (kept s)))
  unfolding move_of
  starts (has []) b h = starting F M.laws b h
  starts (has (a ∷ k)) b h =
      let l : b < 256 = M.laws.byte [] b h in rw (ne_eqb b 257 (λ e. omega arith), ne_eqb b 256 (λ e. omega arith), M.first_only a k b h, M.is, h)
  starts waits b h =
      let l : b < 256 = M.laws.byte [] b h in rw (ne_eqb b 257 (λ e. omega arith), ne_eqb b 256 (λ e. omega arith), M.is, h)

  -- so that a whole report is read in any state
  pub any_reads : (s : State) (b c : ℕ) (cs ws : List ℕ) → Fits F [] (b ∷ c ∷ cs) → Full F (b ∷ c ∷ cs)
      → answers F s (b ∷ c ∷ cs ++ ws) ≡ drops (length (kept s)) ∷ (replicate (length cs) frame.nothing ++ (report (F.decode (b ∷ c ∷ cs)) ∷ answers F (has []) ws))
  any_reads s b c cs ws p f =
      on F s b (c ∷ cs ++ ws) (starts s b p.0)
      ∙ ap (λ (l : List (Answer R)). drops (length (kept s)) ∷ l) (rest F M.laws b [] c cs ws p.1 (omega (arith, f)))

  -- a later byte is no first byte
  later : (a : ℕ) (k : List ℕ) (b : ℕ) → F.fits (a ∷ k) b ≡ true → F.fits [] b ≡ false
  later a k b h = go (F.fits [] b) refl
    where
      go : (t : Bool) → F.fits [] b ≡ t → F.fits [] b ≡ false
      go true e = e ∙ (sym h ∙ M.first_only a k b e)
      go false e = e

  -- a byte that no rule takes, and a break
  loses : (k : List ℕ) (b : ℕ) → b < 256 → F.fits k b ≡ false → F.fits [] b ≡ false → step F (has k) b ≡ (has [], dropped (suc (length k)))
  unfolding move_of
  loses k b l h f = rw (ne_eqb b 257 (λ e. omega arith), ne_eqb b 256 (λ e. omega arith), h, f, M.is)

  breaks : (s : State) → step F s words.break ≡ (has [], drops (length (kept s)))
  unfolding move_of
  breaks s = rw M.is

  -- bytes that begin no report, too few behind those kept to end one, hand out nothing
  abbrev Laters : List ℕ → Type 0
  Laters [] = Unit {0}
  Laters (b ∷ l) = (b < 256) × (F.fits [] b ≡ false) × Laters l

  abbrev Few : List ℕ → List ℕ → Type 0
  Few [] l = Unit {0}
  Few (a ∷ k) l = suc (length k + length l) < F.size a

  scraps : (k l : List ℕ) → Laters l → Few k l → read F (has k) l ≡ []
  scraps k [] h r = refl
  scraps [] (b ∷ l) h r = passes F 1 (has []) b l (loses [] b h.0 h.1 h.1) ∙ scraps [] l h.2 tt
  scraps (a ∷ k) (b ∷ l) h r = go (F.fits (a ∷ k) b) refl (scraps (a ∷ k ++ (b ∷ [])) l h.2) (scraps [] l h.2 tt)
    where
      go : (t : Bool) → F.fits (a ∷ k) b ≡ t → (Few (a ∷ k ++ (b ∷ [])) l → read F (has (a ∷ k ++ (b ∷ []))) l ≡ []) → read F (has []) l ≡ []
          → read F (has (a ∷ k)) (b ∷ l) ≡ []
      go true e f g = passes F 0 (has (a ∷ k)) b l (more F M.laws a k b e (omega arith)) ∙ f (omega (arith, length-append k (b ∷ [])))
      go false e f g = passes F (suc (suc (length k))) (has (a ∷ k)) b l (loses (a ∷ k) b h.0 e h.1) ∙ g

  laters : (a : ℕ) (k bs : List ℕ) → Fits F (a ∷ k) bs → Laters bs
  laters a k [] f = tt
  laters a k (b ∷ bs) f = (M.laws.byte (a ∷ k) b f.0, later a k b f.0, laters a (k ++ (b ∷ [])) bs f.1)

  laters_left : {l bs : List ℕ} → Sub l bs → Laters bs → Laters l
  laters_left none h = tt
  laters_left (gone d) h = laters_left d h.2
  laters_left (stays d) h = (h.0, h.1, laters_left d h.2)

  -- the first bytes of a report, read in any state
  part_read : (s : State) (bs : List ℕ) → Part F bs → read F s bs ≡ []
  part_read s [] p = refl
  part_read s (b ∷ bs) p = passes F (length (kept s)) s b bs (starts s b p.0.0) ∙ scraps (b ∷ []) bs (laters b [] bs p.0.1) (omega (arith, p.1))

  -- what is left of a report that lost a byte
  pub damaged : (b : ℕ) (bs l : List ℕ) → Sub l (b ∷ bs) → Fits F [] (b ∷ bs) → length l < F.size b → read F (has []) l ≡ []
  damaged b bs l (gone d) f h = scraps [] l (laters_left d (laters b [] bs f.1)) tt
  damaged b bs (c ∷ l) (stays d) f h =
      passes F 0 (has []) b l (starts (has []) b f.0) ∙ scraps (b ∷ []) l (laters_left d (laters b [] bs f.1)) (omega arith)

  -- a whole report, read in any state
  whole_read : (s : State) (bytes ws : List ℕ) → Whole F bytes → read F s (bytes ++ ws) ≡ F.decode bytes ∷ read F (has []) ws
  whole_read s [] ws w = absurd w.1
  whole_read s (b ∷ []) ws w = absurd (omega (arith, M.laws.long b w.0.0, w.1))
  whole_read s (b ∷ c ∷ cs) ws w =
      ap reports (any_reads s b c cs ws w.0 w.1) ∙ reports_one (length (kept s)) (length cs) (F.decode (b ∷ c ∷ cs)) (answers F (has []) ws)

  -- lines of which each report is one of the frame
  module _ {K : Type 0} (bytes : K → List ℕ) where
    part_sound : (g : UnderWay K) → SoundPart bytes (Framed F bytes) g → Part F (part_words bytes g)
    part_sound nothing g = (tt, tt)
    part_sound (first n k) g = part_of F (bytes k) n g.0 g.1

    -- a passage, read in any state
    passage : (s : State) (p : Passage K) (ws : List ℕ) → SoundOf bytes (Framed F bytes) p → read F s (words_of bytes p ++ ws) ≡ finished_in (decoded F bytes) p ++ read F (has []) ws
    passage s silent ws d = passes F (length (kept s)) s words.silence ws (quiet F s)
    passage s (finished k) ws d = whole_read s (bytes k) ws d
    passage s (broken n k) ws d =
        let bs = take n (bytes k) in
        rw (append_assoc, read_append F s bs, part_read s bs (part_of F (bytes k) n d.0 d.1))
        (passes F (length (kept (after F s bs))) (after F s bs) words.break ws (breaks (after F s bs)))

    -- a line, by a reader that has nothing kept, whatever follows
    pub synced : (l : List (Passage K)) (ws : List ℕ) → Sound bytes (Framed F bytes) l → read F (has []) (passage_words bytes l ++ ws) ≡ finished_by (decoded F bytes) l ++ read F (has []) ws
    synced [] ws d = refl
    synced (p ∷ l) ws d =
        rw (append_assoc (words_of bytes p), append_assoc (finished_in (decoded F bytes) p))
        (passage (has []) p (passage_words bytes l ++ ws) d.0 ∙ ap (λ (r : List R). finished_in (decoded F bytes) p ++ r) (synced l ws d.1))

    -- THE CENTRAL FACT: from any state the finished reports of a line are handed out, and no others
    pub resync : (s : State) (l : List (Passage K)) (g : UnderWay K) → Sound bytes (Framed F bytes) l → SoundPart bytes (Framed F bytes) g
        → read F s (passage_words bytes l ++ part_words bytes g) ≡ finished_by (decoded F bytes) l
    resync s [] g d h = part_read s (part_words bytes g) (part_sound g h)
    resync s (p ∷ l) g d h =
        rw append_assoc
        (passage s p (passage_words bytes l ++ part_words bytes g) d.0
        ∙ ap (λ (r : List R). finished_in (decoded F bytes) p ++ r)
        (synced l (part_words bytes g) d.1 ∙ rw (part_read (has []) (part_words bytes g) (part_sound g h), append-nil)))

    -- what is left of a report that lost bytes, or of the first bytes of one, hands out nothing
    pub lost_read : (k : K) (left : List ℕ) → Framed F bytes k → Sub left (bytes k) → length left < length (bytes k) → read F (has []) left ≡ []
    lost_read k left w d h = go (bytes k) w d h
      where
        go : (bs : List ℕ) → Whole F bs → Sub left bs → length left < length bs → read F (has []) left ≡ []
        go [] w d h = absurd w.1
        go (b ∷ bs) w d h = damaged b bs left d w.0 (omega (arith, w.1))
