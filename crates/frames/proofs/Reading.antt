-- What a reader makes of words one after the other, and of a whole report when it has no bytes.
use mathlib.Core.Path.{◌≡◌, refl, ap, ◌∙◌}
use mathlib.Core.List.{List, [], ◌∷◌, ◌++◌, append_assoc}
use mathlib.Core.Bool.{true}
use Prim.Native.Nat.{ℕ, zero, suc, ◌+◌, ◌≤◌, ◌<◌}
use native.Mathlib.Omega.{arith}
use lib.ListN.{length, take, length-append, length-take, replicate}
use lib.Seq.{append_snoc}
use borrow.Author.Tests.{eq-eqb, ne_eqb}
use Rattle.frames.specs.Words as words
use Rattle.frames.specs.Passages.{Passage, silent, finished, broken, UnderWay, nothing, first, Unbroken, finished_by, passage_words, part_words, Sound, SoundPart}
use Rattle.frames.specs.Frame.{Frame, State, has, kept, Answer, report, dropped, drops, reports, fit, move_of, step, answers, after, read, Fits, Full, Short, Whole, Part, Framed, decoded, Laws}
use Rattle.frames.specs.Frame as frame

-- reports among answers
module _ {R : Type 0} where
  reports_append : (u v : List (Answer R)) → reports (u ++ v) ≡ reports u ++ reports v
  reports_append [] v = refl
  reports_append (frame.nothing ∷ u) v = reports_append u v
  reports_append (report r ∷ u) v = ap (λ (l : List R). r ∷ l) (reports_append u v)
  reports_append (dropped n ∷ u) v = reports_append u v

  reports_drops : (n : ℕ) (l : List (Answer R)) → reports (drops n ∷ l) ≡ reports l
  reports_drops zero l = refl
  reports_drops (suc n) l = refl

  pub reports_one : (n m : ℕ) (r : R) (l : List (Answer R)) → reports (drops n ∷ (replicate m frame.nothing ++ (report r ∷ l))) ≡ r ∷ reports l
  reports_one n zero r l = reports_drops n (report r ∷ l)
  reports_one n (suc m) r l = reports_drops n (frame.nothing ∷ (replicate m frame.nothing ++ (report r ∷ l))) ∙ reports_one 0 m r l

-- words and more words
module _ {R : Type 0} (F : Frame R) where
  pub answers_append : (s : State) (u v : List ℕ) → answers F s (u ++ v) ≡ answers F s u ++ answers F (after F s u) v
  answers_append s [] v = refl
  answers_append s (w ∷ u) v = ap (λ (l : List (Answer R)). (step F s w).1 ∷ l) (answers_append (step F s w).0 u v)

  pub after_append : (s : State) (u v : List ℕ) → after F s (u ++ v) ≡ after F (after F s u) v
  after_append s [] v = refl
  after_append s (w ∷ u) v = after_append (step F s w).0 u v

  pub length_answers : (s : State) (u : List ℕ) → length (answers F s u) ≡ length u
  length_answers s [] = refl
  length_answers s (w ∷ u) = ap suc (length_answers (step F s w).0 u)

  pub read_append : (s : State) (u v : List ℕ) → read F s (u ++ v) ≡ read F s u ++ read F (after F s u) v
  read_append s u v = rw (answers_append s u v, reports_append (answers F s u))

  -- a word whose step is known, and one that hands out nothing
  pub on : (s : State) (w : ℕ) (ws : List ℕ) {t : State} {a : Answer R} → step F s w ≡ (t, a) → answers F s (w ∷ ws) ≡ a ∷ answers F t ws
  on s w ws e = ap (λ (x : State × Answer R). x.1 ∷ answers F x.0 ws) e

  pub passes : (n : ℕ) (s : State) (w : ℕ) (ws : List ℕ) {t : State} → step F s w ≡ (t, drops n) → read F s (w ∷ ws) ≡ read F t ws
  passes n s w ws {t} e = ap reports (on s w ws e) ∙ reports_drops n (answers F t ws)

  -- after a silence nothing is kept
  pub quiet : (s : State) → step F s words.silence ≡ (has [], drops (length (kept s)))
  unfolding move_of
  quiet s = refl

  -- the first bytes of a whole report
  fits_take : (k bytes : List ℕ) (n : ℕ) → Fits F k bytes → Fits F k (take n bytes)
  fits_take k bytes zero f = tt
  fits_take k [] (suc n) f = tt
  fits_take k (b ∷ bytes) (suc n) f = (f.0, fits_take (k ++ (b ∷ [])) bytes n f.1)

  short_take : (bytes : List ℕ) (n : ℕ) → Full F bytes → n < length bytes → Short F (take n bytes)
  short_take bytes zero f l = tt
  short_take [] (suc n) f l = absurd f
  short_take (b ∷ bytes) (suc n) f l = omega (arith, f, length-take n bytes)

  pub part_of : (bytes : List ℕ) (n : ℕ) → Whole F bytes → n < length bytes → Part F (take n bytes)
  part_of bytes n w l = (fits_take [] bytes n w.0, short_take bytes n w.1 l)

module _ {R : Type 0} (F : Frame R) (L : Laws F) where
  move_fit : (k : List ℕ) (b : ℕ) → F.fits k b ≡ true → move_of F (has k) b ≡ fit
  unfolding move_of
  move_fit k b h = let l : b < 256 = L.byte k b h in rw (ne_eqb b 257 (λ e. omega arith), ne_eqb b 256 (λ e. omega arith), h)

  -- a first byte, one that fits and is not the last, and the last
  pub starting : (b : ℕ) → F.fits [] b ≡ true → step F (has []) b ≡ (has (b ∷ []), frame.nothing)
  starting b h = let l : 2 ≤ F.size b = L.long b h in rw (move_fit [] b h, ne_eqb 1 (F.size b) (λ e. omega arith))

  pub more : (a : ℕ) (k : List ℕ) (b : ℕ) → F.fits (a ∷ k) b ≡ true → suc (suc (length k)) < F.size a → step F (has (a ∷ k)) b ≡ (has (a ∷ k ++ (b ∷ [])), frame.nothing)
  more a k b h l = rw (move_fit (a ∷ k) b h, ne_eqb (suc (length (k ++ (b ∷ [])))) (F.size a) (λ e. omega (arith, length-append k (b ∷ []))))

  last : (a : ℕ) (k : List ℕ) (b : ℕ) → F.fits (a ∷ k) b ≡ true → suc (suc (length k)) ≡ F.size a → step F (has (a ∷ k)) b ≡ (has [], report (F.decode (a ∷ k ++ (b ∷ []))))
  last a k b h l = rw (move_fit (a ∷ k) b h, eq-eqb (suc (length (k ++ (b ∷ [])))) (F.size a) (omega (arith, length-append k (b ∷ []))))

  -- the later bytes of a report: the answers to them, and the reader after them
  pub rest : (a : ℕ) (k : List ℕ) (b : ℕ) (bs ws : List ℕ) → Fits F (a ∷ k) (b ∷ bs) → suc (suc (length k + length bs)) ≡ F.size a
      → answers F (has (a ∷ k)) (b ∷ bs ++ ws) ≡ replicate (length bs) frame.nothing ++ (report (F.decode (a ∷ k ++ (b ∷ bs))) ∷ answers F (has []) ws)
  rest a k b [] ws f l = on F (has (a ∷ k)) b ws (last a k b f.0 (omega arith))
  rest a k b (c ∷ cs) ws f l =
      on F (has (a ∷ k)) b (c ∷ cs ++ ws) (more a k b f.0 (omega arith))
      ∙ ap (λ (l : List (Answer R)). frame.nothing ∷ l)
      (rw (← append_snoc k b (c ∷ cs)) (rest a (k ++ (b ∷ [])) c cs ws f.1 (omega (arith, length-append k (b ∷ [])))))

  rest_after : (a : ℕ) (k : List ℕ) (b : ℕ) (bs : List ℕ) → Fits F (a ∷ k) (b ∷ bs) → suc (suc (length k + length bs)) ≡ F.size a → after F (has (a ∷ k)) (b ∷ bs) ≡ has []
  rest_after a k b [] f l = ap (λ (x : State × Answer R). x.0) (last a k b f.0 (omega arith))
  rest_after a k b (c ∷ cs) f l =
      ap (λ (x : State × Answer R). after F x.0 (c ∷ cs)) (more a k b f.0 (omega arith))
      ∙ rest_after a (k ++ (b ∷ [])) c cs f.1 (omega (arith, length-append k (b ∷ [])))

  -- a whole report, read by a reader with nothing kept
  pub ready_reads : (b c : ℕ) (cs ws : List ℕ) → Fits F [] (b ∷ c ∷ cs) → Full F (b ∷ c ∷ cs)
      → answers F (has []) (b ∷ c ∷ cs ++ ws) ≡ frame.nothing ∷ (replicate (length cs) frame.nothing ++ (report (F.decode (b ∷ c ∷ cs)) ∷ answers F (has []) ws))
  ready_reads b c cs ws p f =
      on F (has []) b (c ∷ cs ++ ws) (starting b p.0) ∙ ap (λ (l : List (Answer R)). frame.nothing ∷ l) (rest b [] c cs ws p.1 (omega (arith, f)))

  -- the first bytes of one hand out nothing
  part_more : (a : ℕ) (k bs : List ℕ) → Fits F (a ∷ k) bs → suc (length k + length bs) < F.size a → read F (has (a ∷ k)) bs ≡ []
  part_more a k [] f l = refl
  part_more a k (b ∷ bs) f l =
      passes F 0 (has (a ∷ k)) b bs (more a k b f.0 (omega arith)) ∙ part_more a (k ++ (b ∷ [])) bs f.1 (omega (arith, length-append k (b ∷ [])))

  part_ready : (bs : List ℕ) → Part F bs → read F (has []) bs ≡ []
  part_ready [] p = refl
  part_ready (b ∷ bs) p = passes F 0 (has []) b bs (starting b p.0.0) ∙ part_more b [] bs p.0.1 (omega (arith, p.1))

  whole_ready : (bs ws : List ℕ) → Whole F bs → read F (has []) (bs ++ ws) ≡ F.decode bs ∷ read F (has []) ws
  whole_ready [] ws w = absurd w.1
  whole_ready (b ∷ []) ws w = absurd (omega (arith, L.long b w.0.0, w.1))
  whole_ready (b ∷ c ∷ cs) ws w = ap reports (ready_reads b c cs ws w.0 w.1) ∙ reports_one 0 (length cs) (F.decode (b ∷ c ∷ cs)) (answers F (has []) ws)

  -- which then has nothing kept again
  whole_after : (bytes : List ℕ) → Whole F bytes → after F (has []) bytes ≡ has []
  whole_after [] w = absurd w.1
  whole_after (b ∷ []) w = absurd (omega (arith, L.long b w.0.0, w.1))
  whole_after (b ∷ c ∷ cs) w = rw (starting b w.0.0) (rest_after b [] c cs w.0.1 (omega (arith, w.1)))

  -- and so it has after silences and finished reports
  module _ {K : Type 0} (bytes : K → List ℕ) where
    pub calm_after : (l : List (Passage K)) → Sound bytes (Framed F bytes) l → Unbroken l → after F (has []) (passage_words bytes l) ≡ has []
    calm_after [] s h = refl
    calm_after (silent ∷ l) s h = rw (quiet F (has [])) (calm_after l s.1 h)
    calm_after (finished k ∷ l) s h = rw (after_append F (has []) (bytes k) (passage_words bytes l), whole_after (bytes k) s.0) (calm_after l s.1 h)
    calm_after (broken n k ∷ l) s h = absurd h

    pub after_silence : (s : State) (l : List (Passage K)) → Sound bytes (Framed F bytes) l → Unbroken l
        → after F s (words.silence ∷ passage_words bytes l) ≡ has []
    after_silence s l d h = ap (λ (x : State × Answer R). after F x.0 (passage_words bytes l)) (quiet F s) ∙ calm_after l d h

    -- so that of an unbroken line exactly the finished reports are handed out
    pub calm_read : (l : List (Passage K)) (g : UnderWay K) → Sound bytes (Framed F bytes) l → Unbroken l → SoundPart bytes (Framed F bytes) g
        → read F (has []) (passage_words bytes l ++ part_words bytes g) ≡ finished_by (decoded F bytes) l
    calm_read [] nothing s h p = refl
    calm_read [] (first n k) s h p = part_ready (take n (bytes k)) (part_of F (bytes k) n p.0 p.1)
    calm_read (silent ∷ l) g s h p = passes F 0 (has []) words.silence (passage_words bytes l ++ part_words bytes g) (quiet F (has [])) ∙ calm_read l g s.1 h p
    calm_read (finished k ∷ l) g s h p =
        rw append_assoc
        (whole_ready (bytes k) (passage_words bytes l ++ part_words bytes g) s.0 ∙ ap (λ (r : List R). F.decode (bytes k) ∷ r) (calm_read l g s.1 h p))
    calm_read (broken n k ∷ l) g s h p = absurd h
