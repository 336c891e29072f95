-- Laws of damage for any frame and any kind of message: what holds of each word that is left; and, in a marked frame,
-- whatever words a line lost, the reports that a reader hands out tell what the first bytes told of reports that were
-- begun, in order.
use Prim.Native.Nat.{ℕ, zero, suc, ◌<◌}
use mathlib.Core.Path.{◌≡◌, refl, sym, ◌∙◌}
use mathlib.Core.Bool.{Bool, true, false, cond, ◌&&◌}
use mathlib.Core.List.{List, [], ◌∷◌, ◌++◌, append_assoc, append-nil}
use native.Mathlib.Omega.{arith}
use lib.ListN.{length, take}
use lib.Dec.{eqb}
use Rattle.numbers.proofs.Choices.{both}
use Rattle.numbers.proofs.Tested.{left, right, refused, holds}
use Rattle.frames.specs.Words.{break, silence}
use Rattle.frames.specs.Passages.{Passage, silent, finished, broken, UnderWay, nothing, first, begun_by, going_by, Sub, none, gone, passage_words, part_words, Sound, SoundPart}
use Rattle.frames.specs.Passages as passages
use Rattle.frames.specs.Frame.{Frame, State, has, waits, kept, Answer, drops, reports, Move, fit, start, bad, move_of, fresh, complete, keep, act, step, answers, read, Fits, Whole, Framed, Marked}
use Rattle.frames.specs.Frame as frame
use Rattle.frames.specs.Damage.{Shown, Scarred, lost, a_break, a_silence}
use Rattle.frames.specs.Damage as damage
use Rattle.frames.proofs.Sub.{sub_all, sub_none, sub_append, sub_then, sub_take}
use Rattle.frames.proofs.Words.{passing, passing_right}

-- what is left of words that each pass a test passes it, where a break and a silence do
module _ (P : ℕ → Bool) (breaks : P break ≡ true) (pauses : P silence ≡ true) where
  pub shown_passes : {marked : Bool} {rest words : List ℕ} → Shown marked rest words → passing P words ≡ true → passing P rest ≡ true
  unfolding passing
  shown_passes damage.whole h = h
  shown_passes (damage.stays {w} {left = rest} {words = ws} d) h = both (P w) (passing P rest) (left (P w) (passing P ws) h) (shown_passes d (right (P w) (passing P ws) h))
  shown_passes (damage.unheard {words = ws} d) h = shown_passes d (right (P silence) (passing P ws) h)
  shown_passes (damage.scar gone_by {left = rest} {words = ws} d) h = both (P break) (passing P rest) breaks (shown_passes d (passing_right P gone_by ws h))
  shown_passes (damage.comes_in {left = rest} m d) h = both (P silence) (passing P rest) pauses (shown_passes d h)

  pub scarred_passes : {rest words : List ℕ} → Scarred rest words → passing P words ≡ true → passing P rest ≡ true
  unfolding passing
  scarred_passes damage.whole h = h
  scarred_passes (lost {w} {words = ws} d) h = scarred_passes d (right (P w) (passing P ws) h)
  scarred_passes (damage.stays {w} {left = rest} {words = ws} d) h =
      both (P w) (passing P rest) (left (P w) (passing P ws) h) (scarred_passes d (right (P w) (passing P ws) h))
  scarred_passes (a_break {left = rest} d) h = both (P break) (passing P rest) breaks (scarred_passes d h)
  scarred_passes (a_silence {left = rest} d) h = both (P silence) (passing P rest) pauses (scarred_passes d h)

-- what reports tell, one after the other
abbrev pub told_by : {R X : Type 0} → (R → List X) → List R → List X
told_by told [] = []
told_by told (r ∷ rs) = told r ++ told_by told rs

-- What reports tell, told already by their first byte: `tell b` is what a first byte b tells, and `told r` what a
-- report tells.
module _ {R X : Type 0} (F : Frame R) (tell : ℕ → List X) (told : R → List X)
    (first_tells : (b : ℕ) (k : List ℕ) → told (F.decode (b ∷ k)) ≡ tell b) where
  abbrev first_of : ℕ → List X
  first_of w = cond (F.fits [] w) (tell w) []

  abbrev firsts : List ℕ → List X
  firsts [] = []
  firsts (w ∷ words) = first_of w ++ firsts words

  abbrev pub kept_first : State → List X
  kept_first (has []) = []
  kept_first (has (b ∷ k)) = tell b
  kept_first waits = []

  firsts_append : (a b : List ℕ) → firsts (a ++ b) ≡ firsts a ++ firsts b
  firsts_append [] b = refl
  firsts_append (w ∷ a) b = rw (firsts_append a b, append_assoc (first_of w))

  firsts_sub : {a b : List ℕ} → Sub a b → Sub (firsts a) (firsts b)
  firsts_sub none = none
  firsts_sub (gone {a = b} d) = sub_append (sub_none (first_of b)) (firsts_sub d)
  firsts_sub (passages.stays {a = b} d) = sub_append (sub_all (first_of b)) (firsts_sub d)

  -- what a move is made for
  abbrev MoveRight : Move → State → ℕ → Type 0
  MoveRight fit (has k) w = F.fits k w ≡ true
  MoveRight fit waits w = ⊥
  MoveRight start s w = F.fits [] w ≡ true
  MoveRight bad s w = Unit {0}
  MoveRight frame.break s w = Unit {0}
  MoveRight frame.silence s w = Unit {0}

  move_right : (s : State) (w : ℕ) → MoveRight (move_of F s w) s w
  unfolding move_of
  move_right s w = go (eqb w 257) refl (eqb w 256) refl (frame.in_place F s w) refl (F.marked && F.fits [] w) refl
    where
      fits_now : (s : State) → frame.in_place F s w ≡ true → MoveRight fit s w
      fits_now (has k) e = e
      fits_now waits e = holds e

      go : (t : Bool) → eqb w 257 ≡ t → (u : Bool) → eqb w 256 ≡ u → (v : Bool) → frame.in_place F s w ≡ v → (x : Bool) → (F.marked && F.fits [] w) ≡ x
          → MoveRight (move_of F s w) s w
      go true e u q v r x y = rw e tt
      go false e true q v r x y = rw (e, q) tt
      go false e false q true r x y = rw (e, q, r) (fits_now s r)
      go false e false q false r true y = rw (e, q, r, y) (right F.marked (F.fits [] w) y)
      go false e false q false r false y = rw (e, q, r, y) tt

  fresh_none : kept_first (fresh F) ≡ []
  fresh_none = go F.marked
    where
      go : (t : Bool) → kept_first (cond t (has []) waits) ≡ []
      go true = refl
      go false = refl

  drops_none : (n : ℕ) (l : List (Answer R)) → reports (drops n ∷ l) ≡ reports l
  drops_none zero l = refl
  drops_none (suc n) l = refl

  nothing_handed : (s : State) (w : ℕ) (l : List (Answer R)) (z : List X) → Sub (told_by told (reports l)) z → Sub (told_by told (reports l)) (kept_first s ++ (first_of w ++ z))
  nothing_handed s w l z h = sub_append (sub_none (kept_first s)) (sub_append (sub_none (first_of w)) h)

  act_sub : (m : Move) (s : State) (w : ℕ) (l : List (Answer R)) (z : List X) → MoveRight m s w
      → Sub (told_by told (reports l)) (kept_first (act F m (kept s) w).0 ++ z)
      → Sub (told_by told (reports ((act F m (kept s) w).1 ∷ l))) (kept_first s ++ (first_of w ++ z))
  act_sub fit (has []) w l z r h = go (complete F (w ∷ [])) refl h
    where
      go : (t : Bool) → complete F (w ∷ []) ≡ t → Sub (told_by told (reports l)) (kept_first (keep F (w ∷ [])).0 ++ z)
          → Sub (told_by told (reports ((keep F (w ∷ [])).1 ∷ l))) (first_of w ++ z)
      go true e h = rw (e, r, first_tells w []) (sub_append (sub_all (tell w)) (rw e at h))
      go false e h = rw (e, r) (rw e at h)
  act_sub fit (has (b ∷ k)) w l z r h = go (complete F (b ∷ k ++ (w ∷ []))) refl h
    where
      go : (t : Bool) → complete F (b ∷ k ++ (w ∷ [])) ≡ t → Sub (told_by told (reports l)) (kept_first (keep F (b ∷ k ++ (w ∷ []))).0 ++ z)
          → Sub (told_by told (reports ((keep F (b ∷ k ++ (w ∷ []))).1 ∷ l))) (tell b ++ (first_of w ++ z))
      go true e h = rw (e, first_tells b (k ++ (w ∷ []))) (sub_append (sub_all (tell b)) (sub_append (sub_none (first_of w)) (rw e at h)))
      go false e h = rw e (sub_then (rw e at h) (sub_append (sub_all (tell b)) (sub_append (sub_none (first_of w)) (sub_all z))))
  act_sub fit waits w l z r h = absurd r
  act_sub start s w l z r h = rw (drops_none (length (kept s)) l, r) (sub_append (sub_none (kept_first s)) h)
  act_sub bad s w l z r h = nothing_handed s w l z (rw fresh_none at h)
  act_sub frame.break s w l z r h = rw (drops_none (length (kept s)) l) (nothing_handed s w l z (rw fresh_none at h))
  act_sub frame.silence s w l z r h = rw (drops_none (length (kept s)) l) (nothing_handed s w l z h)

  -- what a reader hands out tells no more than the first bytes among the words
  read_sub : (s : State) (words : List ℕ) → Sub (told_by told (read F s words)) (kept_first s ++ firsts words)
  read_sub s [] = sub_none (kept_first s ++ [])
  read_sub s (w ∷ words) = act_sub (move_of F s w) s w (answers F (step F s w).0 words) (firsts words) (move_right s w) (read_sub (step F s w).0 words)

  module _ (M : Marked F) where
    -- 256 and 257 are no first bytes, and a scarred line has no other first bytes
    no_first : (w : ℕ) → (w < 256 → ⊥) → first_of w ≡ []
    no_first w n = rw (refused (F.fits [] w) (λ e. n (M.laws.byte [] w e)))

    scarred_firsts : {rest words : List ℕ} → Scarred rest words → Sub (firsts rest) (firsts words)
    scarred_firsts damage.whole = none
    scarred_firsts (lost {w} d) = sub_append (sub_none (first_of w)) (scarred_firsts d)
    scarred_firsts (damage.stays {w} d) = sub_append (sub_all (first_of w)) (scarred_firsts d)
    scarred_firsts (a_break d) = rw (no_first break (λ l. omega arith)) (scarred_firsts d)
    scarred_firsts (a_silence d) = rw (no_first silence (λ l. omega arith)) (scarred_firsts d)

    -- of a report only the first byte is one
    laters_none : (a : ℕ) (k bs : List ℕ) → Fits F (a ∷ k) bs → firsts bs ≡ []
    laters_none a k [] h = refl
    laters_none a k (b ∷ bs) h =
        rw (refused (F.fits [] b) (λ e. no_both (sym h.0 ∙ M.first_only a k b e))) (laters_none a (k ++ (b ∷ [])) bs h.1)
      where
        no_both : true ≡ false → ⊥
        no_both e = holds (sym e)

    whole_firsts : (bs : List ℕ) → Whole F bs → firsts bs ≡ told (F.decode bs)
    whole_firsts [] h = absurd h.1
    whole_firsts (b ∷ bs) h = rw (h.0.0, laters_none b [] bs h.0.1, append-nil, first_tells b bs)

    -- lines of messages that pass a test, and are then whole reports that tell this
    module _ {K : Type 0} (bytes : K → List ℕ) (Test : K → Type 0) (tells : K → List X) (framed : (k : K) → Test k → Framed F bytes k)
        (same : (k : K) → Test k → told (F.decode (bytes k)) ≡ tells k) where
      message_firsts : (k : K) → Test k → Sub (firsts (bytes k)) (tells k)
      message_firsts k h = rw (whole_firsts (bytes k) (framed k h) ∙ same k h) (sub_all (tells k))

      part_firsts : (n : ℕ) (k : K) → Test k → Sub (firsts (take n (bytes k))) (tells k)
      part_firsts n k h = sub_then (firsts_sub (sub_take n (bytes k))) (message_firsts k h)

      line_firsts : (l : List (Passage K)) (g : UnderWay K) → Sound bytes Test l → SoundPart bytes Test g
          → Sub (firsts (passage_words bytes l ++ part_words bytes g)) (begun_by tells l ++ going_by tells g)
      line_firsts [] nothing s e = none
      line_firsts [] (first n k) s e = part_firsts n k e.0
      line_firsts (silent ∷ l) g s e = rw (no_first silence (λ l. omega arith)) (line_firsts l g s.1 e)
      line_firsts (finished k ∷ l) g s e =
          rw (append_assoc (bytes k), firsts_append (bytes k), append_assoc (tells k)) (sub_append (message_firsts k s.0) (line_firsts l g s.1 e))
      line_firsts (broken n k ∷ l) g s e =
          rw (
            append_assoc (take n (bytes k) ++ (break ∷ [])),
            append_assoc (take n (bytes k)),
            firsts_append (take n (bytes k)),
            append_assoc (tells k),
            no_first break (λ l. omega arith),
          )
          (sub_append (part_firsts n k s.0.0) (line_firsts l g s.1 e))

      -- so a reader with no first byte kept, over whatever is left of the line
      pub scarred_tells : (l : List (Passage K)) (g : UnderWay K) → Sound bytes Test l → SoundPart bytes Test g → {rest : List ℕ}
          → Scarred rest (passage_words bytes l ++ part_words bytes g)
          → (st : State) → kept_first st ≡ []
          → Sub (told_by told (read F st rest)) (begun_by tells l ++ going_by tells g)
      scarred_tells l g s e {rest} d st none_kept = sub_then (rw none_kept at (read_sub st rest)) (sub_then (scarred_firsts d) (line_firsts l g s e))
