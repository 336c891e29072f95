-- There and back: the bytes of a report, read by a ready reader, give it back; and what was read, encoded again, gives the bytes that were read, except a minus zero.
use Prim.Native.Nat.{ℕ, zero, suc, ◌-◌, ◌≤◌, ◌<◌}
use mathlib.Core.Path.{◌≡◌, refl, sym, ◌∙◌, ap}
use mathlib.Core.Bool.{Bool, true, false, or-false}
use mathlib.Core.List.{List, [], ◌∷◌, ◌++◌, map, map-append, append-nil, head-eq_of_cons-eq}
use native.Mathlib.Omega.{arith}
use lib.Dec.{leb}
use lib.ListN.{length, drop, replicate}
use lib.IntN.{ℤ}
use borrow.Author.Tests.{leb-true}
use Rattle.numbers.proofs.Tested.{left, right}
use Rattle.frames.specs.Words.{silence, line_words}
use Rattle.frames.specs.Passages.{finished, nothing}
use Rattle.frames.specs.Frame.{State, has, after, Whole, keep, drops}
use Rattle.frames.specs.Frame as frame
use Rattle.frames.proofs.Words.{line_passes}
use Rattle.frames.proofs.Reading.{ready_reads, calm_after}
use Rattle.fold.specs.Fold.{answers_over, state_over}
use Rattle.wire.specs.Line.{letter_of}
use Rattle.wire.specs.Table.{bytes_of}
use Rattle.wire.specs.Holds as wire
use Rattle.wire.specs.Places.{fits_first, fits_later, valid, all_later}
use Rattle.wire.specs.Reading.{report_of, settled}
use Rattle.wire.specs.Promises.{EncodePromise}
use Rattle.wire.specs.declared.Report.{Report}
use Rattle.std.proofs.Common.{Ok}
use Rattle.wire.specs.Encoder.{Encoded}
use Rattle.wire.specs.declared.Format.TheVariants.{Mm}
use Rattle.wire.proofs.Answers.{accepted_written}
use Rattle.wire.proofs.Codec as codec
use Rattle.vsxxx.specs.SelfTests.{test_bytes, test_of, holds_test, is_test}
use Rattle.vsxxx.specs.Reports.{PuckReport, movement, self_test, fits_start, fits_behind, fits_puck, puck_frame, PuckMessage, puck_bytes, HeldByPuck, shown_by_puck}
use Rattle.vsxxx.specs.declared.SelfTest.{SelfTest}
use Rattle.vsxxx.proofs.Bytes as bytes
use Rattle.vsxxx.proofs.Framed.{puck_marked, held_framed, held_shown}
use Rattle.puckreader.specs.State.{PuckRead, fresh, kept_in, told}
use Rattle.puckreader.specs.Rules.{answered, word_of}
use Rattle.puckreader.specs.Good.{good}
use Rattle.puckreader.specs.Line.{PuckReading, reads, handed_out}
use Rattle.puckreader.specs.Promises.{StepPromise, ReadPromise}
use Rattle.puckreader.specs.Runs.{StepsPromise, answers, reader_after}
use Rattle.puckreader.specs.HandedOut.{handing, Took}
use Rattle.puckreader.specs.declared.PuckReader.{PuckReader}
use Rattle.puckreader.specs.declared.PuckAnswer.{PuckAnswer}
use Rattle.puckreader.specs.declared.PuckAnswer.TheVariants.{Nothing, Movement, Test, Dropped}
use Rattle.puckreader.proofs.Kept.{Held, none, one, two, three, held, held_good, keep_none, keep_one, keep_two, keep_move, keep_test}
use Rattle.puckreader.proofs.Word.{by_rules, word_held}
use Rattle.puckreader.proofs.Permitted.{step_is}
use Rattle.puckreader.proofs.Goodness.{step_word}
use Rattle.puckreader.proofs.Framed.{word_frame, over_frame, steps_over}
use Rattle.puckreader.proofs.Handed.{fit_legal, legally, legal_passing, took}

-- the reader behind words is the frame's
over_held : (words : List ℕ) (r : PuckReader) → Held r → Held (state_over reads r words)
unfolding state_over
over_held [] r h = h
over_held (w ∷ words) r h = over_held words (word_of r w).next (word_held r w h)

over_after : (words : List ℕ) (r : PuckReader) → Held r → line_words words ≡ true → has (kept_in (state_over reads r words)) ≡ after puck_frame (has (kept_in r)) words
unfolding state_over line_words
over_after [] r h l = refl
over_after (w ∷ words) r h l =
    let f = word_frame r w h (leb-true w silence (left (leb w silence) (line_words words) l)) in
    over_after words (word_of r w).next (word_held r w h) (right (leb w silence) (line_words words) l) ∙ rw f.1

-- one that keeps none is fresh
empty_fresh : (r : PuckReader) → Held r → length (kept_in r) ≡ 0 → r ≡ fresh
empty_fresh r none e = refl
empty_fresh r (one a h) e = absurd (omega arith)
empty_fresh r (two a b h k) e = absurd (omega arith)
empty_fresh r (three a b c h t k l) e = absurd (omega arith)

nothings : (n : ℕ) → map told (replicate n frame.nothing) ≡ replicate n Nothing
nothings zero = refl
nothings (suc n) = rw (nothings n)

nothings_out : (n : ℕ) (p : PuckReport) → handed_out (replicate n Nothing ++ handing p ∷ []) ≡ p ∷ []
nothings_out zero (movement r) = refl
nothings_out zero (self_test t) = refl
nothings_out (suc n) p = nothings_out n p

module _ (m : PuckMessage) (h : HeldByPuck m) (p : PuckReport) (shown : shown_by_puck m ≡ p ∷ []) where
  whole_m : Whole puck_frame (puck_bytes m)
  whole_m = held_framed m h

  decodes : puck_frame.decode (puck_bytes m) ≡ p
  decodes = head-eq_of_cons-eq (held_shown m h ∙ shown)

  legal : line_words (puck_bytes m) ≡ true
  legal = legal_passing (puck_bytes m) ∙ rw (append-nil, append-nil) at (line_passes legally puck_frame puck_bytes refl refl fit_legal (finished m ∷ []) nothing (whole_m, tt) tt)

  handed : (q : PuckReport) → told (frame.report q) ≡ handing q
  handed (movement r) = refl
  handed (self_test t) = refl

  by_frame : map told (frame.answers puck_frame (has []) (puck_bytes m)) ≡ replicate (length (puck_bytes m) - 1) Nothing ++ handing p ∷ []
  by_frame = go (puck_bytes m) whole_m decodes
    where
      go : (bs : List ℕ) → Whole puck_frame bs → puck_frame.decode bs ≡ p → map told (frame.answers puck_frame (has []) bs) ≡ replicate (length bs - 1) Nothing ++ handing p ∷ []
      go [] w d = absurd w.1
      go (b ∷ []) w d = absurd (omega (arith, puck_marked.laws.long b w.0.0, w.1))
      go (b ∷ c ∷ cs) w d =
          let e = ap (frame.answers puck_frame (has [])) (sym (append-nil (b ∷ c ∷ cs))) ∙ ready_reads puck_frame puck_marked.laws b c cs [] w.0 w.1 in
          let n : suc (suc (length cs)) - 1 ≡ suc (length cs) = omega arith in
          ap (map told) e ∙ rw (map-append told, nothings (length cs), d, handed p, n)

  state : state_over reads fresh (puck_bytes m) ≡ fresh
  state =
      let s = over_after (puck_bytes m) fresh none legal in
      let c = rw append-nil at (calm_after puck_frame puck_marked.laws puck_bytes (finished m ∷ []) (whole_m, tt) tt) in
      empty_fresh (state_over reads fresh (puck_bytes m)) (over_held (puck_bytes m) fresh none) (ap (λ (x : State). length (frame.kept x)) (s ∙ c))

  -- "reading them with a ready reader gives back the report": nothing up to the last byte, and then the report; and it is ready again
  pub there : (steps : List PuckRead) → StepsPromise fresh (puck_bytes m) steps
      → (answers steps ≡ replicate (length (puck_bytes m) - 1) Nothing ++ handing p ∷ []) × (reader_after fresh steps ≡ fresh)
  there steps y =
      let s = steps_over fresh (puck_bytes m) steps (held_good fresh none) y in
      (s.0 ∙ over_frame (puck_bytes m) fresh none legal ∙ by_frame, s.1 ∙ state)

  -- the same by a long read
  pub there_read : (out after : List ℤ) (a : PuckReading) → 6 ≤ length out → ReadPromise fresh (puck_bytes m) out a after
      → Took (puck_bytes m) (p ∷ []) out a after
  there_read out after a room e =
      let all : handed_out (answers_over reads fresh (puck_bytes m)) ≡ p ∷ [] = ap handed_out (over_frame (puck_bytes m) fresh none legal ∙ by_frame) ∙ nothings_out (length (puck_bytes m) - 1) p in
      rw all at (took fresh (puck_bytes m) out after a (held_good fresh none) legal e (rw all room))

-- Back. What a word is answered by, told apart
abbrev kind : PuckAnswer → ℕ
kind Nothing = 0
kind (Movement r) = 1
kind (Test t) = 2
kind (Dropped k) = 3

abbrev test_in : PuckAnswer → SelfTest → SelfTest
test_in Nothing d = d
test_in (Movement r) d = d
test_in (Test t) d = t
test_in (Dropped k) d = d

abbrev move_in : PuckAnswer → Report → Report
move_in Nothing d = d
move_in (Movement r) d = r
move_in (Test t) d = d
move_in (Dropped k) d = d

no_report : (k n : ℕ) → 0 < n → n < 3 → kind (told (drops k)) ≡ n → ⊥
no_report zero n l h e = omega arith
no_report (suc k) n l h e = omega arith

-- a self-test: its bytes are those kept and this one
abbrev TestBack : PuckReader → ℕ → PuckRead → Type 0
TestBack r w s = (t : SelfTest) → s.answer ≡ Test t → (test_bytes t ≡ kept_in r ++ (w ∷ [])) × (holds_test t ≡ true)

keep_back : (r : PuckReader) (w : ℕ) → Held r → fits_puck (kept_in r) w ≡ true → TestBack r w (answered (keep puck_frame (kept_in r ++ (w ∷ []))))
unfolding fits_behind
keep_back r w none f t e = absurd (omega (arith, ap kind (rw (keep_none w) at e)))
keep_back r w (one a h) f t e = absurd (omega (arith, ap kind (rw (keep_one a w) at e)))
keep_back r w (two a b h k) f t e = go (is_test a) refl
  where
    go : (u : Bool) → is_test a ≡ u → (test_bytes t ≡ a ∷ b ∷ w ∷ []) × (holds_test t ≡ true)
    go true q = absurd (omega (arith, ap kind (rw (keep_two a b w q) at e)))
    go false q = absurd (omega (arith, ap kind (rw (keep_move a b w q) at e)))
keep_back r w (three a b c h u k l) f t e =
    let is : t ≡ test_of (a ∷ b ∷ c ∷ w ∷ []) = sym (ap (λ (x : PuckAnswer). test_in x t) (rw (keep_test a b c w u) at e)) in
    rw is (bytes.back a b c w u (rw u at k) (rw u at l) (rw u at f), bytes.read_holds (a ∷ b ∷ c ∷ w ∷ []))

pub test_back : (r : PuckReader) (w : ℕ) (s : PuckRead) (t : SelfTest) → good r ≡ true → StepPromise r w s → s.answer ≡ Test t
    → (test_bytes t ≡ kept_in r ++ (w ∷ [])) × (holds_test t ≡ true)
test_back r w s t g p e =
    let h = held r g in
    by_rules (TestBack r w) r w (λ _ f. keep_back r w h f) (λ _ _ u q. absurd (no_report (length (kept_in r)) 2 (omega arith) (omega arith) (ap kind q)))
    (λ _ u q. absurd (omega (arith, ap kind q)))
    (λ _ u q. absurd (no_report (length (kept_in r)) 2 (omega arith) (omega arith) (ap kind q)))
    (λ _ u q. absurd (omega (arith, ap kind q)))
    t
    (sym (ap (λ (x : PuckRead). x.answer) (step_is r w s p ∙ step_word r w g)) ∙ e)

-- a movement: encoded again in S it gives them, except a minus zero
abbrev MoveBack : PuckReader → ℕ → PuckRead → Type 0
MoveBack r w s = (q : Report) → s.answer ≡ Movement q → (bytes_of Mm q ≡ settled Mm (kept_in r ++ (w ∷ []))) × (wire.accepted Mm q ≡ true)

move_valid : (a b w : ℕ) → is_test a ≡ false → fits_start a ≡ true → fits_behind a 1 b ≡ true → fits_behind a 2 w ≡ true → valid Mm (a ∷ b ∷ w ∷ []) ≡ true
unfolding fits_start fits_behind valid all_later
move_valid a b w t h k f =
    let first : fits_first Mm a ≡ true = rw (t, or-false) at h in
    let second : fits_later Mm b ≡ true = rw t at k in
    let third : fits_later Mm w ≡ true = rw t at f in
    rw (first, second, third)

keep_moves : (r : PuckReader) (w : ℕ) → Held r → fits_puck (kept_in r) w ≡ true → MoveBack r w (answered (keep puck_frame (kept_in r ++ (w ∷ []))))
keep_moves r w none f q e = absurd (omega (arith, ap kind (rw (keep_none w) at e)))
keep_moves r w (one a h) f q e = absurd (omega (arith, ap kind (rw (keep_one a w) at e)))
keep_moves r w (two a b h k) f q e = go (is_test a) refl
  where
    go : (u : Bool) → is_test a ≡ u → (bytes_of Mm q ≡ settled Mm (a ∷ b ∷ w ∷ [])) × (wire.accepted Mm q ≡ true)
    go true x = absurd (omega (arith, ap kind (rw (keep_two a b w x) at e)))
    go false x =
        let is : q ≡ report_of Mm (a ∷ b ∷ w ∷ []) = sym (ap (λ (y : PuckAnswer). move_in y q) (rw (keep_move a b w x) at e)) in
        let v = move_valid a b w x h k f in
        rw is (codec.back Mm (a ∷ b ∷ w ∷ []) v, codec.read_accepted Mm (a ∷ b ∷ w ∷ []) v)
keep_moves r w (three a b c h u k l) f q e = absurd (omega (arith, ap kind (rw (keep_test a b c w u) at e)))

pub move_back : (r : PuckReader) (w : ℕ) (s : PuckRead) (q : Report) (before after : List ℕ) (e : Encoded)
    → good r ≡ true
    → StepPromise r w s
    → s.answer ≡ Movement q
    → 3 ≤ length before
    → EncodePromise (letter_of Mm) q before e after
    → (e ≡ Ok 3) × (after ≡ settled Mm (kept_in r ++ (w ∷ [])) ++ drop 3 before)
move_back r w s q before after e g p a room n =
    let h = held r g in
    let b = by_rules (MoveBack r w) r w (λ _ f. keep_moves r w h f) (λ _ _ u x. absurd (no_report (length (kept_in r)) 1 (omega arith) (omega arith) (ap kind x)))
    (λ _ u x. absurd (omega (arith, ap kind x)))
    (λ _ u x. absurd (no_report (length (kept_in r)) 1 (omega arith) (omega arith) (ap kind x)))
    (λ _ u x. absurd (omega (arith, ap kind x)))
    q
    (sym (ap (λ (x : PuckRead). x.answer) (step_is r w s p ∙ step_word r w g)) ∙ a) in
    rw (← b.0) (accepted_written Mm q before after e b.1 room n)
