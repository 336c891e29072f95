-- What a word does: rule by rule, and what it leaves good.
use Prim.Native.Nat.{ℕ, zero, suc, ◌<◌, ◌≤◌}
use mathlib.Core.Path.{◌≡◌, refl}
use mathlib.Core.Bool.{Bool, true, false, cond}
use mathlib.Core.List.{List, [], ◌∷◌, ◌++◌}
use native.Mathlib.Omega.{arith}
use lib.Dec.{eqb, leb}
use lib.ListN.{get_or}
use borrow.Author.Tests.{ne_eqb, le-leb, lt-leb, leb-true, leb-false, eqb-false}
use Rattle.numbers.proofs.Choices.{cases}
use Rattle.frames.specs.Words as words
use Rattle.frames.specs.Frame.{State, kept, move_of, keep, act, fit, start, bad, break, drops}
use Rattle.frames.specs.Frame as frame
use Rattle.wire.specs.Line.{named_by}
use Rattle.wire.specs.Reading as wire
use Rattle.wire.specs.Numbers.{success, bad_word}
use Rattle.vsxxx.specs.SelfTests.{test_of, is_test}
use Rattle.vsxxx.specs.Reports.{PuckReport, fits_start, fits_behind, fits_puck, puck_frame}
use Rattle.puckreader.specs.State.{PuckRead, reader, kept_in, told}
use Rattle.puckreader.specs.Rules.{refusing, answered, word_of}
use Rattle.puckreader.specs.Good.{first_of, good}
use Rattle.puckreader.specs.declared.PuckReader.{PuckReader}
use Rattle.puckreader.specs.declared.PuckAnswer.TheVariants.{Nothing, Movement, Test, Dropped}
use Rattle.puckreader.proofs.Kept.{Held, none, one, two, three, held, held_good, keep_none, keep_one, keep_two, keep_move, keep_test}

-- a byte, by the rules
pub byte_is : (r : PuckReader) (w : ℕ) → w < 256
    → word_of r w ≡ answered (cond (fits_puck (kept_in r) w) (keep puck_frame (kept_in r ++ (w ∷ []))) (cond (fits_start w) (act puck_frame start (kept_in r) w) (act puck_frame bad (kept_in r) w)))
unfolding word_of move_of
byte_is r w h = rw (le-leb w 257 (omega arith), ne_eqb w 257 (λ e. omega arith), ne_eqb w 256 (λ e. omega arith)) (go (fits_puck (kept_in r) w) (fits_start w))
  where
    go : (s t : Bool)
        → answered (act puck_frame (cond s fit (cond t start bad)) (kept_in r) w)
        ≡ answered (cond s (keep puck_frame (kept_in r ++ (w ∷ []))) (cond t (act puck_frame start (kept_in r) w) (act puck_frame bad (kept_in r) w)))
    go true t = refl
    go false true = refl
    go false false = refl

-- a break or a silence drops the kept
pub pause_is : (r : PuckReader) (w : ℕ) → 255 < w → w ≤ 257 → word_of r w ≡ answered (act puck_frame break (kept_in r) words.break)
unfolding word_of move_of
pause_is r w l h = rw (le-leb w 257 h) (go (eqb w 257) refl)
  where
    go : (t : Bool) → eqb w 257 ≡ t
        → answered (act puck_frame (cond t frame.silence (cond (eqb w 256) break (cond (fits_puck (kept_in r) w) fit (cond (fits_start w) start bad)))) (kept_in r) w) ≡ answered (act puck_frame break (kept_in r) words.break)
    go true e = refl
    go false e = let z : w ≡ 256 = omega (arith, eqb-false w 257 e) in rw z

-- a word above 257
pub bad_is : (r : PuckReader) (w : ℕ) → 257 < w → word_of r w ≡ refusing bad_word r
unfolding word_of
bad_is r w h = rw (lt-leb w 257 h)

-- what holds of each
pub by_rules : (P : PuckRead → Type 0) (r : PuckReader) (w : ℕ)
    → (w < 256 → fits_puck (kept_in r) w ≡ true → P (answered (keep puck_frame (kept_in r ++ (w ∷ [])))))
    → (w < 256 → fits_start w ≡ true → P (answered (act puck_frame start (kept_in r) w)))
    → (w < 256 → P (answered (act puck_frame bad (kept_in r) w)))
    → (255 < w → P (answered (act puck_frame break (kept_in r) words.break)))
    → (257 < w → P (refusing bad_word r))
    → P (word_of r w)
by_rules P r w k s b p n = go (leb w 255) refl (leb w 257) refl
  where
    go : (t : Bool) → leb w 255 ≡ t → (u : Bool) → leb w 257 ≡ u → P (word_of r w)
    go true e u f =
        let l : w < 256 = omega (arith, leb-true w 255 e) in
        rw (byte_is r w l)
        (cases (λ (x : State × frame.Answer PuckReport). P (answered x)) (fits_puck (kept_in r) w) (k l)
        (λ _. cases (λ (x : State × frame.Answer PuckReport). P (answered x)) (fits_start w) (s l) (λ _. b l)))
    go false e true f =
        let l : 255 < w = leb-false w 255 e in
        rw (pause_is r w l (leb-true w 257 f)) (p l)
    go false e false f = let l : 257 < w = leb-false w 257 f in rw (bad_is r w l) (n l)

-- every word leaves a good reader good
keep_held : (r : PuckReader) (w : ℕ) → Held r → fits_puck (kept_in r) w ≡ true → Held (answered (keep puck_frame (kept_in r ++ (w ∷ [])))).next
keep_held r w none f = rw (keep_none w) (one w f)
keep_held r w (one a h) f = rw (keep_one a w) (two a w h f)
keep_held r w (two a b h k) f = go (is_test a) refl
  where
    go : (t : Bool) → is_test a ≡ t → Held (answered (keep puck_frame (a ∷ b ∷ w ∷ []))).next
    go true e = rw (keep_two a b w e) (three a b w h e k f)
    go false e = rw (keep_move a b w e) none
keep_held r w (three a b c h t k l) f = rw (keep_test a b c w t) none

pub word_held : (r : PuckReader) (w : ℕ) → Held r → Held (word_of r w).next
word_held r w h =
    by_rules (λ (s : PuckRead). Held s.next) r w (λ _ f. keep_held r w h f) (λ _ f. one w f) (λ _. none) (λ _. none) (λ _. h)

pub word_good : (r : PuckReader) → good r ≡ true → (w : ℕ) → good (word_of r w).next ≡ true
word_good r g w = held_good (word_of r w).next (word_held r w (held r g))

-- how many are kept, as a program asks
pub drops_some : (k : ℕ) → (k ≡ 0 → ⊥) → Dropped k ≡ told (drops k)
drops_some zero n = absurd (n refl)
drops_some (suc k) n = refl

pub fits_first : (r : PuckReader) (w : ℕ) → Held r → r.count ≡ 0 → {t : Bool} → t ≡ fits_start w → t ≡ fits_puck (kept_in r) w
fits_first r w none e h = h
fits_first r w (one a g) e h = absurd (omega arith)
fits_first r w (two a b g k) e h = absurd (omega arith)
fits_first r w (three a b c g t k l) e h = absurd (omega arith)

pub fits_later : (r : PuckReader) (w : ℕ) → Held r → (r.count ≡ 0 → ⊥) → {t : Bool} → t ≡ fits_behind (first_of r) r.count w → t ≡ fits_puck (kept_in r) w
fits_later r w none e h = absurd (e refl)
fits_later r w (one a g) e h = h
fits_later r w (two a b g k) e h = h
fits_later r w (three a b c g t k l) e h = h

-- what is kept then
abbrev behind : PuckReader → ℕ → PuckRead
behind r w = answered (keep puck_frame (kept_in r ++ (w ∷ [])))

abbrev quietly : List ℕ → ℕ → PuckRead
quietly kept count = record { refusal = success; next = reader kept count; answer = Nothing }

abbrev at : PuckReader → ℕ → ℕ
at r i = get_or r.kept i 0

pub kept_first : (r : PuckReader) (w : ℕ) → Held r → r.count ≡ 0 → quietly (w ∷ 0 ∷ 0 ∷ []) 1 ≡ behind r w
kept_first r w none e = rw (keep_none w)
kept_first r w (one a g) e = absurd (omega arith)
kept_first r w (two a b g k) e = absurd (omega arith)
kept_first r w (three a b c g t k l) e = absurd (omega arith)

pub kept_second : (r : PuckReader) (w : ℕ) → Held r → r.count ≡ 1 → quietly (at r 0 ∷ w ∷ 0 ∷ []) 2 ≡ behind r w
kept_second r w none e = absurd (omega arith)
kept_second r w (one a g) e = rw (keep_one a w)
kept_second r w (two a b g k) e = absurd (omega arith)
kept_second r w (three a b c g t k l) e = absurd (omega arith)

pub kept_last : (r : PuckReader) (w : ℕ) → Held r → r.count ≡ 3
    → record { refusal = success; next = reader (0 ∷ 0 ∷ 0 ∷ []) 0; answer = Test (test_of (at r 0 ∷ at r 1 ∷ at r 2 ∷ w ∷ [])) } ≡ behind r w
kept_last r w none e = absurd (omega arith)
kept_last r w (one a g) e = absurd (omega arith)
kept_last r w (two a b g k) e = absurd (omega arith)
kept_last r w (three a b c g t k l) e = rw (keep_test a b c w t)

pub kept_third : (r : PuckReader) (w : ℕ) → Held r → (r.count ≡ 0 → ⊥) → (r.count ≡ 1 → ⊥) → (r.count ≡ 3 → ⊥) → is_test (at r 0) ≡ true
    → quietly (at r 0 ∷ at r 1 ∷ w ∷ []) 3 ≡ behind r w
kept_third r w none x y z t = absurd (x refl)
kept_third r w (one a g) x y z t = absurd (y refl)
kept_third r w (two a b g k) x y z t = rw (keep_two a b w t)
kept_third r w (three a b c g u k l) x y z t = absurd (z refl)

pub kept_move : (r : PuckReader) (w : ℕ) → Held r → (r.count ≡ 0 → ⊥) → (r.count ≡ 1 → ⊥) → (r.count ≡ 3 → ⊥) → is_test (at r 0) ≡ false
    → record { refusal = success; next = reader (0 ∷ 0 ∷ 0 ∷ []) 0; answer = Movement (wire.report_by 0x53 (at r 0 ∷ at r 1 ∷ w ∷ 0 ∷ 0 ∷ [])) } ≡ behind r w
unfolding wire.report_by named_by
kept_move r w none x y z t = absurd (x refl)
kept_move r w (one a g) x y z t = absurd (y refl)
kept_move r w (two a b g k) x y z t = rw (keep_move a b w t)
kept_move r w (three a b c g u k l) x y z t = absurd (z refl)
