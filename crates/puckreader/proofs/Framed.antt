-- Steps, one after the other, do what the reader of the frame does.
use Prim.Native.Nat.{ℕ, ◌≤◌}
use mathlib.Core.Path.{◌≡◌, refl, sym, ◌∙◌, ap}
use mathlib.Core.Bool.{true}
use mathlib.Core.List.{List, [], ◌∷◌, ◌++◌, map}
use native.Mathlib.Omega.{arith}
use lib.Dec.{leb}
use lib.ListN.{length}
use borrow.Author.Tests.{leb-true, le-leb}
use Rattle.numbers.proofs.Choices.{cases}
use Rattle.numbers.proofs.Tested.{left, right}
use Rattle.frames.specs.Words.{silence, line_words}
use Rattle.frames.specs.Frame.{State, has, kept, Move, fit, start, bad, break, act, complete, move_of, step}
use Rattle.frames.specs.Frame as frame
use Rattle.fold.specs.Fold.{answers_over, state_over}
use Rattle.vsxxx.specs.Reports.{PuckReport, puck_frame}
use Rattle.puckreader.specs.State.{PuckRead, kept_in, holding, told}
use Rattle.puckreader.specs.Rules.{word_of}
use Rattle.puckreader.specs.Good.{good}
use Rattle.puckreader.specs.Line.{reads}
use Rattle.puckreader.specs.Runs.{StepsPromise, answers, reader_after}
use Rattle.puckreader.specs.declared.PuckReader.{PuckReader}
use Rattle.puckreader.proofs.Kept.{Held, held, count_small}
use Rattle.puckreader.proofs.Word.{word_held, word_good}
use Rattle.puckreader.proofs.Permitted.{step_is}
use Rattle.puckreader.proofs.Goodness.{step_word}

-- the reader of the frame never waits
has_kept : (k : List ℕ) (w : ℕ) → (step puck_frame (has k) w).0 ≡ has (kept (step puck_frame (has k) w).0)
has_kept k w = go (move_of puck_frame (has k) w)
  where
    go : (m : Move) → (act puck_frame m k w).0 ≡ has (kept (act puck_frame m k w).0)
    go fit = cases (λ (x : State × frame.Answer PuckReport). x.0 ≡ has (kept x.0)) (complete puck_frame (k ++ (w ∷ []))) (λ _. refl) (λ _. refl)
    go start = refl
    go bad = refl
    go break = refl
    go frame.silence = refl

-- what holds up to three bytes keeps just those
kept_held : (k : List ℕ) → length k ≤ 3 → kept_in (holding k) ≡ k
kept_held [] l = refl
kept_held (a ∷ []) l = refl
kept_held (a ∷ b ∷ []) l = refl
kept_held (a ∷ b ∷ c ∷ []) l = refl
kept_held (a ∷ b ∷ c ∷ d ∷ k) l = absurd (omega arith)

-- a word, to a good reader
pub word_frame : (r : PuckReader) (w : ℕ) → Held r → w ≤ silence
    → ((word_of r w).answer ≡ told (step puck_frame (has (kept_in r)) w).1) × (has (kept_in (word_of r w).next) ≡ (step puck_frame (has (kept_in r)) w).0)
unfolding word_of
word_frame r w h l =
    let k = kept (step puck_frame (has (kept_in r)) w).0 in
    let e : (word_of r w).next ≡ holding k = rw (le-leb w silence l) in
    let few : length k ≤ 3 = rw e at (count_small (word_of r w).next (word_held r w h)) in
    (rw (le-leb w silence l), ap (λ (x : PuckReader). has (kept_in x)) e ∙ (ap has (kept_held k few) ∙ sym (has_kept (kept_in r) w)))

pub over_frame : (words : List ℕ) (r : PuckReader) → Held r → line_words words ≡ true → answers_over reads r words ≡ map told (frame.answers puck_frame (has (kept_in r)) words)
unfolding answers_over line_words
over_frame [] r h l = refl
over_frame (w ∷ words) r h l =
    let f = word_frame r w h (leb-true w silence (left (leb w silence) (line_words words) l)) in
    let t = over_frame words (word_of r w).next (word_held r w h) (right (leb w silence) (line_words words) l) in
    rw (f.0, t, f.1)

-- any steps that the promise permits give the answers of the machine
pub steps_over : (r : PuckReader) (words : List ℕ) (steps : List PuckRead) → good r ≡ true → StepsPromise r words steps → (answers steps ≡ answers_over reads r words) × (reader_after r steps ≡ state_over reads r words)
unfolding StepsPromise answers_over state_over
steps_over r [] [] g p = (refl, refl)
steps_over r [] (s ∷ steps) g p = absurd p
steps_over r (w ∷ words) [] g p = absurd p
steps_over r (w ∷ words) (s ∷ steps) g p =
    let e = step_is r w s p.0 ∙ step_word r w g in
    let n = steps_over s.next words steps (rw e (word_good r g w)) p.1 in
    let next : s.next ≡ (word_of r w).next = ap (λ (x : PuckRead). x.next) e in
    (rw (ap (λ (x : PuckRead). x.answer) e, n.0, next), n.1 ∙ rw next)

pub framed : (words : List ℕ) (r : PuckReader) (steps : List PuckRead) → line_words words ≡ true → good r ≡ true → StepsPromise r words steps
    → answers steps ≡ map told (frame.answers puck_frame (has (kept_in r)) words)
framed words r steps l g p = (steps_over r words steps g p).0 ∙ over_frame words r (held r g) l
