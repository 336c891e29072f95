-- The public reader of the VSXXX over a line on which all damage shows: what it hands out was finished, and a finished
-- report of which every byte stays is handed out.
use Prim.Native.Nat.{ℕ, suc, ◌+◌}
use mathlib.Core.Path.{◌≡◌, refl, ◌∙◌}
use mathlib.Core.Bool.{true}
use mathlib.Core.List.{List, [], ◌∷◌, ◌++◌, append-nil, head-eq_of_cons-eq}
use native.Mathlib.Omega.{arith}
use lib.ListN.{length}
use Rattle.frames.specs.Words.{line_words}
use Rattle.frames.specs.Passages.{Passage, finished, UnderWay, nothing, passage_words, part_words}
use Rattle.frames.specs.Frame.{fresh, read, decoded}
use Rattle.frames.specs.Damage.{Shown}
use Rattle.frames.proofs.Scars.{shown_passes}
use Rattle.frames.proofs.Sub.{sub_then}
use Rattle.frames.proofs.InStep.{Line, skip, line_of_lem, out, follow}
use Rattle.frames.proofs.Passages.{sound_left, sound_right, same_finished}
use Rattle.frames.proofs.Words.{passing, passing_append, passing_right, line_passes}
use Rattle.frames.proofs.Replaced as replaced
use Rattle.vsxxx.specs.Reports.{PuckReport, puck_frame, PuckMessage, puck_bytes, HeldByPuck, shown_by_puck}
use Rattle.vsxxx.proofs.Framed.{puck_marked, held_framed, held_shown}
use Rattle.puckreader.specs.Promises.{FreshPromise}
use Rattle.puckreader.specs.HandedOut.{TrueBy, HandsOutAt, SoundLine, SoundGoing, finished_reports}
use Rattle.puckreader.specs.declared.PuckReader.{PuckReader}
use Rattle.puckreader.proofs.Handed.{hands_out, hands_out_at, legal_passing, legally, fit_legal, framed_line, framed_going}

-- the words of a sound line are legal
pub line_legal : (l : List (Passage PuckMessage)) (g : UnderWay PuckMessage) → SoundLine l → SoundGoing g → passing legally (passage_words puck_bytes l ++ part_words puck_bytes g) ≡ true
line_legal l g s e = line_passes legally puck_frame puck_bytes refl refl fit_legal l g (framed_line l s) (framed_going g e)

passages_legal : (l : List (Passage PuckMessage)) → SoundLine l → passing legally (passage_words puck_bytes l) ≡ true
passages_legal l s = rw append-nil at (line_legal l nothing s tt)

-- A fresh reader, which may come late: some words have gone before it.
pub late_true : (passages : List (Passage PuckMessage)) (going : UnderWay PuckMessage) → SoundLine passages → SoundGoing going → {left : List ℕ} (missed words : List ℕ)
    → passage_words puck_bytes passages ++ part_words puck_bytes going ≡ missed ++ words
    → Shown true left words
    → (r : PuckReader) → FreshPromise r
    → TrueBy r left (finished_reports passages)
late_true passages going s e {left} missed words is d r f =
    let line : Line puck_frame [] (passage_words puck_bytes passages ++ part_words puck_bytes going) (finished_reports passages) =
    rw (same_finished puck_bytes HeldByPuck (decoded puck_frame puck_bytes) shown_by_puck held_shown passages s) at
    (line_of_lem puck_frame puck_marked.laws puck_bytes passages going (framed_line passages s) (framed_going going e)) in
    let x = skip puck_frame missed words (rw is at line) in
    let sent : passing legally (missed ++ words) ≡ true = rw is at (line_legal passages going s e) in
    let legal = shown_passes legally refl refl d (passing_right legally missed words sent) in
    let found = read puck_frame (fresh puck_frame) left in
    record {
      found = found;
      hands_out = hands_out left (legal_passing left ∙ legal) found refl r f;
      among = sub_then (follow puck_frame puck_marked.laws (λ _. puck_marked) d x.line out) x.among;
    }

-- The line: `before`, the finished report m, `after` and then `going`; what is left before m and behind it.
module _ (before : List (Passage PuckMessage)) (m : PuckMessage) (after : List (Passage PuckMessage)) (going : UnderWay PuckMessage)
    (s : SoundLine (before ++ (finished m ∷ after))) (e : SoundGoing going)
    {early late : List ℕ} (ahead : Shown true early (passage_words puck_bytes before)) (behind : Shown true late (passage_words puck_bytes after ++ part_words puck_bytes going)) where
  rest_sound : SoundLine (finished m ∷ after)
  rest_sound = sound_right puck_bytes HeldByPuck before (finished m ∷ after) s

  all_legal : line_words (early ++ (puck_bytes m ++ late)) ≡ true
  all_legal =
      let first = shown_passes legally refl refl ahead (passages_legal before (sound_left puck_bytes HeldByPuck before (finished m ∷ after) s)) in
      let mid : passing legally (puck_bytes m) ≡ true = simp append-nil at (passages_legal (finished m ∷ []) (rest_sound.0, tt)) in
      let last = shown_passes legally refl refl behind (line_legal after going rest_sound.1 e) in
      legal_passing (early ++ (puck_bytes m ++ late)) ∙ passing_append legally early (puck_bytes m ++ late) first (passing_append legally (puck_bytes m) late mid last)

  pub spared : (p : PuckReport) → shown_by_puck m ≡ p ∷ [] → (i : ℕ) → suc i ≡ length early + length (puck_bytes m) → HandsOutAt (early ++ (puck_bytes m ++ late)) i p
  spared p shown i at =
      let held = rest_sound.0 in
      let d = head-eq_of_cons-eq (held_shown m held ∙ shown) in
      hands_out_at (early ++ (puck_bytes m ++ late)) all_legal i p
      (rw d at
      (replaced.marked puck_frame puck_bytes [] m (held_framed m held) late [] [] (puck_bytes m ++ late) early refl i (omega arith) puck_marked (omega arith)))
