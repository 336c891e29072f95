-- From what the frame's reader hands out to what the public reader hands out, by steps and by a long read; and of a line of which a stretch was replaced.
use Prim.Native.Nat.{ℕ, zero, suc, ◌*◌, ◌≤◌}
use mathlib.Core.Path.{◌≡◌, refl, sym, ◌∙◌, ap}
use mathlib.Core.Bool.{Bool, true}
use mathlib.Core.List.{List, [], ◌∷◌, ◌++◌, map, append_assoc, head-eq_of_cons-eq}
use native.Mathlib.Omega.{arith}
use lib.Dec.{leb}
use lib.ListN.{length, get_or, take, drop, length-append, get_or-map}
use lib.Seq.{drop_at}
use lib.IntN.{ℤ}
use borrow.Author.Tests.{leb-true, le-leb}
use Rattle.numbers.proofs.Tested.{left, right}
use Rattle.frames.specs.Words.{silence, line_words}
use Rattle.frames.specs.Passages.{Passage, finished, UnderWay, passage_words, part_words, Lost, Sound, SoundPart}
use Rattle.frames.specs.Frame.{has, fresh, Framed, decoded}
use Rattle.frames.specs.Frame as frame
use Rattle.frames.proofs.Passages.{passages_append, sound_right, sound_by, part_by, others_sound, same_finished}
use Rattle.frames.proofs.Words.{passing, passing_append, passing_left, passing_right, line_passes, lost_passes}
use Rattle.frames.proofs.Replaced as replaced
use Rattle.frames.proofs.Marks.{resync}
use Rattle.fold.specs.Fold.{written, answers_over}
use Rattle.fold.specs.Calls.{sum, UpTo}
use Rattle.fold.proofs.Calls.{took_all_lem}
use Rattle.vsxxx.specs.Reports.{PuckReport, movement, self_test, six_of, puck_frame, PuckMessage, puck_bytes, HeldByPuck, shown_by_puck}
use Rattle.vsxxx.proofs.Framed.{puck_marked, held_framed, held_shown}
use Rattle.puckreader.specs.State.{PuckRead, kept_in, told}
use Rattle.puckreader.specs.Good.{good}
use Rattle.puckreader.specs.Line.{PuckReading, Long, report_of, handed_out, numbers, reads, reads_line}
use Rattle.puckreader.specs.Promises.{FreshPromise, ReadPromise}
use Rattle.puckreader.specs.Runs.{StepsPromise, answers}
use Rattle.puckreader.specs.HandedOut.{handing, Took, HandsOut, HandsOutAt, SoundLine, SoundGoing, finished_reports, Replaced, Within, EndsAt}
use Rattle.puckreader.specs.declared.PuckReader.{PuckReader}
use Rattle.puckreader.specs.declared.PuckAnswer.{PuckAnswer}
use Rattle.puckreader.specs.declared.PuckAnswer.TheVariants.{Nothing}
use Rattle.puckreader.proofs.Kept.{held}
use Rattle.puckreader.proofs.Counting.{lawful}
use Rattle.puckreader.proofs.Goodness.{fresh_is_good}
use Rattle.puckreader.proofs.Refusals.{refuses}
use Rattle.puckreader.proofs.Framed.{over_frame, steps_over, framed}

-- the reports among the answers
same_reports : (l : List (frame.Answer PuckReport)) → handed_out (map told l) ≡ frame.reports l
same_reports [] = refl
same_reports (frame.nothing ∷ l) = same_reports l
same_reports (frame.report (movement r) ∷ l) = ap (λ (x : List PuckReport). movement r ∷ x) (same_reports l)
same_reports (frame.report (self_test t) ∷ l) = ap (λ (x : List PuckReport). self_test t ∷ x) (same_reports l)
same_reports (frame.dropped k ∷ l) = same_reports l

pub reports_total : (l : List PuckAnswer) → (sum reads_line l).reports ≡ length (handed_out l)
unfolding sum
reports_total [] = refl
reports_total (a ∷ l) = omega (arith, length-append (report_of a) (handed_out l), reports_total l)

numbers_append : (l k : List PuckReport) → numbers (l ++ k) ≡ numbers l ++ numbers k
numbers_append [] k = refl
numbers_append (p ∷ l) k = rw (numbers_append l k, append_assoc)

pub numbers_written : (l : List PuckAnswer) → written reads l ≡ numbers (handed_out l)
numbers_written [] = refl
numbers_written (a ∷ l) = rw (numbers_written l, numbers_append (report_of a) (handed_out l))

-- an answer that is a report stands behind the reports of the answers before it
found_at : (l : List PuckAnswer) (i : ℕ) (p : PuckReport) → get_or l i Nothing ≡ handing p → handed_out l ≡ handed_out (take i l) ++ (p ∷ handed_out (drop (suc i) l))
found_at [] i (movement r) e = cc
found_at [] i (self_test t) e = cc
found_at (a ∷ l) zero (movement r) e = rw e
found_at (a ∷ l) zero (self_test t) e = rw e
found_at (a ∷ l) (suc i) p e = rw (found_at l i p e, append_assoc)

six_of_lem : (p : PuckReport) → length (six_of p) ≡ 6
six_of_lem (movement r) = refl
six_of_lem (self_test t) = refl

numbers_length : (l : List PuckReport) → length (numbers l) ≡ 6 * length l
numbers_length [] = refl
numbers_length (p ∷ l) = omega (arith, length-append (six_of p) (numbers l), six_of_lem p, numbers_length l)

first_six : (p : PuckReport) (rest : List ℤ) → take 6 (six_of p ++ rest) ≡ six_of p
first_six (movement r) rest = refl
first_six (self_test t) rest = refl

numbers_at : (l : List PuckReport) (p : PuckReport) (m : List PuckReport) (rest : List ℤ) → take 6 (drop (6 * length l) (numbers (l ++ (p ∷ m)) ++ rest)) ≡ six_of p
numbers_at l p m rest =
    rw (numbers_append l (p ∷ m), append_assoc (numbers l), drop_at (numbers l) (six_of p ++ numbers m ++ rest) (6 * length l) (numbers_length l), append_assoc) (first_six p (numbers m ++ rest))

-- legal words
pub legal_passing : (u : List ℕ) → line_words u ≡ passing (λ w. leb w silence) u
unfolding line_words passing
legal_passing [] = refl
legal_passing (w ∷ u) = rw (legal_passing u)

each_legal : (u : List ℕ) → line_words u ≡ true → UpTo silence u
unfolding line_words
each_legal [] h = tt
each_legal (w ∷ u) h = (leb-true w silence (left (leb w silence) (line_words u) h), each_legal u (right (leb w silence) (line_words u) h))

-- a long read with room takes all
pub took : (r : PuckReader) (words : List ℕ) (before after : List ℤ) (b : PuckReading) → good r ≡ true → line_words words ≡ true → ReadPromise r words before b after
    → 6 * length (handed_out (answers_over reads r words)) ≤ length before
    → Took words (handed_out (answers_over reads r words)) before b after
took r words before after b g l e room =
    let all = answers_over reads r words in
    let is = took_all_lem reads_line lawful refuses r words before g (each_legal words l) (rw (reports_total all) room) e in
    record {
      refusal = ap (λ (x : Long). x.refusal) is;
      taken = ap (λ (x : Long). x.taken) is;
      reports = ap (λ (x : Long). x.counts.reports) is ∙ reports_total all;
      written = ap (λ (x : Long). x.out) is ∙ rw (numbers_written all, reports_total all);
    }

module _ (words : List ℕ) (legal : line_words words ≡ true) where
  pub hands_out : (found : List PuckReport) → frame.read puck_frame (fresh puck_frame) words ≡ found → HandsOut words found
  hands_out found e r f =
      let g = fresh_is_good r f in
      let none : kept_in r ≡ [] = ap kept_in f in
      let all : handed_out (answers_over reads r words) ≡ found = ap handed_out (over_frame words r (held r g) legal) ∙ same_reports (frame.answers puck_frame (has (kept_in r)) words) ∙ rw none e in
      record {
        by_steps = λ steps p. ap handed_out (steps_over r words steps g p).0 ∙ all;
        by_read = λ before after b p room. rw all at (took r words before after b g legal p (rw all room));
      }

  pub hands_out_at : (i : ℕ) (p : PuckReport) → replaced.Handed puck_frame words i p → HandsOutAt words i p
  hands_out_at i p h =
      record {
        by_steps = all;
        by_read = λ r steps before after b f y z room.
            let g = fresh_is_good r f in
            let is = (steps_over r words steps g y).0 in
            let t = rw (← is) at (took r words before after b g legal z (rw (← is) room)) in
            let l = answers steps in (
              t,
              rw (t.written, found_at l i p (all r steps f y))
                  (numbers_at (handed_out (take i l)) p (handed_out (drop (suc i) l)) (drop (6 * length (handed_out (take i l) ++ (p ∷ handed_out (drop (suc i) l)))) before)),
            );
      }
    where
      handed : (q : PuckReport) → told (frame.report q) ≡ handing q
      handed (movement r) = refl
      handed (self_test t) = refl

      all : (r : PuckReader) (steps : List PuckRead) → FreshPromise r → StepsPromise r words steps → get_or (answers steps) i Nothing ≡ handing p
      all r steps f y =
          let none : kept_in r ≡ [] = ap kept_in f in
          rw (framed words r steps legal (fresh_is_good r f) y, none)
          (get_or-map told (frame.answers puck_frame (has []) words) i frame.nothing ∙ (ap told h ∙ handed p))

-- the words of a sound line, or what is left of them, are legal
pub fit_legal : (k : List ℕ) (b : ℕ) → puck_frame.fits k b ≡ true → leb b silence ≡ true
fit_legal k b h = le-leb b silence (omega (arith, puck_marked.laws.byte k b h))

pub framed_line : (l : List (Passage PuckMessage)) → SoundLine l → Sound puck_bytes (Framed puck_frame puck_bytes) l
framed_line = sound_by puck_bytes HeldByPuck (Framed puck_frame puck_bytes) held_framed

pub framed_going : (g : UnderWay PuckMessage) → SoundGoing g → SoundPart puck_bytes (Framed puck_frame puck_bytes) g
framed_going = part_by puck_bytes HeldByPuck (Framed puck_frame puck_bytes) held_framed

abbrev pub legally : ℕ → Bool
legally w = leb w silence

-- The passages of the line are `before`, the finished report m, and `after`; i is the place of the word that ends m.
module _ (passages : List (Passage PuckMessage)) (going : UnderWay PuckMessage) (pre old new post : List ℕ) (l : Replaced passages going pre old new post)
    (before : List (Passage PuckMessage)) (m : PuckMessage) (after : List (Passage PuckMessage)) (is : passages ≡ before ++ (finished m ∷ after))
    (i : ℕ) (place : EndsAt before m old new i) where
  held_m : HeldByPuck m
  held_m = (sound_right puck_bytes HeldByPuck before (finished m ∷ after) (rw is at l.sound)).0

  as_sent_lem : passage_words puck_bytes before ++ (puck_bytes m ++ (passage_words puck_bytes after ++ part_words puck_bytes going)) ≡ pre ++ (old ++ post)
  as_sent_lem = simp (is, passages_append, append_assoc) at l.as_sent_lem

  all_legal : line_words (pre ++ (new ++ post)) ≡ true
  all_legal =
      let sent = rw l.as_sent_lem at (line_passes legally puck_frame puck_bytes refl refl fit_legal passages going (framed_line passages l.sound) (framed_going going l.sound_going)) in
      let behind = passing_right legally old post (passing_right legally pre (old ++ post) sent) in
      legal_passing (pre ++ (new ++ post)) ∙ passing_append legally pre (new ++ post) (passing_left legally pre (old ++ post) sent)
      (passing_append legally new post (sym (legal_passing new) ∙ l.legal) behind)

  -- "each finished report that begins after the stretch is handed out as the box sent it", of either kind
  pub marked : (p : PuckReport) → shown_by_puck m ≡ p ∷ [] → Within before pre old → HandsOutAt (pre ++ (new ++ post)) i p
  marked p shown h =
      let d = head-eq_of_cons-eq (held_shown m held_m ∙ shown) in
      hands_out_at (pre ++ (new ++ post)) all_legal i p
      (rw d at (replaced.marked puck_frame puck_bytes before m (held_framed m held_m) (passage_words puck_bytes after ++ part_words puck_bytes going) pre old post new as_sent_lem i place puck_marked h))

-- "exactly the finished reports other than that one are handed out, in the order sent"
pub exactly : {passages others : List (Passage PuckMessage)} {going : UnderWay PuckMessage} {words : List ℕ} → SoundLine passages → SoundGoing going → Lost puck_bytes passages going words others
    → HandsOut words (finished_reports others)
exactly {passages} {others} {going} {words} s g d =
    hands_out words (legal_passing words ∙ lost_passes legally puck_frame puck_bytes refl refl fit_legal (framed_line passages s) (framed_going going g) d)
    (finished_reports others)
    (replaced.exactly puck_frame puck_marked puck_bytes (framed_line passages s) (framed_going going g) d
    ∙ same_finished puck_bytes HeldByPuck (decoded puck_frame puck_bytes) shown_by_puck held_shown others (others_sound puck_bytes HeldByPuck s d))

-- a line as it was sent: exactly its finished reports are handed out
pub followed : (l : List (Passage PuckMessage)) (g : UnderWay PuckMessage) → SoundLine l → SoundGoing g → HandsOut (passage_words puck_bytes l ++ part_words puck_bytes g) (finished_reports l)
followed l g s h =
    hands_out (passage_words puck_bytes l ++ part_words puck_bytes g)
    (legal_passing (passage_words puck_bytes l ++ part_words puck_bytes g) ∙ line_passes legally puck_frame puck_bytes refl refl fit_legal l g (framed_line l s) (framed_going g h))
    (finished_reports l)
    (resync puck_frame puck_marked puck_bytes (fresh puck_frame) l g (framed_line l s) (framed_going g h) ∙ same_finished puck_bytes HeldByPuck (decoded puck_frame puck_bytes) shown_by_puck held_shown l s)
