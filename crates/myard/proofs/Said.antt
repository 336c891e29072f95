-- What is said of an input, byte by byte, is its judgement; and of a recording of a log, what the check says of the log.
use Prim.Native.Nat.{ℕ, suc, ◌+◌, ◌≤◌}
use mathlib.Core.Path.{◌≡◌, refl, sym, ap, ◌∙◌}
use mathlib.Core.Bool.{Bool, true, false, cond}
use mathlib.Core.List.{List, [], ◌∷◌}
use native.Mathlib.Omega.{arith}
use lib.ListN.{length}
use lib.Dec.{eqb}
use borrow.Author.Tests.{eqb-true, eqb-false, eq-eqb, ne_eqb, le-leb}
use Rattle.numbers.proofs.Choices.{cases}
use Rattle.frames.specs.Words.{silence, line_words}
use Rattle.wire.specs.Line.{known}
use Rattle.listing.specs.Lines.{lines_in, said_by}
use Rattle.listing.specs.Scanning.{width, line_in, ends, found_in, recording_of}
use Rattle.listing.specs.declared.Found.{Found}
use Rattle.listing.specs.declared.Found.TheVariants as found
use Rattle.listing.proofs.Scanned.{all_found, scanned}
use Rattle.listing.proofs.Scanned as scan
use Rattle.listing.proofs.Viewed.{View, is_over, is_bad, is_format, is_word, viewed}
use Rattle.yard.specs.State.{none_gone}
use Rattle.yard.specs.Good.{good}
use Rattle.yard.specs.Rules.{sent, word_of}
use Rattle.yard.specs.Log.{sendable, judgement, passes, checked_of}
use Rattle.yard.specs.Promises.{fresh_of, step_of, check_of, CheckPromise}
use Rattle.yard.specs.declared.Yard.{Yard}
use Rattle.yard.specs.declared.Judged.{Judged}
use Rattle.yard.specs.declared.Checked.{Checked}
use Rattle.yard.proofs.Keeps.{none_good, word_good}
use Rattle.yard.proofs.Logs.{judged_passes}
use Rattle.yard.proofs.Goodness.{step_word}
use Rattle.myard.specs.Judging.{words_in, judged, unless, verdict_in, verdict_on}
use Rattle.myard.specs.Hearing.{judged_by, yard_after, verdict_after, verdict_from, waiting, unheard, behind_byte, behind_bytes, last_of}
use Rattle.myard.specs.declared.Judge.{Judge}
use Rattle.myard.specs.declared.Verdict.{Verdict}
use Rattle.myard.specs.declared.Verdict.TheVariants.{Yes, No}

-- what is found behind n lines, of which the first is the format's: words of a line, each on the next of them, and how it ends
data Behind : ℕ → List Found → Type 0 where
  word : {n w : ℕ} {fs : List Found} → w ≤ silence → Behind (n + 1) fs → Behind n (found.Word (n + 1) w ∷ fs)
  bad : {n m : ℕ} → Behind n (found.Bad m ∷ [])
  over : {n : ℕ} → Behind n (found.Over ∷ [])
  end : {n : ℕ} → Behind n (found.End ∷ [])

behind : (ls : List (List ℕ)) (n : ℕ) → 1 ≤ n → Behind n (found_in width n ls)
unfolding found_in
behind [] n h = cases (λ (f : Found). Behind n (f ∷ [])) (eqb n 0) (λ _. bad) (λ _. end)
behind (l ∷ ls) n h = go (line_in width n (said_by l)) (viewed n l) (behind ls (n + 1) (omega arith))
  where
    go : (f : Found) → View n f → Behind (n + 1) (found_in width (n + 1) ls) → Behind n (f ∷ cond (ends f) [] (found_in width (n + 1) ls))
    go found.Nothing v b = elim v [ ]
    go found.End v b = elim v [ ]
    go found.Over is_over b = over
    go (found.Bad m) (is_bad q) b = bad
    go (found.Format f) (is_format z p) b = absurd (omega arith)
    go (found.Word m w) (is_word q p) b = word p b

all_words : {n : ℕ} {fs : List Found} → Behind n fs → line_words (words_in fs) ≡ true
unfolding line_words
all_words (word {w = w} h b) = rw (le-leb w silence h) (all_words b)
all_words bad = refl
all_words over = refl
all_words end = refl

-- a verdict of no stays
stays_no : {n : ℕ} {fs : List Found} (y : Yard) (m : ℕ) → Behind n fs → verdict_from y (No m) fs ≡ unless fs (No m)
unfolding verdict_from judged_by
stays_no y m (word {n} {w} {fs} h b) = ap (λ (v : Verdict). verdict_from (step_of y w).next v fs) (keeps_no (sent (step_of y w))) ∙ stays_no (step_of y w).next m b
  where
    keeps_no : (t : Bool) → judged_by (No m) t (n + 1) ≡ No m
    keeps_no true = refl
    keeps_no false = refl
stays_no y m bad = refl
stays_no y m over = refl
stays_no y m end = refl

one_more_lem : (a b : ℕ) → eqb a b ≡ eqb (suc a) (suc b)
one_more_lem a b = go (eqb a b) refl
  where
    go : (t : Bool) → eqb a b ≡ t → eqb a b ≡ eqb (suc a) (suc b)
    go true e = e ∙ sym (eq-eqb (suc a) (suc b) (ap suc (eqb-true a b e)))
    go false e = e ∙ sym (ne_eqb (suc a) (suc b) (λ q. eqb-false a b e (omega arith)))

-- the words, one after the other
abbrev placed : ℕ → ℕ → ℕ → Verdict
placed n k count = cond (eqb k count) Yes (No (n + 1 + k))

words_said : {n : ℕ} {fs : List Found} (y : Yard) → good y ≡ true → Behind n fs → verdict_from y Yes fs ≡ unless fs (placed n (sendable y (words_in fs)) (length (words_in fs)))
unfolding verdict_from judged_by sendable
words_said y g bad = refl
words_said y g over = refl
words_said y g end = refl
words_said y g (word {n} {w} {fs} h b) =
    let ws = words_in fs in
    ap (λ (j : Judged). verdict_from j.next (judged_by Yes (sent j) (n + 1)) fs) (step_word y w g)
    ∙ go (sent (word_of y w)) (words_said (word_of y w).next (word_good y g w) b)
  where
    go : (t : Bool) → let y' = (word_of y w).next in let k = sendable y' (words_in fs) in let count = length (words_in fs) in
        verdict_from y' Yes fs ≡ unless fs (placed (n + 1) k count) → verdict_from y' (judged_by Yes t (n + 1)) fs ≡ unless fs (placed n (cond t (suc k) 0) (suc count))
    go true r =
        let k = sendable (word_of y w).next (words_in fs) in
        let line : n + 1 + suc k ≡ n + 1 + 1 + k = omega arith in
        r ∙ rw (line, one_more_lem k (length (words_in fs)))
    go false r =
        let none : n + 1 + 0 ≡ n + 1 = omega arith in
        rw (none, ne_eqb 0 (suc (length (words_in fs))) (λ q. omega arith)) (stays_no (word_of y w).next (n + 1) b)

-- the check of these words, and of a known format
checked : {n : ℕ} {fs : List Found} (letter : ℕ) → known letter ≡ true → Behind n fs → check_of letter (words_in fs) ≡ judgement (sendable (none_gone letter) (words_in fs)) (length (words_in fs))
unfolding check_of checked_of
checked letter k b = rw (k, all_words b)

fresh : (letter : ℕ) → known letter ≡ true → (fresh_of letter).yard ≡ none_gone letter
unfolding fresh_of
fresh letter k = rw k

-- what is found in a recording is judged as its words are
of_lines : (ls : List (List ℕ)) → verdict_from waiting Yes (found_in width 0 ls) ≡ verdict_in (found_in width 0 ls)
unfolding found_in verdict_from
of_lines [] = refl
of_lines (l ∷ ls) = go (line_in width 0 (said_by l)) (viewed 0 l) (behind ls 1 (omega arith))
  where
    go : (f : Found) → View 0 f → Behind 1 (found_in width 1 ls) → let fs = f ∷ cond (ends f) [] (found_in width 1 ls) in verdict_from waiting Yes fs ≡ verdict_in fs
    go found.Nothing v b = elim v [ ]
    go found.End v b = elim v [ ]
    go found.Over is_over b = refl
    go (found.Bad m) (is_bad h) b = refl
    go (found.Format letter) (is_format z k) b =
        let fs = found_in width 1 ls in
        let k' = sendable (none_gone letter) (words_in fs) in
        let count = length (words_in fs) in
        ap (λ (y : Yard). verdict_from y Yes fs) (fresh letter k) ∙ words_said (none_gone letter) (none_good letter k) b
        ∙ ap (λ (t : Bool). unless fs (cond t Yes (No (2 + k')))) (sym (judged_passes k' count)) ∙ ap (λ (c : Checked). unless fs (judged c)) (sym (checked letter k b))
    go (found.Word m w) (is_word h p) b = absurd (omega arith)

-- where nothing is found nothing is said
told_says : (y : Yard) (v : Verdict) (fs : List Found) → verdict_from y v (scan.told fs) ≡ verdict_from y v fs
unfolding verdict_from
told_says y v [] = refl
told_says y v (found.Nothing ∷ fs) = told_says y v fs
told_says y v (found.Format f ∷ fs) = told_says (yard_after y (found.Format f)) (verdict_after y v (found.Format f)) fs
told_says y v (found.Word n w ∷ fs) = told_says (yard_after y (found.Word n w)) (verdict_after y v (found.Word n w)) fs
told_says y v (found.Bad n ∷ fs) = told_says (yard_after y (found.Bad n)) (verdict_after y v (found.Bad n)) fs
told_says y v (found.Over ∷ fs) = told_says (yard_after y found.Over) (verdict_after y v found.Over) fs
told_says y v (found.End ∷ fs) = told_says (yard_after y found.End) (verdict_after y v found.End) fs

by_bytes : (j : Judge) (input : List ℕ) → (last_of (behind_bytes j input)).verdict ≡ verdict_from j.yard j.verdict (all_found j.scanner input)
unfolding last_of behind_bytes behind_byte verdict_from all_found
by_bytes j [] = refl
by_bytes j (c ∷ cs) = by_bytes (behind_byte j c) cs

pub by_found : (j : Judge) (input : List ℕ) → (last_of (behind_bytes j input)).verdict ≡ verdict_from j.yard j.verdict (scan.told (all_found j.scanner input))
by_found j input = by_bytes j input ∙ sym (told_says j.yard j.verdict (all_found j.scanner input))

-- SAYS: the program says of its input what is said of the recording in it
pub says : (input : List ℕ) → (last_of (behind_bytes unheard input)).verdict ≡ verdict_on input
unfolding verdict_on
says input = by_found unheard input ∙ ap (verdict_from waiting Yes) (scanned input) ∙ of_lines (lines_in input)

-- the words of a log, on lines from a number on, and its end
unfoldable pub on_lines : ℕ → List ℕ → List Found
on_lines n [] = found.End ∷ []
on_lines n (w ∷ words) = found.Word n w ∷ on_lines (suc n) words

on_lines_lem : (n : ℕ) (words : List ℕ) (v : Verdict) → (words_in (on_lines n words) ≡ words) × (unless (on_lines n words) v ≡ v)
unfolding on_lines
on_lines_lem n [] v = (refl, refl)
on_lines_lem n (w ∷ words) v = let later = on_lines_lem (suc n) words v in (ap (λ (ws : List ℕ). w ∷ ws) later.0, later.1)

-- AS CHECKED: of a recording of a log it says what the check says: yes, or no and the line of the word, the first word standing on line 2
pub as_checked : (input : List ℕ) (letter : ℕ) (words : List ℕ) (a : Checked) → recording_of width input ≡ found.Format letter ∷ on_lines 2 words
    → CheckPromise letter words a → verdict_on input ≡ cond (passes a) Yes (No (2 + a.sendable))
unfolding verdict_on
as_checked input letter words a e p =
    let v : Verdict = judged (check_of letter words) in
    rw (e, (on_lines_lem 2 words v).0, (on_lines_lem 2 words v).1, p)
