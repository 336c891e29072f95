-- The lister reads a recording back: each line is the word that it was written of, and one that begins with E is bad.
use Rattle.std.proofs.Common.{Some, None}
use Prim.Native.Nat.{ℕ, zero, suc, ◌+◌, ◌-◌, ◌≤◌, ◌<◌}
use mathlib.Core.Path.{◌≡◌, refl, sym, ◌∙◌, ap}
use mathlib.Core.Bool.{true, false, true≢false}
use mathlib.Core.List.{List, [], ◌∷◌, ◌++◌, map, append_assoc, append-nil}
use native.Mathlib.Omega.{arith}
use lib.Dec.{leb, eqb}
use lib.IntN.{pos}
use lib.ListN.{length, take}
use borrow.Author.Tests.{eqb-true, eqb-false, ne_eqb, leb-true, le-leb, lt-leb}
use Rattle.numbers.proofs.Choices.{cases}
use Rattle.numbers.proofs.Tested.{left, right, refused}
use Rattle.frames.specs.Words.{break, silence, line_words}
use Rattle.text.specs.Decimals.{plain, is_digit, all_digits, digits_of, size_in, places_of, decimal_of, readable, plus_in, number_in}
use Rattle.text.proofs.Digits.{all_digits_lem, written_read}
use Rattle.wire.specs.Line.{named_by, known}
use Rattle.wire.specs.declared.Report.{Report}
use Rattle.reader.specs.Good as reader
use Rattle.reader.specs.Counts.{handed_out}
use Rattle.reader.specs.Promises.{step_of}
use Rattle.reader.specs.Runs.{steps_of, answers, reader_after}
use Rattle.reader.specs.declared.Reader.{Reader}
use Rattle.reader.specs.declared.Answer.{Answer}
use Rattle.reader.specs.declared.Answer.TheVariants as answer
use Rattle.reader.proofs.Goodness.{step_stays_good}
use Rattle.listing.specs.Lines.{newline, tab, lines_in, mark_in, format_in, said_by}
use Rattle.listing.specs.Scanning.{width, most_lines, line_in, found_in}
use Rattle.listing.specs.Scanning as scanning
use Rattle.listing.specs.Items.{report_item, answer_given, gave_of, items_in, items_from}
use Rattle.listing.specs.declared.Found.{Found}
use Rattle.listing.specs.declared.Found.TheVariants as found
use Rattle.listing.specs.declared.Item.{Item}
use Rattle.driver.specs.Recorded.{word_bytes, record_bytes, record_line, all_lines}
use Rattle.driver.specs.Listed.{reports_in, ends_in}
use Rattle.driver.specs.declared.Record.{Record}
use Rattle.driver.specs.declared.Record.TheVariants.{Format, Word, Bad, Over}

-- bytes none of which is a newline
abbrev OneLine : List ℕ → Type 0
OneLine [] = Unit {0}
OneLine (c ∷ cs) = (eqb c newline ≡ false) × OneLine cs

line_of_lem : (p rest : List ℕ) → OneLine p → lines_in (p ++ newline ∷ rest) ≡ p ∷ lines_in rest
unfolding lines_in
line_of_lem [] rest h = refl
line_of_lem (c ∷ p) rest h = rw (h.0, line_of_lem p rest h.1)

abbrev OneLines : List Record → Type 0
OneLines [] = Unit {0}
OneLines (r ∷ rs) = OneLine (record_bytes r) × OneLines rs

-- the lines of a recording
lines_are : (rs : List Record) → OneLines rs → lines_in (all_lines rs) ≡ map record_bytes rs
unfolding lines_in record_line
lines_are [] h = refl
lines_are (r ∷ rs) h =
    ap lines_in (append_assoc (record_bytes r) (newline ∷ []) (all_lines rs)) ∙ line_of_lem (record_bytes r) (all_lines rs) h.0
    ∙ ap (λ (ls : List (List ℕ)). record_bytes r ∷ ls) (lines_are rs h.1)

digits_line : (ds : List ℕ) → all_digits ds ≡ true → OneLine ds
digits_line [] h = tt
digits_line (c ∷ ds) h =
    let low = leb-true 48 c (left (leb 48 c) (leb c 57) (left (is_digit c) (all_digits ds) h)) in
    (ne_eqb c newline (λ e. omega arith), digits_line ds (right (is_digit c) (all_digits ds) h))

number_line : (n : ℕ) → OneLine (decimal_of plain (pos n))
unfolding decimal_of
number_line n = digits_line (digits_of (places_of plain n) n) (all_digits_lem (places_of plain n) n)

word_line : (w : ℕ) → OneLine (word_bytes w)
unfolding word_bytes
word_line w = cases OneLine (eqb w break) (λ _. (refl, tt)) (λ _. cases OneLine (eqb w silence) (λ _. (refl, tt)) (λ _. (refl, (refl, number_line w))))

words_line : (ws : List ℕ) (rest : List Record) → OneLines rest → OneLines (map Word ws ++ rest)
words_line [] rest h = h
words_line (w ∷ ws) rest h = (word_line w, words_line ws rest h)

format_line : (f : ℕ) → known f ≡ true → OneLine (record_bytes (Format f))
unfolding known named_by
format_line f h = (refl, (refl, (refused (eqb f newline) (λ e. true≢false (sym h ∙ ap known (eqb-true f newline e))), tt)))

-- what is found on each line
no_digits : number_in plain [] ≡ None
unfolding number_in plus_in readable places_of size_in
no_digits = refl

byte_found : (w n : ℕ) → w ≤ 255 → 1 ≤ n → n < most_lines → line_in width n (said_by (0x42 ∷ tab ∷ decimal_of plain (pos w))) ≡ found.Word (n + 1) w
unfolding said_by line_in
byte_found w n h some few = go (decimal_of plain (pos w)) (written_read plain (pos w) (omega arith))
  where
    go : (ds : List ℕ) → number_in plain ds ≡ Some (pos w) → line_in width n (said_by (0x42 ∷ tab ∷ ds)) ≡ found.Word (n + 1) w
    go [] e = let z : None ≡ Some (pos w) = sym no_digits ∙ e in cc
    go (c ∷ cs) e = rw (lt-leb most_lines n few, e, le-leb w 255 h, ne_eqb n 0 (λ z. omega arith))

word_found : (w n : ℕ) → w ≤ silence → 1 ≤ n → n < most_lines → line_in width n (said_by (word_bytes w)) ≡ found.Word (n + 1) w
unfolding word_bytes said_by mark_in line_in
word_found w n h some few =
    let P : List ℕ → Type 0 = λ bytes. line_in width n (said_by bytes) ≡ found.Word (n + 1) w in
    let nz = ne_eqb n 0 (λ z. omega arith) in
    cases P (eqb w break) (λ e. rw (lt-leb most_lines n few, nz, eqb-true w break e))
    (λ b. cases P (eqb w silence) (λ e. rw (lt-leb most_lines n few, nz, eqb-true w silence e))
    (λ s. byte_found w n (omega (arith, eqb-false w break b, eqb-false w silence s)) some few))

format_found : (f : ℕ) → known f ≡ true → line_in width 0 (said_by (record_bytes (Format f))) ≡ found.Format f
unfolding said_by format_in line_in
format_found f h = rw h

e_found : (n : ℕ) (ds : List ℕ) → n < most_lines → line_in width n (said_by (0x45 ∷ tab ∷ ds)) ≡ found.Bad (n + 1)
unfolding said_by line_in
e_found n [] h = rw (lt-leb most_lines n h)
e_found n (c ∷ ds) h = rw (lt-leb most_lines n h)

-- the words, numbered by their lines behind n others
abbrev pub numbered : ℕ → List ℕ → List Found
numbered n [] = []
numbered n (w ∷ ws) = found.Word (n + 1) w ∷ numbered (n + 1) ws

found_words : (ws : List ℕ) (n : ℕ) (rest : List Record) → line_words ws ≡ true → 1 ≤ n → n + length ws ≤ most_lines
    → found_in width n (map record_bytes (map Word ws ++ rest)) ≡ numbered n ws ++ found_in width (n + length ws) (map record_bytes rest)
unfolding found_in line_words
found_words [] n rest l h k = let z : n + 0 ≡ n = omega arith in rw z
found_words (w ∷ ws) n rest l h k =
    let e : n + suc (length ws) ≡ n + 1 + length ws = omega arith in
    let first = word_found w n (leb-true w silence (left (leb w silence) (line_words ws) l)) h (omega arith) in
    let later = found_words ws (n + 1) rest (right (leb w silence) (line_words ws) l) (omega arith) (omega arith) in
    rw (first, e) (ap (λ (fs : List Found). found.Word (n + 1) w ∷ fs) later)

-- and where there are too many, as many as have a line
found_long : (ws : List ℕ) (n k : ℕ) (rest : List Record) → line_words ws ≡ true → 1 ≤ n → n + k ≡ most_lines → k < length ws
    → found_in width n (map record_bytes (map Word ws ++ rest)) ≡ numbered n (take k ws) ++ found.Over ∷ []
unfolding found_in line_words line_in
found_long [] n k rest l h e j = absurd (omega arith)
found_long (w ∷ ws) n zero rest l h e j = rw (le-leb most_lines n (omega arith))
found_long (w ∷ ws) n (suc k) rest l h e j =
    let first = word_found w n (leb-true w silence (left (leb w silence) (line_words ws) l)) h (omega arith) in
    rw first (ap (λ (fs : List Found). found.Word (n + 1) w ∷ fs) (found_long ws (n + 1) k rest (right (leb w silence) (line_words ws) l) (omega arith) (omega arith) (omega arith)))

-- what is found in a recording that begins with a format and words
found_all : (f : ℕ) (ws : List ℕ) (rest : List Record) → known f ≡ true → line_words ws ≡ true → length ws < most_lines → OneLines rest
    → scanning.recording_of width (all_lines (Format f ∷ (map Word ws ++ rest))) ≡ found.Format f ∷ (numbered 1 ws ++ found_in width (1 + length ws) (map record_bytes rest))
unfolding found_in
found_all f ws rest h l k o =
    rw (lines_are (Format f ∷ (map Word ws ++ rest)) (format_line f h, words_line ws rest o), format_found f h)
    (ap (λ (fs : List Found). found.Format f ∷ fs) (found_words ws 1 rest l (omega arith) (omega arith)))

-- FOUND: the format, the words, and the end; or, behind them, a bad line
module _ (f : ℕ) (ws : List ℕ) (h : known f ≡ true) (l : line_words ws ≡ true) where
  pub found_whole : length ws < most_lines → scanning.recording_of width (all_lines (Format f ∷ map Word ws)) ≡ found.Format f ∷ (numbered 1 ws ++ found.End ∷ [])
  unfolding found_in
  found_whole k =
      ap (λ (rs : List Record). scanning.recording_of width (all_lines (Format f ∷ rs))) (sym (append-nil (map Word ws)))
      ∙ found_all f ws [] h l k tt ∙ rw (ne_eqb (1 + length ws) 0 (λ e. omega arith))

  pub found_too_long : most_lines ≤ length ws → scanning.recording_of width (all_lines (Format f ∷ map Word ws)) ≡ found.Format f ∷ (numbered 1 (take (most_lines - 1) ws) ++ found.Over ∷ [])
  unfolding found_in
  found_too_long k =
      rw (← append-nil (map Word ws))
      (rw (lines_are (Format f ∷ (map Word ws ++ [])) (format_line f h, words_line ws [] tt), format_found f h)
      (ap (λ (fs : List Found). found.Format f ∷ fs) (found_long ws 1 (most_lines - 1) [] l (omega arith) refl (omega arith))))

  found_e : (r : Record) (ds : List ℕ) → record_bytes r ≡ 0x45 ∷ tab ∷ ds → OneLine ds → length ws + 1 < most_lines
      → scanning.recording_of width (all_lines (Format f ∷ (map Word ws ++ r ∷ []))) ≡ found.Format f ∷ (numbered 1 ws ++ found.Bad (length ws + 2) ∷ [])
  unfolding found_in
  found_e r ds e o k =
      let n : 1 + length ws + 1 ≡ length ws + 2 = omega arith in
      found_all f ws (r ∷ []) h l (omega arith) (rw e (refl, (refl, o)), tt) ∙ rw (e, e_found (1 + length ws) ds (omega arith), n)

  pub found_bad : (n : ℕ) → length ws + 1 < most_lines
      → scanning.recording_of width (all_lines (Format f ∷ (map Word ws ++ Bad n ∷ []))) ≡ found.Format f ∷ (numbered 1 ws ++ found.Bad (length ws + 2) ∷ [])
  found_bad n k = found_e (Bad n) (decimal_of plain (pos n)) refl (number_line n) k

  pub found_over : length ws + 1 < most_lines
      → scanning.recording_of width (all_lines (Format f ∷ (map Word ws ++ Over ∷ []))) ≡ found.Format f ∷ (numbered 1 ws ++ found.Bad (length ws + 2) ∷ [])
  found_over k = found_e Over _ refl (refl, (refl, (refl, (refl, tt)))) k

-- SHOWN: the reports that a reader hands out of numbered words, and what is listed behind them
abbrev pub Shown : ℕ → List Report → List Item → List Item → Type 0
Shown letter reports items rest = (reports_in items ≡ map (report_item letter 0) reports ++ reports_in rest) × (ends_in items ≡ ends_in rest)

answer_shown : (letter n : ℕ) (a : Answer) (l : List Answer) (items rest : List Item) → Shown letter (handed_out l) items rest
    → Shown letter (handed_out (a ∷ l)) (items_in (answer_given letter n a) ++ items) rest
answer_shown letter n answer.Nothing l items rest h = h
answer_shown letter n (answer.Report p) l items rest h = (ap (λ (is : List Item). report_item letter 0 p ∷ is) h.0, h.1)
answer_shown letter n (answer.Dropped k) l items rest h = h

pub words_shown : (ws : List ℕ) (n : ℕ) (r : Reader) (rest : List Found) → reader.good r ≡ true
    → Shown r.format (handed_out (answers (steps_of r ws))) (items_from r (numbered n ws ++ rest)) (items_from (reader_after r (steps_of r ws)) rest)
unfolding items_from gave_of steps_of
words_shown [] n r rest g = (refl, refl)
words_shown (w ∷ ws) n r rest g =
    let s = (step_of r w).next in
    let kept = step_stays_good r w (step_of r w) g refl in
    answer_shown r.format (n + 1) (step_of r w).answer (answers (steps_of s ws)) (items_from s (numbered (n + 1) ws ++ rest)) (items_from (reader_after s (steps_of s ws)) rest)
    (rw kept.1 at (words_shown ws (n + 1) s rest kept.0))
