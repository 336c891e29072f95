-- Progress: 33 V reports, 99 bytes, are the most that a report becomes, and with so many free places a long call never stops before the end of its words.
use Prim.Native.Nat.{ℕ, zero, suc, ◌+◌, ◌-◌, ◌*◌, ◌≤◌}
use mathlib.Core.Path.{◌≡◌, refl, sym, ◌∙◌, ap, subst}
use mathlib.Core.Bool.{Bool, true, false, not, cond, ◌&&◌, ◌||◌}
use mathlib.Core.List.{List, [], ◌∷◌}
use native.Mathlib.Omega.{arith}
use lib.ListN.{length, length-map}
use lib.Seq.{take-length}
use lib.Dec.{leb, ltb}
use lib.IntN.{ℤ, pos, negsuc, nat_abs, ◌+ℤ◌, ◌-ℤ◌}
use lib.Signed.{le_z}
use borrow.Author.Tests.{leb-true, ltb-true, eqb-true}
use Rattle.numbers.proofs.Choices.{cases}
use Rattle.numbers.proofs.Tested.{left, right, holds}
use Rattle.frames.specs.Words.{silence, line_words}
use Rattle.fold.specs.Fold.{run}
use Rattle.fold.proofs.Laws.{taken}
use Rattle.wire.specs.Line.{letter_of, named_by, known}
use Rattle.wire.specs.Holds.{◌to◌, within, x_range, y_range}
use Rattle.wire.specs.Numbers.{success}
use Rattle.wire.specs.declared.Report.{Report}
use Rattle.std.proofs.Common.{Option, Some, None}
use Rattle.wire.specs.declared.Format.{Format}
use Rattle.wire.specs.declared.Format.TheVariants.{Mm, Microsoft, Absolute, Relative, FiveByte, ThreeByte, Hexadecimal}
use Rattle.wire.specs.declared.Range.{Range}
use Rattle.wire.proofs.Letters.{letter_named}
use Rattle.wire.proofs.Codec.Ranges.{wider, only_zero, magnitude, at_most}
use Rattle.wire.proofs.Codec.Accepted.{OnePair, Held, parts}
use Rattle.reader.specs.Rules.{word_of}
use Rattle.reader.specs.Counts.{reports_in, handed_out}
use Rattle.reader.specs.Runs.{steps_of, StepsPromise, answers}
use Rattle.reader.specs.State.{Read}
use Rattle.reader.specs.declared.Answer.{Answer}
use Rattle.reader.specs.declared.Answer.TheVariants as answer
use Rattle.reader.proofs.Parts as reader
use Rattle.reader.proofs.Back.{reported, reported_accepted}
use Rattle.reader.proofs.Counted.{reports_first}
use Rattle.reader.proofs.Goodness.{step_word}
use Rattle.reader.proofs.Permitted.{steps_are}
use Rattle.reader.proofs.Refusals.{word_taken}
use Rattle.reader.proofs.Handed.{permitted}
use Rattle.reader.proofs.Steps.{step_each}
use Rattle.bridge.specs.Remembered.{is_a, move, most_set, summed, since_base, movement, good_base}
use Rattle.bridge.specs.Splitting.{count_of, becomes, bytes_all}
use Rattle.bridge.specs.Good.{good}
use Rattle.bridge.specs.Line.{Converted, Long, given, behind, sent_for, bridges}
use Rattle.fold.specs.Calls.{line}
use Rattle.bridge.specs.Promises.{ConvertPromise}
use Rattle.bridge.specs.Sent.{Told}
use Rattle.bridge.specs.declared.Base.{Base}
use Rattle.bridge.specs.declared.Bridge.{Bridge}
use Rattle.bridge.specs.declared.Move.{Move}
use Rattle.bridge.proofs.Writing.{three_each, split_length}
use Rattle.bridge.proofs.Splits.{abs_sum}
use Rattle.bridge.proofs.Counted.{one_report}
use Rattle.bridge.proofs.Keeps.{good_reader, good_base_lem, word_keeps}
use Rattle.bridge.proofs.Goodness.{convert_line}
use Rattle.bridge.proofs.Sent.{told}

-- how far a report of a format moves on an axis, both pairs summed
one_pair : (r : Range) (a b : ℤ) → le_z (negsuc 4094) r.low ≡ true → le_z r.high (pos 4095) ≡ true → within r a ≡ true → within (pos 0 to pos 0) b ≡ true → nat_abs (a +ℤ b) ≤ 4095
one_pair r a b low high h k =
    let z : nat_abs b ≡ 0 = ap nat_abs (sym (only_zero b k)) in
    omega (arith, abs_sum a b, magnitude 4094 a (wider r (negsuc 4094 to pos 4095) a low high h), z)

two_pairs : (a b : ℤ) → within (negsuc 127 to pos 127) a ≡ true → within (negsuc 127 to pos 127) b ≡ true → nat_abs (a +ℤ b) ≤ 4095
two_pairs a b h k =
    let byte = negsuc 127 to pos 127 in
    let both = negsuc 127 to pos 128 in
    omega (arith, abs_sum a b, magnitude 127 a (wider byte both a refl refl h), magnitude 127 b (wider byte both b refl refl k))

abbrev Short : Move → Type 0
Short m = (nat_abs m.x ≤ 4095) × (nat_abs m.y ≤ 4095)

single : (f : Format) (p : Report) → OnePair f → le_z (negsuc 4094) (x_range f).low ≡ true → le_z (x_range f).high (pos 4095) ≡ true → le_z (negsuc 4094) (y_range f).low ≡ true → le_z (y_range f).high (pos 4095) ≡ true
    → Held f p → Short (summed p)
single f p one a b c d h =
    (one_pair (x_range f) p.x1 p.x2 a b h.x (rw one at h.second_x), one_pair (y_range f) p.y1 p.y2 c d h.y (rw one at h.second_y))

summed_short : (f : Format) (p : Report) → Held f p → Short (summed p)
summed_short Mm p = single Mm p refl refl refl refl refl
summed_short Microsoft p = single Microsoft p refl refl refl refl refl
summed_short Absolute p = single Absolute p refl refl refl refl refl
summed_short Relative p = single Relative p refl refl refl refl refl
summed_short FiveByte p = λ h. (two_pairs p.x1 p.x2 h.x h.second_x, two_pairs p.y1 p.y2 h.y h.second_y)
summed_short ThreeByte p = single ThreeByte p refl refl refl refl refl
summed_short Hexadecimal p = single Hexadecimal p refl refl refl refl refl

-- and from one position of A to another
apart : (a b : ℤ) → within (pos 0 to pos 4095) a ≡ true → within (pos 0 to pos 4095) b ≡ true → nat_abs (a -ℤ b) ≤ 4095
apart (pos m) (pos zero) h k = omega (arith, at_most 4095 (pos m) h)
apart (pos m) (pos (suc n)) h k =
    cases (λ (z : ℤ). nat_abs z ≤ 4095) (ltb m (suc n)) (λ e. omega (arith, ltb-true m (suc n) e, at_most 4095 (pos (suc n)) k)) (λ _. omega (arith, at_most 4095 (pos m) h))
apart (pos m) (negsuc n) h k = absurd (holds k)
apart (negsuc m) b h k = absurd (holds h)

since_short : (letter : ℕ) (base : Base) (p : Report) → Held Absolute p → good_base letter base ≡ true → Short (since_base base p)
unfolding since_base good_base
since_short letter base p h g = go base.set refl
  where
    inside : ℤ → Bool
    inside z = within (pos 0 to pos (most_set base.set)) z

    front : Bool
    front = not base.set || is_a letter

    go : (t : Bool) → base.set ≡ t → Short (cond t (move (p.x1 -ℤ base.x) (p.y1 -ℤ base.y)) (move (pos 0) (pos 0)))
    go true e =
        let x = right front (inside base.x) (left (front && inside base.x) (inside base.y) g) in
        let y = right (front && inside base.x) (inside base.y) g in
        let set : (z : ℤ) → inside z ≡ true → within (pos 0 to pos 4095) z ≡ true = λ z. subst (λ (t : Bool). within (pos 0 to pos (most_set t)) z ≡ true) e in
        (apart p.x1 base.x h.x (set base.x x), apart p.y1 base.y h.y (set base.y y))
    go false e = (omega arith, omega arith)

module _ (b : Bridge) (w : ℕ) (g : good b ≡ true) where
  abbrev letter : ℕ
  letter = b.reader.format

  -- a report of a good bridge
  held_by : (p : Report) (f : Format) → named_by letter ≡ Some f → (word_of b.reader w).answer ≡ answer.Report p → Held f p
  held_by p f named a = (parts f p (reported_accepted (reported b.reader w p f (good_reader b g) named a))).moved

  moves_short : (p : Report) → (word_of b.reader w).answer ≡ answer.Report p → Short (movement letter b.past p)
  unfolding movement known
  moves_short p a =
      cases Short (is_a letter)
      (λ e. since_short letter b.past.base p (held_by p Absolute (ap named_by (eqb-true letter (letter_of Absolute) e) ∙ letter_named Absolute) a) (good_base_lem b g))
      (λ _. go (named_by letter) refl)
    where
      go : (n : Option Format) → named_by letter ≡ n → Short (summed p)
      go None q = absurd (holds (rw q at (reader.parts b.reader (good_reader b g)).of_known))
      go (Some f) q = summed_short f p (held_by p f q a)

  -- an A report from edge to edge needs 33 V reports, 99 bytes, and none needs more
  pub at_most_33 : (p : Report) → (word_of b.reader w).answer ≡ answer.Report p → length (becomes letter b.past p) ≤ 33
  unfolding becomes count_of
  at_most_33 p a = let m = movement letter b.past p in omega (arith, split_length (count_of m) p.buttons m, moves_short p a)

  few_sent : length (given b (word_of b.reader w)).sent ≤ 33 * reports_in (word_of b.reader w).answer
  few_sent = go (word_of b.reader w).answer refl
    where
      go : (a : Answer) → (word_of b.reader w).answer ≡ a → length (sent_for letter b.past a) ≤ 33 * reports_in a
      go answer.Nothing e = omega arith
      go (answer.Report p) e = at_most_33 p e
      go (answer.Dropped k) e = omega arith

-- with 99 places for each report that the reader hands out, all words are taken
all_taken : (words : List ℕ) (b : Bridge) (room : ℕ) → good b ≡ true → line_words words ≡ true → 99 * length (handed_out (answers (steps_of b.reader words))) ≤ room
    → let f = run bridges b words room in (length f.answers ≡ length words) × (f.refusal ≡ success)
unfolding run steps_of line_words
all_taken [] b room g l h = (refl, refl)
all_taken (w ∷ words) b room g l h =
    let s = word_of b.reader w in
    let later = answers (steps_of s.next words) in
    let k : 99 * (reports_in s.answer + length (handed_out later)) ≤ room = rw (step_word b.reader w (good_reader b g), reports_first s.answer later) at h in
    let v = (given b s).sent in
    let places = three_each v in
    let n = few_sent b w g in
    let legal = leb-true w silence (left (leb w silence) (line_words words) l) in
    let ih = all_taken words (behind b s) (room - length (bytes_all v)) (word_keeps b g w) (right (leb w silence) (line_words words) l) (omega (arith, k, n, places)) in
    rw (taken bridges b w room (word_taken b.reader w legal) (omega (arith, k, n, places))) (ap suc ih.0, ih.1)

-- a line of legal words with so many places: all of it is taken, and what is sent is told by the reader's steps over it
pub record Passed (b : Bridge) (words : List ℕ) (steps : List Read) (before : List ℕ) (a : Converted) (after : List ℕ) : Type 0 where
  pub refusal : a.refusal ≡ success
  pub taken : a.taken ≡ length words
  pub told : Told b steps before a after

pub passed : (b : Bridge) (words out : List ℕ) (a : Converted) (after : List ℕ) (steps : List Read) → good b ≡ true → line_words words ≡ true → StepsPromise b.reader words steps
    → 99 * length (handed_out (answers steps)) ≤ length out
    → ConvertPromise b words out a after
    → Passed b words steps out a after
unfolding line
passed b words out a after steps g l p room e =
    let i = e ∙ convert_line b words out g in
    let t = all_taken words b (length out) g l (rw (steps_are b.reader words steps p) at room) in
    let n = ap (λ (l : Long). l.taken) i ∙ t.0 in
    record {
      refusal = ap (λ (l : Long). l.refusal) i ∙ t.1;
      taken = n;
      told = told b words out a after steps g e (rw (n, take-length words) p);
    }

-- one report at most for each word
one_each : (l : List Answer) → length (handed_out l) ≤ length l
one_each [] = omega arith
one_each (a ∷ l) = omega (arith, reports_first a l, one_report a, one_each l)

-- so that with 99 places for each word it never stops before their end
pub enough : (b : Bridge) (words out : List ℕ) (a : Converted) (after : List ℕ) → good b ≡ true → line_words words ≡ true → 99 * length words ≤ length out → ConvertPromise b words out a after
    → (a.refusal ≡ success) × (a.taken ≡ length words)
enough b words out a after g l room e =
    let steps = steps_of b.reader words in
    let n : length (answers steps) ≡ length words = length-map steps (λ (s : Read). s.answer) ∙ step_each b.reader words in
    let q = passed b words out a after steps g l (permitted b.reader words) (omega (arith, one_each (answers steps), n)) e in
    (q.refusal, q.taken)

-- and with 99 free places a call takes the next word, whatever it is, or refuses it
pub some_taken : (b : Bridge) (w : ℕ) (words out : List ℕ) (a : Converted) (after : List ℕ) → good b ≡ true → w ≤ silence → 99 ≤ length out → ConvertPromise b (w ∷ words) out a after → 1 ≤ a.taken
unfolding line run
some_taken b w words out a after g l room e =
    let i = e ∙ convert_line b (w ∷ words) out g in
    let v = (given b (word_of b.reader w)).sent in
    let one = one_report (word_of b.reader w).answer in
    let t = taken bridges b w (length out) (word_taken b.reader w l) (omega (arith, few_sent b w g, one, three_each v)) in
    rw (ap (λ (l : Long). l.taken) i) (rw t (omega arith))
