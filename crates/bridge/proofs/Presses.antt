-- The presses counted are the changes of the middle button from up to down, held at 65,535; and in V there are none.
use Prim.Native.Nat.{ℕ, ◌+◌, ◌≤◌, min}
use mathlib.Core.Path.{◌≡◌, refl, ◌∙◌, ap}
use mathlib.Core.Bool.{Bool, true, false, not, cond, ◌&&◌}
use mathlib.Core.List.{List, [], ◌∷◌}
use native.Mathlib.Omega.{arith}
use lib.ListN.{length}
use lib.Dec.{ltb}
use borrow.Author.Tests.{ltb-true, ltb-false}
use Rattle.numbers.specs.Bits.{O, bit}
use Rattle.numbers.proofs.Rows.{bit_in}
use Rattle.fold.proofs.Laws.{stays}
use Rattle.wire.specs.Line.{letter_of, named_by}
use Rattle.wire.specs.Table.{M}
use Rattle.wire.specs.Reading.{at, read_v}
use Rattle.wire.specs.declared.Report.{Report}
use Rattle.wire.specs.declared.Format.TheVariants.{Microsoft}
use Rattle.wire.proofs.Letters.{letter_named}
use Rattle.reader.specs.Rules.{word_of}
use Rattle.reader.specs.declared.Reader.{Reader}
use Rattle.reader.specs.declared.Answer.{Answer}
use Rattle.reader.specs.declared.Answer.TheVariants as answer
use Rattle.reader.specs.Good as reader
use Rattle.reader.proofs.Word.{word_format}
use Rattle.reader.proofs.Back.{reported}
use Rattle.bridge.specs.Remembered.{most_presses, one_more, counted_by, noted}
use Rattle.bridge.specs.Good.{good}
use Rattle.fold.specs.Calls.{line}
use Rattle.bridge.specs.Line.{Converted, Long, past_for, bridges}
use Rattle.bridge.specs.Promises.{ConvertPromise}
use Rattle.bridge.specs.Sent.{past_after, changes}
use Rattle.bridge.specs.declared.Past.{Past}
use Rattle.bridge.specs.declared.Bridge.{Bridge}
use Rattle.bridge.proofs.Keeps.{good_reader, word_keeps}
use Rattle.bridge.proofs.Goodness.{convert_line}

-- a report counts one where it is a press, and is held
one_counted : (n : ℕ) (pressed : Bool) → n ≤ most_presses → cond pressed (one_more n) n ≡ min (n + cond pressed 1 0) most_presses
unfolding one_more
one_counted n true h = go (ltb n most_presses) refl
  where
    go : (t : Bool) → ltb n most_presses ≡ t → cond t (n + 1) n ≡ min (n + 1) most_presses
    go true e = omega (arith, ltb-true n most_presses e)
    go false e = omega (arith, ltb-false n most_presses e)
one_counted n false h = omega arith

pub presses_are : (letter : ℕ) (reports : List Report) (past : Past) → past.presses ≤ most_presses
    → (past_after letter past reports).presses ≡ min (past.presses + changes past.middle reports) most_presses
unfolding past_after changes noted counted_by
presses_are letter [] past h = omega arith
presses_are letter (p ∷ reports) past h =
    let one = one_counted past.presses (M p && not past.middle) h in
    let ih = presses_are letter reports (noted letter past p) (omega (arith, one)) in
    ih ∙ omega (arith, one)

-- in V a report's middle is always up: its presses are none
up_v : (r : Reader) (w : ℕ) (p : Report) → reader.good r ≡ true → r.format ≡ letter_of Microsoft → (word_of r w).answer ≡ answer.Report p → M p ≡ false
unfolding read_v
up_v r w p g v a =
    let h = reported r w p Microsoft g (ap named_by v ∙ letter_named Microsoft) a in
    let b = at 0 h.of_bytes in
    rw h.stands_for (bit_in (bit 5 b ∷ []) O (bit 4 b ∷ []))

none_v : (b : Bridge) (w : ℕ) → good b ≡ true → b.reader.format ≡ letter_of Microsoft → (bridges.next b w).past.presses ≡ b.past.presses
unfolding noted counted_by
none_v b w g v = go (word_of b.reader w).answer refl
  where
    go : (a : Answer) → (word_of b.reader w).answer ≡ a → (past_for b.reader.format b.past a).presses ≡ b.past.presses
    go answer.Nothing e = refl
    go (answer.Report p) e = rw (up_v b.reader w p (good_reader b g) v e)
    go (answer.Dropped k) e = refl

pub no_presses_v : (b : Bridge) (words out : List ℕ) (a : Converted) (after : List ℕ) → good b ≡ true → b.reader.format ≡ letter_of Microsoft → ConvertPromise b words out a after
    → a.next.past.presses ≡ b.past.presses
unfolding line
no_presses_v b words out a after g v e =
    rw (ap (λ (l : Long). l.next) (e ∙ convert_line b words out g))
    (stays bridges (λ (q : Bridge). (good q ≡ true) × (q.reader.format ≡ letter_of Microsoft) × (q.past.presses ≡ b.past.presses))
    (λ q w h. (word_keeps q h.0 w, word_format q.reader w ∙ h.1, none_v q w h.0 h.1 ∙ h.2)) words b (length out) (g, v, refl)).2
