-- The text of a tick has few bytes, so that with room for them a tick is taken.
use Prim.Native.Nat.{ℕ, suc, ◌+◌, ◌^◌, ◌≤◌, ◌<◌}
use mathlib.Core.Path.{◌≡◌, refl, ap}
use mathlib.Core.Bool.{true, Bool, false, cond}
use mathlib.Core.List.{List, [], ◌∷◌, ◌++◌, map, append-nil}
use native.Mathlib.Omega.{arith}
use lib.Dec.{leb, eqb}
use lib.IntN.{pos}
use lib.ListN.{length, length-append}
use borrow.Author.Tests.{leb-true, leb-false}
use Rattle.numbers.proofs.Choices.{cases}
use Rattle.numbers.proofs.Tested.{left}
use Rattle.fold.specs.Fold.{run}
use Rattle.fold.proofs.Laws.{taken}
use Rattle.frames.specs.Words.{break, silence, line_words}
use Rattle.text.specs.Decimals.{plain, places_of, decimal_of}
use Rattle.text.proofs.Digits.{digits_long, places_few}
use Rattle.listing.specs.Lines.{newline}
use Rattle.listing.specs.Scanning.{most_lines}
use Rattle.ballbox.specs.Box.{Step}
use Rattle.ballbox.specs.Marks.{marked}
use Rattle.ballbox.specs.Promises.{step_of}
use Rattle.ballbox.specs.declared.BallBox.{BallBox}
use Rattle.ballbox.specs.declared.Event.{Event}
use Rattle.ballbox.specs.declared.Event.TheVariants.{Latch, Send}
use Rattle.ballbox.proofs.Single.{says}
use Rattle.ballbox.proofs.Words.{words_legal}
use Rattle.history.specs.Runs.{answer_to}
use Rattle.history.proofs.Permitted.{answer_permitted}
use Rattle.driver.specs.Lines.{said_by}
use Rattle.driver.specs.Recorded.{word_bytes, record_bytes, record_line, all_lines}
use Rattle.driver.specs.Driving.{Leaves, slots, first_line, later_line, line_done}
use Rattle.driver.specs.Feeding.{longest, unfinished, besides, Turning, taken_of, byte_of, slot_of, end_of, slot_tick, end_tick, tick_of, drives, ticks_from}
use Rattle.driver.specs.Promises.{enough}
use Rattle.driver.specs.declared.Record.{Record}
use Rattle.driver.specs.declared.Record.TheVariants.{Word, Bad}
use Rattle.driver.specs.declared.Order.{Order}
use Rattle.driver.specs.declared.Order.TheVariants as order
use Rattle.driver.specs.declared.Driver.{Driver}
use Rattle.driver.proofs.Kept.{OfBytes, stays_bytes, Kept}
use Rattle.driver.proofs.Ticks.{some_tick}

-- a number of six digits
few_digits : (n p : ℕ) → n < 10 ^ suc p → length (decimal_of plain (pos n)) ≤ suc p
unfolding decimal_of
few_digits n p h = omega (arith, digits_long (places_of plain n) n, places_few plain n p (omega arith) h)

-- the words of a step
abbrev FewLines : List Record → Type 0
FewLines rs = length (all_lines rs) ≤ enough

one_line : (r : Record) → length (all_lines (r ∷ [])) ≡ length (record_bytes r) + 1
unfolding record_line
one_line r = rw (append-nil (record_bytes r ++ newline ∷ []), length-append (record_bytes r) (newline ∷ []))

few_bad : (n : ℕ) → n ≤ most_lines → FewLines (Bad n ∷ [])
few_bad n h = omega (arith, one_line (Bad n), few_digits n 5 (omega arith))

few_word : (w : ℕ) → w ≤ silence → FewLines (Word w ∷ [])
unfolding word_bytes
few_word w h = omega (arith, one_line (Word w), go)
  where
    go : length (word_bytes w) ≤ 5
    go =
        let P : List ℕ → Type 0 = λ bytes. length bytes ≤ 5 in
        cases P (eqb w break) (λ _. omega arith) (λ _. cases P (eqb w silence) (λ _. omega arith) (λ _. omega (arith, few_digits w 2 (omega arith))))

few_sent : (t : Bool) (w : ℕ) → line_words (cond t (w ∷ []) []) ≡ true → FewLines (map Word (cond t (w ∷ []) []))
unfolding line_words
few_sent false w h = omega arith
few_sent true w h = few_word w (leb-true w silence (left (leb w silence) true h))

few_step : (b : BallBox) (e : Event) → OfBytes b → FewLines (map Word (step_of b e).words)
few_step b e h =
    let p = answer_permitted b e in
    let a = answer_to b e in
    rw (← ap (λ (s : Step). s.words) (says b e a p)) (few_sent (marked a.sent) a.word (words_legal b e a p h.bytes))

-- a line
few_first : (b : BallBox) (o : Order) → FewLines (first_line b o).records
unfolding record_line
few_first b order.Bad = few_bad 1 (omega arith)
few_first b (order.Format f) = omega arith
few_first b (order.Single e) = few_bad 1 (omega arith)
few_first b (order.Slots k) = few_bad 1 (omega arith)

few_later : (n : ℕ) (b : BallBox) (o : Order) → n ≤ most_lines → OfBytes b → FewLines (later_line n b (besides o)).records
unfolding slots
few_later n b order.Bad l h = few_bad n l
few_later n b (order.Format f) l h = few_bad n l
few_later n b (order.Single e) l h = cases (λ (d : Leaves). FewLines d.records) (eqb (step_of b e).refusal 0) (λ _. few_step b e h) (λ _. few_bad n l)
few_later n b (order.Slots k) l h = omega arith

few_line : (n : ℕ) (b : BallBox) (o : Order) → OfBytes b → FewLines (line_done n b (besides o)).records
unfolding line_done record_line
few_line n b o h =
    let P : Leaves → Type 0 = λ d. FewLines d.records in
    cases P (leb most_lines n) (λ _. omega arith)
    (λ k. cases P (eqb n 0) (λ _. few_first b (besides o)) (λ _. few_later (n + 1) b o (omega (arith, leb-false most_lines n k)) h))

-- FEW: a slot, a byte and the end
abbrev FewText : Turning → Type 0
FewText k = length k.text ≤ enough

few_slot : (m : Driver) → Kept m → FewText (slot_of m)
unfolding slot_of
few_slot m h = few_step (step_of m.ball Latch).next Send (stays_bytes.step m.ball Latch h.within.box)

few_taken : (m : Driver) (o : Order) → Kept m → FewText (taken_of m o)
unfolding taken_of
few_taken m o h = cases FewText m.ended (λ _. omega arith) (λ _. few_line m.line m.ball o h.within.box)

few_byte : (m : Driver) (c : ℕ) → Kept m → FewText (byte_of m c)
unfolding byte_of
few_byte m c h = cases FewText (eqb c newline) (λ _. few_taken m (said_by (unfinished m)) h) (λ _. cases FewText (leb longest m.count) (λ _. few_taken m order.Bad h) (λ _. omega arith))

few_end : (m : Driver) → FewText (end_of m)
unfolding end_of
few_end m = cases FewLines m.ended (λ _. omega arith) (λ _. cases FewLines (eqb m.line 0) (λ _. few_bad 1 (omega arith)) (λ _. omega arith))

pub few_tick : (m : Driver) (t : ℕ) → Kept m → length (tick_of m t).text ≤ enough
unfolding tick_of
few_tick m t h = cases FewText (eqb t slot_tick) (λ _. few_slot m h) (λ _. cases FewText (eqb t end_tick) (λ _. few_end m) (λ _. few_byte m t h))

-- SOME: with so many free places a tick is taken, where there is one
one_tick : (t : ℕ) (ts : List ℕ) (m : Driver) (room : ℕ) → Kept m → enough ≤ room → 1 ≤ length (run drives m (t ∷ ts) room).answers
unfolding run
one_tick t ts m room h r = rw (taken drives m t room refl (omega (arith, few_tick m t h))) (omega arith)

pub some_taken : (input : List ℕ) (m : Driver) (room : ℕ) → Kept m → enough ≤ room → (m.owed ≡ 0 → 0 < length input) → 1 ≤ length (run drives m (ticks_from input m) room).answers
some_taken input m room h r s = go (ticks_from input m) (some_tick input m s)
  where
    go : (ts : List ℕ) → 0 < length ts → 1 ≤ length (run drives m ts room).answers
    go [] l = absurd (omega arith)
    go (t ∷ ts) l = one_tick t ts m room h r
