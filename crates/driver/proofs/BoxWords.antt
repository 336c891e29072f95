-- The recording's words are those that the public box gives to the events of its lines, whatever answers its promise permits.
use Prim.Native.Nat.{ℕ, zero, suc, ◌+◌, ◌≤◌, ◌<◌}
use mathlib.Core.Path.{◌≡◌, refl, sym, ◌∙◌, ap}
use mathlib.Core.Bool.{true, false, not, cond, true≢false}
use mathlib.Core.List.{List, [], ◌∷◌, ◌++◌, map, append_assoc, append-nil}
use native.Mathlib.Omega.{arith}
use lib.ListN.{length}
use borrow.Author.Tests.{ne_eqb, lt-leb, le-leb, not-true, not-false}
use Rattle.numbers.proofs.Choices.{cases}
use Rattle.numbers.proofs.Tested.{left, right}
use Rattle.wire.specs.Numbers.{success}
use Rattle.frames.proofs.Sender.{given_over}
use Rattle.listing.specs.Lines.{lines_in}
use Rattle.listing.specs.Scanning.{most_lines}
use Rattle.ballbox.specs.Box.{Step, fresh_box, dormant}
use Rattle.ballbox.specs.Events.{bytes_left, next_byte, sending, on_host, awake, asleep}
use Rattle.ballbox.specs.Good.{good}
use Rattle.ballbox.specs.Promises.{above_seven, step_of, StepPromise}
use Rattle.ballbox.specs.declared.BallBox.{BallBox}
use Rattle.ballbox.specs.declared.Stepped.{Stepped}
use Rattle.ballbox.specs.declared.Event.{Event}
use Rattle.ballbox.specs.declared.Event.TheVariants.{Motion, Buttons, Host, Latch, Send, Period}
use Rattle.ballbox.proofs.Goodness.{fresh_is_good, stepped_good}
use Rattle.ballbox.proofs.Refusals.{ruled}
use Rattle.history.specs.Runs.{RunPromise, words_given}
use Rattle.history.specs.History.{next_box}
use Rattle.history.specs.Presses.{box_after}
use Rattle.history.proofs.Bridge.{permitted}
use Rattle.driver.specs.Lines.{said_by}
use Rattle.driver.specs.Driving.{going, ending, slot, slots, first_line, later_line, line_done, records_from, records_of}
use Rattle.driver.specs.Events.{slot_events, events_in, events_of, passes, all_pass, Tries, no_format}
use Rattle.driver.specs.declared.Record.{Record}
use Rattle.driver.specs.declared.Record.TheVariants.{Format, Word, Bad, Over}
use Rattle.driver.specs.declared.Order.{Order}
use Rattle.driver.specs.declared.Order.TheVariants as order
use Rattle.driver.proofs.Whole.{words_append}

-- the words that events give, by the rules
abbrev words_by : BallBox → List Event → List ℕ
words_by b events = given_over next_box (λ b e. (step_of b e).words) b events

words_then : (l k : List Event) (b : BallBox) → words_by b (l ++ k) ≡ words_by b l ++ words_by (box_after b l) k
unfolding given_over box_after
words_then [] k b = refl
words_then (e ∷ l) k b = rw (words_then l k (next_box b e)) (sym (append_assoc (step_of b e).words (words_by (next_box b e) l) (words_by (box_after (next_box b e) l) k)))

box_then : (l k : List Event) (b : BallBox) → box_after b (l ++ k) ≡ box_after (box_after b l) k
unfolding box_after
box_then [] k b = refl
box_then (e ∷ l) k b = box_then l k (next_box b e)

box_good : (events : List Event) (b : BallBox) → good b ≡ true → good (box_after b events) ≡ true
unfolding box_after
box_good [] b g = g
box_good (e ∷ events) b g = box_good events (next_box b e) (stepped_good b e g)

-- a good box refuses buttons above 7, and nothing else
awake_obeys : (b : BallBox) (e : Event) → (awake b e).refusal ≡ success
unfolding awake on_host sending next_byte
awake_obeys b (Motion dx dy) = refl
awake_obeys b (Buttons n) = refl
awake_obeys b (Host byte) = refl
awake_obeys b Latch = refl
awake_obeys b Send = cases (λ (s : Step). s.refusal ≡ success) (bytes_left b) (λ _. refl) (λ _. refl)
awake_obeys b Period = refl

asleep_obeys : (b : BallBox) (e : Event) → (asleep b e).refusal ≡ success
unfolding asleep
asleep_obeys b (Motion dx dy) = refl
asleep_obeys b (Buttons n) = refl
asleep_obeys b (Host byte) = refl
asleep_obeys b Latch = refl
asleep_obeys b Send = refl
asleep_obeys b Period = refl

obeys : (b : BallBox) (e : Event) → good b ≡ true → above_seven e ≡ false → (step_of b e).refusal ≡ success
obeys b e g h =
    ap (λ (s : Step). s.refusal) (ruled b e (dormant b) g h refl) ∙ cases (λ (s : Step). s.refusal ≡ success) (dormant b) (λ _. asleep_obeys b e) (λ _. awake_obeys b e)

-- slots are Latch and Send, so many times: a Latch gives no word
latch_quiet : (b : BallBox) → (step_of b Latch).words ≡ []
unfolding step_of awake asleep
latch_quiet b = let P : Step → Type 0 = λ s. s.words ≡ [] in cases P (not (good b)) (λ _. refl) (λ _. cases P (dormant b) (λ _. refl) (λ _. refl))

slots_are : (k : ℕ) (b : BallBox) → slots k b ≡ record { refusal = 0; next = box_after b (slot_events k); words = words_by b (slot_events k) }
unfolding slots box_after given_over
slots_are zero b = refl
slots_are (suc k) b = rw (slots_are k (slot b).next, latch_quiet b)

-- a line that passes leaves the box after its events, with their words; one that does not is bad
passes_line : (n : ℕ) (b : BallBox) (o : Order) → good b ≡ true → passes o ≡ true → later_line n b o ≡ going (box_after b (events_in o)) (words_by b (events_in o))
unfolding box_after given_over
passes_line n b order.Bad g h = absurd (true≢false (sym h))
passes_line n b (order.Format f) g h = absurd (true≢false (sym h))
passes_line n b (order.Single e) g h = rw (obeys b e g (not-true (above_seven e) h), append-nil)
passes_line n b (order.Slots k) g h = rw (slots_are k b)

ends_line : (n : ℕ) (b : BallBox) (o : Order) → good b ≡ true → passes o ≡ false → later_line n b o ≡ ending b (Bad n)
unfolding step_of
ends_line n b order.Bad g h = refl
ends_line n b (order.Format f) g h = refl
ends_line n b (order.Single e) g h = rw (g, not-false (above_seven e) h)
ends_line n b (order.Slots k) g h = absurd (true≢false h)

later_line_lem : (n : ℕ) (b : BallBox) (o : Order) → 1 ≤ n → n < most_lines → line_done n b o ≡ later_line (n + 1) b o
unfolding line_done
later_line_lem n b o h k = rw (lt-leb most_lines n k, ne_eqb n 0 (λ e. omega arith))

-- lines that all pass
pass_lines : (ls rest : List (List ℕ)) (n : ℕ) (b : BallBox) → good b ≡ true → all_pass ls ≡ true → 1 ≤ n → n + length ls ≤ most_lines
    → records_from n b (ls ++ rest) ≡ map Word (words_by b (events_of ls)) ++ records_from (n + length ls) (box_after b (events_of ls)) rest
unfolding records_from given_over box_after
pass_lines [] rest n b g h s k = let z : n + 0 ≡ n = omega arith in rw z
pass_lines (l ∷ ls) rest n b g h s k =
    let o = said_by l in
    let next = box_after b (events_in o) in
    let words = words_by b (events_in o) in
    let e : n + suc (length ls) ≡ n + 1 + length ls = omega arith in
    let later = pass_lines ls rest (n + 1) next (box_good (events_in o) b g) (right (passes o) (all_pass ls) h) (omega arith) (omega arith) in
    rw (later_line_lem n b o s (omega arith), passes_line (n + 1) b o g (left (passes o) (all_pass ls) h), words_then (events_in o) (events_of ls) b, box_then (events_in o) (events_of ls) b, e, words_append words (words_by next (events_of ls)), append_assoc (map Word words))
    (ap (λ (rs : List Record). map Word words ++ rs) later)

-- an input that says a format first, and the box that is set to it: any answers to the letter and to the events of its lines
module _ {input : List ℕ} {f : ℕ} {lines rest : List (List ℕ)} (tries : Tries input f lines rest) (a : Stepped) (answers : List Stepped)
    (set : StepPromise fresh_box (Host f) a) (run : RunPromise a.next (events_of lines) answers) where
  abbrev last : BallBox
  last = box_after a.next (events_of lines)

  -- what is recorded of it: the format, the words given, and what the rest leaves
  recorded : records_of input ≡ Format f ∷ (map Word (words_given answers) ++ records_from (1 + length lines) last rest)
  unfolding records_from line_done
  recorded =
      let next : (step_of fresh_box (Host f)).next ≡ a.next = sym (ap (λ (x : Stepped). x.next) set) in
      let g : good a.next ≡ true = rw next at (stepped_good fresh_box (Host f) (fresh_is_good fresh_box refl)) in
      rw (tries.is, tries.says, next, permitted a.next (events_of lines) answers run)
      (ap (λ (rs : List Record). Format f ∷ rs) (pass_lines lines rest 1 a.next g tries.pass (omega arith) (omega (arith, tries.few))))

  last_good : good last ≡ true
  last_good = box_good (events_of lines) a.next (ap (λ (x : Stepped). good x.next) set ∙ stepped_good fresh_box (Host f) (fresh_is_good fresh_box refl))

-- BOX WORDS: where all lines pass, the recording has the format and then the words that the box gave
pub box_words : {input : List ℕ} {f : ℕ} {lines : List (List ℕ)} (tries : Tries input f lines []) (a : Stepped) (answers : List Stepped)
    → StepPromise fresh_box (Host f) a → RunPromise a.next (events_of lines) answers → records_of input ≡ Format f ∷ map Word (words_given answers)
unfolding records_from
box_words {f = f} {lines = lines} tries a answers set run =
    recorded tries a answers set run ∙ rw (ne_eqb (1 + length lines) 0 (λ e. omega arith), append-nil)

-- where a line does not pass, those of the events before it, and then its number
pub box_words_bad : {input : List ℕ} {f : ℕ} {lines rest : List (List ℕ)} {l : List ℕ} (tries : Tries input f lines (l ∷ rest)) (a : Stepped) (answers : List Stepped)
    → StepPromise fresh_box (Host f) a → RunPromise a.next (events_of lines) answers → passes (said_by l) ≡ false → length lines + 1 < most_lines
    → records_of input ≡ Format f ∷ (map Word (words_given answers) ++ Bad (length lines + 2) ∷ [])
unfolding records_from
box_words_bad {lines = lines} {l = l} tries a answers set run fails few =
    let n : 1 + length lines + 1 ≡ length lines + 2 = omega arith in
    let b = last tries a answers set run in
    recorded tries a answers set run
    ∙ rw (later_line_lem (1 + length lines) b (said_by l) (omega arith) (omega arith), ends_line (1 + length lines + 1) b (said_by l) (last_good tries a answers set run) fails, n)

-- and where there is a line too many, it ends in `over`
pub box_words_over : {input : List ℕ} {f : ℕ} {lines rest : List (List ℕ)} {l : List ℕ} (tries : Tries input f lines (l ∷ rest)) (a : Stepped) (answers : List Stepped)
    → StepPromise fresh_box (Host f) a → RunPromise a.next (events_of lines) answers → length lines + 1 ≡ most_lines
    → records_of input ≡ Format f ∷ (map Word (words_given answers) ++ Over ∷ [])
unfolding records_from line_done
box_words_over {lines = lines} tries a answers set run all = recorded tries a answers set run ∙ rw (le-leb most_lines (1 + length lines) (omega arith))

-- an input without lines, or whose first line says no format, is bad at line 1
pub no_line : (input : List ℕ) → lines_in input ≡ [] → records_of input ≡ Bad 1 ∷ []
unfolding records_from
no_line input e = rw e

pub no_format_lem : (input first : List ℕ) (rest : List (List ℕ)) → lines_in input ≡ first ∷ rest → no_format (said_by first) ≡ true → records_of input ≡ Bad 1 ∷ []
unfolding records_from line_done
no_format_lem input first rest e h = rw e (go (said_by first) h)
  where
    go : (o : Order) → no_format o ≡ true → let d = first_line fresh_box o in d.records ++ cond d.ends [] (records_from 1 d.next rest) ≡ Bad 1 ∷ []
    go order.Bad k = refl
    go (order.Format f) k = absurd (true≢false (sym k))
    go (order.Single x) k = refl
    go (order.Slots n) k = refl
