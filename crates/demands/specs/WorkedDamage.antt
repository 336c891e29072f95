-- Damage that shows, worked out in T; and for each thing that Shown leaves out a run in which M is never down and a
-- watch would save: a byte lost without a 256, a break lost without one, and, in an unmarked format, a silence that
-- comes in.
use Rattle.std.specs.Prelude.{ℕ, ◌≡◌, refl, true, false, List, [], ◌∷◌, ◌++◌, take, drop, ℤ, pos}
use Rattle.numbers.specs.Signed.{minus}
use Rattle.frames.specs.Passages.{silent, finished}
use Rattle.frames.specs.Damage.{Shown, whole, stays, scar}
use Rattle.wire.specs.Line.{letter_of}
use Rattle.wire.specs.Reading.{report}
use Rattle.wire.specs.Messages.{latched_in, finished_reports}
use Rattle.wire.specs.Numbers.{bad_word}
use Rattle.wire.specs.Buttons.{middle, is_down, presses, presses_from}
use Rattle.wire.specs.declared.Report.{Report}
use Rattle.wire.specs.declared.Format.TheVariants.{Mm, ThreeByte}
use Rattle.reader.specs.State.{fresh, ready, reader}
use Rattle.reader.specs.Promises.{read_of}
use Rattle.reader.specs.DamagedLines.{HandsOutAt, TrueBy, is_ready}
use Rattle.reader.specs.declared.Answer.TheVariants.{Nothing, Dropped}
use Rattle.reader.specs.declared.Answer.TheVariants as answer
use Rattle.reader.proofs.DamagedRuns.{AnsweredBy, computed_by, Answered, computed}
use Rattle.ballbox.specs.Box.{fresh_box, mode_o}
use Rattle.ballbox.specs.Commands.{letterd}
use Rattle.ballbox.specs.Events.{asleep, woken}
use Rattle.ballbox.specs.declared.BallBox.{BallBox}
use Rattle.ballbox.specs.declared.Event.{Event}
use Rattle.ballbox.specs.declared.Event.TheVariants.{Motion, Buttons, Host, Send}
use Rattle.history.specs.Runs.{words_given, answers_to}
use Rattle.history.specs.Asked.{only_asks}
use Rattle.history.specs.Presses.{buttons_told, box_after}
use Rattle.history.proofs.Permitted.{answer_permitted, answers_permitted}
use Rattle.saves.specs.State.{watching}
use Rattle.saves.specs.Rules.{buttons_among}
use Rattle.saves.specs.Promises.{over_of}
use Rattle.saves.proofs.Computing as watch
use Rattle.demands.specs.Computing.{computing}
use Rattle.demands.specs.Demand3.{Run, sent, from_then_on}
use Rattle.demands.specs.Worked.{slots, set_to}
use Rattle.demands.specs.DamageShown.{true_where_damage_shows, stays_behind_a_silence}

-- T, with no button down at any time: two reports, a silence, and a third
abbrev pub moves : List Event
moves = Motion (pos 2) (minus 24) ∷ slots 3 (Motion (pos 1) (pos 0) ∷ slots 4 (Motion (pos 1) (pos 0) ∷ slots 3 []))

abbrev pub far : Report
far = report 0 (pos 2) (minus 24)

abbrev pub near : Report
near = report 0 (pos 1) (pos 0)

-- what nobody did
abbrev pub false_press : Report
false_press = report 2 (minus 24) (pos 0)

abbrev pub words : List ℕ
words = 0x00 ∷ 0x02 ∷ 0xE8 ∷ 0x00 ∷ 0x01 ∷ 0x00 ∷ 257 ∷ 0x00 ∷ 0x01 ∷ 0x00 ∷ []

pub run : (events : List Event) → only_asks events ≡ true → Run ThreeByte fresh_box (set_to ThreeByte) events (answers_to (set_to ThreeByte).next events)
unfolding computing
run events asked =
    record {
      good = refl;
      awake = refl;
      set = answer_permitted fresh_box (Host (letter_of ThreeByte));
      asked = asked;
      permitted = answers_permitted (set_to ThreeByte).next events;
    }

pub moves_send : (words_given (answers_to (set_to ThreeByte).next moves) ≡ words)
    × (finished_reports ThreeByte (sent (set_to ThreeByte) moves) ≡ far ∷ near ∷ near ∷ [])
    × (◌≡◌ {A = ℕ} (presses (is_down middle) false (buttons_told moves)) 0)
unfolding computing presses buttons_told
moves_send = (refl, refl, refl)

-- The first byte arrives as 256: the reader hands out what is behind the silence, and that is true.
abbrev scarred : List ℕ
scarred = 256 ∷ 0x02 ∷ 0xE8 ∷ 0x00 ∷ 0x01 ∷ 0x00 ∷ 257 ∷ 0x00 ∷ 0x01 ∷ 0x00 ∷ []

shows : Shown false scarred words
shows = scar (0x00 ∷ []) (stays (stays (stays (stays (stays (stays (stays (stays (stays whole)))))))))

pub shown_in_t : TrueBy (ready (letter_of ThreeByte)) scarred (far ∷ near ∷ near ∷ [])
unfolding computing
shown_in_t = true_where_damage_shows (run moves refl) from_then_on is_ready shows

pub scarred_answers : AnsweredBy (ready (letter_of ThreeByte)) scarred
    (Nothing ∷ Dropped 1 ∷ Dropped 1 ∷ Dropped 1 ∷ Dropped 1 ∷ Dropped 1 ∷ Nothing ∷ Nothing ∷ Nothing ∷ answer.Report near ∷ [])
unfolding computing
scarred_answers = computed_by (ready (letter_of ThreeByte)) _ _ refl

-- the third report stays, behind the silence: a fresh reader hands it out at word 9
pub stays_in_t : HandsOutAt ThreeByte scarred 9 near
unfolding computing
stays_in_t =
    stays_behind_a_silence (run moves refl) from_then_on
    (finished (latched_in ThreeByte far) ∷ finished (latched_in ThreeByte near) ∷ silent ∷
    []) (record { format = ThreeByte; report = near; shows = false }) [] refl whole
    (finished (latched_in ThreeByte far) ∷ finished (latched_in ThreeByte near) ∷
    []) [] refl tt (scar (0x00 ∷ []) (stays (stays (stays (stays (stays whole)))))) 9 refl

-- A byte must not be lost without a 256: the first one is, and M goes down. (So it does where a reader that is ready, not
-- fresh, comes late and missed it: `true_when_late`.)
abbrev Saves : List Report → Type 0
Saves reports = ◌≡◌ {A = ℕ} (presses_from (is_down middle) 0 reports) 1

pub byte_needs_trace : AnsweredBy (ready (letter_of ThreeByte)) (0x02 ∷ 0xE8 ∷ 0x00 ∷ 0x01 ∷ 0x00 ∷ 257 ∷ 0x00 ∷ 0x01 ∷ 0x00 ∷ [])
    (Nothing ∷ Nothing ∷ answer.Report false_press ∷ Nothing ∷ Nothing ∷ Dropped 2 ∷ Nothing ∷ Nothing ∷ answer.Report near ∷ [])
    × Saves (false_press ∷ near ∷ [])
unfolding computing presses
byte_needs_trace = (computed_by (ready (letter_of ThreeByte)) _ _ refl, refl)

-- nor in a marked format: S sends 98 05 01 and 98 07 02; three bytes are lost, and a report is handed out that was
-- never sent. (Its buttons are true: Saves.)
pub marks_need_trace : (words_given (answers_to (set_to Mm).next (Motion (pos 5) (pos 1) ∷ slots 3 (Motion (pos 7) (pos 2) ∷ slots 3 [])))
    ≡ 0x98 ∷ 0x05 ∷ 0x01 ∷ 0x98 ∷ 0x07 ∷ 0x02 ∷ [])
    × AnsweredBy (ready (letter_of Mm)) (0x98 ∷ 0x05 ∷ 0x02 ∷ []) (Nothing ∷ Nothing ∷ answer.Report (report 0 (pos 5) (pos 2)) ∷ [])
unfolding computing
marks_need_trace = (refl, computed_by (ready (letter_of Mm)) _ _ refl)

-- No silence may come in, in a format without marks: one does behind the first byte
pub no_silence_comes_in : AnsweredBy (ready (letter_of ThreeByte)) (0x00 ∷ 257 ∷ 0x02 ∷ 0xE8 ∷ 0x00 ∷ 0x01 ∷ 0x00 ∷ 257 ∷ 0x00 ∷ 0x01 ∷ 0x00 ∷ [])
    (Nothing ∷ Dropped 1 ∷ Nothing ∷ Nothing ∷ answer.Report false_press ∷ Nothing ∷ Nothing ∷ Dropped 2 ∷ Nothing ∷ Nothing ∷ answer.Report near ∷ [])
    × Saves (false_press ∷ near ∷ [])
unfolding computing presses
no_silence_comes_in = (computed_by (ready (letter_of ThreeByte)) _ _ refl, refl)

-- Nor may a break be lost without a 256: O breaks off a report of which two bytes have gone
abbrev broken_off : List Event
broken_off = Motion (pos 1) (pos 0) ∷ slots 2 (Host mode_o ∷ Motion (pos 2) (minus 24) ∷ slots 3 (Motion (pos 1) (pos 0) ∷ slots 3 []))

pub break_needs_trace : (only_asks broken_off ≡ true)
    × (words_given (answers_to (set_to ThreeByte).next broken_off) ≡ 0x00 ∷ 0x01 ∷ 256 ∷ 0x00 ∷ 0x02 ∷ 0xE8 ∷ 0x00 ∷ 0x01 ∷ 0x00 ∷ [])
    × (◌≡◌ {A = ℕ} (presses (is_down middle) false (buttons_told broken_off)) 0)
    × AnsweredBy (ready (letter_of ThreeByte)) (0x00 ∷ 0x01 ∷ 0x00 ∷ 0x02 ∷ 0xE8 ∷ 0x00 ∷ 0x01 ∷ 0x00 ∷ [])
    (Nothing ∷ Nothing ∷ answer.Report near ∷ Nothing ∷ Nothing ∷ answer.Report false_press ∷ Nothing ∷ Nothing ∷ [])
    × Saves (near ∷ false_press ∷ [])
unfolding computing presses buttons_told
break_needs_trace = (refl, refl, refl, computed_by (ready (letter_of ThreeByte)) _ _ refl, refl)

-- Nor may a byte become another: S sends 98 05 00, the first arrives as 9A, and M goes down; in U, T and W likewise. And
-- where words are lost without a trace, the reader must keep none of another line: one that keeps 9A 00 takes 05 for its
-- last, where 98 is lost.
pub no_byte_changes : (words_given (answers_to (set_to Mm).next (Motion (pos 5) (pos 0) ∷ slots 3 [])) ≡ 0x98 ∷ 0x05 ∷ 0x00 ∷ [])
    × AnsweredBy (ready (letter_of Mm)) (0x9A ∷ 0x05 ∷ 0x00 ∷ []) (Nothing ∷ Nothing ∷ answer.Report (report 2 (pos 5) (pos 0)) ∷ [])
unfolding computing
no_byte_changes = (refl, computed_by (ready (letter_of Mm)) _ _ refl)

pub none_kept : AnsweredBy (reader (letter_of Mm) (0x9A ∷ 0x00 ∷ 0x00 ∷ 0x00 ∷ 0x00 ∷ []) 2 false) (0x05 ∷ 0x00 ∷ [])
    (answer.Report (report 2 (pos 0) (pos 5)) ∷ Dropped 1 ∷ [])
unfolding computing
none_kept = computed_by (reader (letter_of Mm) (0x9A ∷ 0x00 ∷ 0x00 ∷ 0x00 ∷ 0x00 ∷ []) 2 false) _ _ refl

-- The box must be awake at its letter: a dormant one in U, at the letter of S, wakes, sends an ACK and stays in U. To a
-- reader of S 87 is a first byte with all three down. (A bad box is refused with 6, and nothing is handed out.)
abbrev woken_by_s : BallBox
woken_by_s = box_after fresh_box (Host letterd ∷ Host (letter_of Mm) ∷ [])

pub awake_at_the_letter : (words_given (answers_to woken_by_s (Send ∷ Motion (pos 5) (pos 0) ∷ slots 5 [])) ≡ 0x06 ∷ 0x87 ∷ 0x05 ∷ 0x00 ∷ 0x00 ∷ 0x00 ∷ [])
    × AnsweredBy (ready (letter_of Mm)) (0x06 ∷ 0x87 ∷ 0x05 ∷ 0x00 ∷ 0x00 ∷ 0x00 ∷ [])
    (Dropped 1 ∷ Nothing ∷ Nothing ∷ answer.Report (report 7 (minus 5) (pos 0)) ∷ Dropped 1 ∷ Dropped 1 ∷ [])
unfolding computing asleep woken
awake_at_the_letter = (refl, computed_by (ready (letter_of Mm)) _ _ refl)

-- A report that stays is handed out in T only behind a silence, with nothing broken off since: 02 00 00 is dropped without
-- one, and behind one and a report that was broken off.
pub silence_before_it : Answered ThreeByte (0x02 ∷ 0x00 ∷ 0x00 ∷ []) (Dropped 1 ∷ Dropped 1 ∷ Dropped 1 ∷ [])
    × Answered ThreeByte (257 ∷ 0x00 ∷ 256 ∷ 0x02 ∷ 0x00 ∷ 0x00 ∷ []) (Nothing ∷ Nothing ∷ Dropped 1 ∷ Dropped 1 ∷ Dropped 1 ∷ Dropped 1 ∷ [])
unfolding computing
silence_before_it = (computed ThreeByte _ _ refl, computed ThreeByte _ _ refl)

-- A press behind a stretch (`seen_after_the_stretch`, `seen_after_a_silence`). In T, with no silence between: L is pressed
-- behind 00 02 E8, of which the first byte is lost; M is handed out, and L is not. In S, where the stretch is the first
-- byte of the report that shows the press. And where a word of it, or in front, is not legal: a long read stops there,
-- with 4.
abbrev last_press : List Event
last_press = Send ∷ Motion (pos 2) (minus 24) ∷ slots 3 (Buttons 4 ∷ slots 6 [])

pub stretch_before_it : (words_given (answers_to (set_to ThreeByte).next last_press)
    ≡ 257 ∷ 0x00 ∷ 0x02 ∷ 0xE8 ∷ 0x04 ∷ 0x00 ∷ 0x00 ∷ 257 ∷ 257 ∷ 257 ∷ [])
    × Answered ThreeByte (257 ∷ 0x02 ∷ 0xE8 ∷ 0x04 ∷ 0x00 ∷ 0x00 ∷ 257 ∷ 257 ∷ 257 ∷ [])
    (Nothing ∷ Nothing ∷ Nothing ∷ answer.Report (report 2 (minus 24) (pos 4)) ∷ Nothing ∷ Nothing ∷ Dropped 2 ∷ Nothing ∷ Nothing ∷ [])
    × Answered Mm (0x00 ∷ 0x00 ∷ 257 ∷ 257 ∷ 257 ∷ []) (Dropped 1 ∷ Dropped 1 ∷ Nothing ∷ Nothing ∷ Nothing ∷ [])
unfolding computing
stretch_before_it = (refl, computed ThreeByte _ _ refl, computed Mm _ _ refl)

-- Only silences may be left out (`survives_unheard`): of 02 00 00 the first byte is, or a silence comes in behind it. (Where
-- what was heard was never sent, as an ACK: the words of `reply_in_front`.)
pub only_silences : AnsweredBy (ready (letter_of ThreeByte)) (0x00 ∷ 0x00 ∷ 257 ∷ []) (Nothing ∷ Nothing ∷ Dropped 2 ∷ [])
    × AnsweredBy (ready (letter_of ThreeByte)) (0x02 ∷ 257 ∷ 0x00 ∷ 0x00 ∷ 257 ∷ []) (Nothing ∷ Dropped 1 ∷ Nothing ∷ Nothing ∷ Dropped 2 ∷ [])
unfolding computing
only_silences = (computed_by (ready (letter_of ThreeByte)) _ _ refl, computed_by (ready (letter_of ThreeByte)) _ _ refl)

abbrev five_zeros : List ℤ
five_zeros = pos 0 ∷ pos 0 ∷ pos 0 ∷ pos 0 ∷ pos 0 ∷ []

pub legal_needed : (◌≡◌ {A = ℕ} (read_of (fresh (letter_of Mm)) (258 ∷ 0x9A ∷ 0x00 ∷ 0x00 ∷ []) five_zeros).refusal bad_word)
    × (◌≡◌ {A = ℕ} (read_of (fresh (letter_of Mm)) (258 ∷ 0x9A ∷ 0x00 ∷ 0x00 ∷ []) five_zeros).taken 0)
unfolding computing
legal_needed = (refl, refl)

-- A long read, and the watch over what it wrote (WatchedReads): with four places M's report is not written, and with
-- fifteen the watch must be given the five that were, not what stood in the slice behind them. Nor may they be cut within
-- a report.
abbrev old : List ℤ
old = five_zeros ++ (five_zeros ++ (pos 2 ∷ pos 0 ∷ pos 0 ∷ pos 0 ∷ pos 0 ∷ []))

abbrev wrote : List ℤ → List ℤ
wrote out = (read_of (ready (letter_of Mm)) (0x9A ∷ 0x00 ∷ 0x00 ∷ []) out).out

abbrev counts : List ℤ → ℕ
counts numbers = (over_of (watching 0) (buttons_among numbers)).middle

pub room_to_write : (◌≡◌ {A = ℕ} (read_of (ready (letter_of Mm)) (0x9A ∷ 0x00 ∷ 0x00 ∷ []) (pos 0 ∷ pos 0 ∷ pos 0 ∷ pos 0 ∷ [])).counts.reports 0)
    × (◌≡◌ {A = ℕ} (counts (take 5 (wrote old))) 1)
    × (◌≡◌ {A = ℕ} (counts (wrote old)) 2)
    × (◌≡◌ {A = ℕ} (counts (take 3 (wrote old))) 0)
    × (◌≡◌ {A = ℕ} (counts (drop 3 (take 5 (wrote old)))) 0)
unfolding computing watch.computing
room_to_write = (refl, refl, refl, refl, refl)
