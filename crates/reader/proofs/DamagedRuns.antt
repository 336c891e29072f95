-- Worked runs of damaged lines: for each theorem a line that meets its conditions, with the answers computed; and for each condition a line that
-- lacks only this one, where the report is not handed out as sent.
use Prim.Native.Nat.{ℕ}
use mathlib.Core.Path.{◌≡◌, refl}
use mathlib.Core.Bool.{false}
use mathlib.Core.List.{List, [], ◌∷◌}
use native.Mathlib.Omega.{arith}
use lib.ListN.{get_or}
use lib.IntN.{ℤ, pos}
use Rattle.numbers.specs.Signed.{minus}
use Rattle.wire.specs.Line.{letter_of}
use Rattle.wire.specs.Table.{bytes_of}
use Rattle.wire.specs.Reading as reading
use Rattle.wire.specs.Numbers.{success}
use Rattle.wire.specs.Messages.{latched_in, SoundIn}
use Rattle.wire.specs.declared.Report.{Report}
use Rattle.wire.specs.declared.Format.{Format}
use Rattle.wire.specs.declared.Format.TheVariants.{Mm, FiveByte, ThreeByte}
use Rattle.frames.specs.Passages.{silent, finished, broken, nothing, first, Unbroken, Sub, none, gone, stays, of_finished, of_broken, of_going}
use Rattle.reader.specs.State.{fresh, NewReader, Read}
use Rattle.reader.specs.Counts.{handed_out}
use Rattle.reader.specs.Promises.{FreshPromise, ReadPromise, fresh_of}
use Rattle.reader.specs.Runs.{steps_of, StepsPromise, answers}
use Rattle.reader.specs.declared.Reader.{Reader}
use Rattle.reader.specs.declared.Answer.{Answer}
use Rattle.reader.specs.declared.Answer.TheVariants.{Nothing, Dropped}
use Rattle.reader.specs.declared.Answer.TheVariants as answer
use Rattle.reader.proofs.Permitted.{steps_are}
use Rattle.reader.proofs.Framed.{fresh_named}
use Rattle.reader.specs.DamagedLines.{no_word, a_break, HandsOutBy, HandsOut, HandsOutAt, Replaced, Within, EndsAt}
use Rattle.reader.proofs.Handed.{permitted}
use Rattle.reader.proofs.Damaged.{marked, unmarked, exactly}
use Rattle.reader.proofs.Computing.{computing}
use Rattle.reader.specs.Line.{Reading}

-- the reader r, or any fresh reader of f, by any steps that are permitted, gives the words these answers
abbrev pub AnsweredBy : Reader → List ℕ → List Answer → Type 0
AnsweredBy r words l = (steps : List Read) → StepsPromise r words steps → answers steps ≡ l

abbrev pub Answered : Format → List ℕ → List Answer → Type 0
Answered f words l = (a : NewReader) → FreshPromise (letter_of f) a → AnsweredBy a.reader words l

pub computed_by : (r : Reader) (words : List ℕ) (l : List Answer) → answers (steps_of r words) ≡ l → AnsweredBy r words l
computed_by r words l e steps q = rw (steps_are r words steps q) e

pub computed : (f : Format) (words : List ℕ) (l : List Answer) → answers (steps_of (fresh (letter_of f)) words) ≡ l → Answered f words l
computed f words l e a p = computed_by a.reader words l (rw (fresh_named f a p) e)

-- so that a line that is answered so hands out the reports among these answers, and no others
pub only_these : {r : Reader} {words : List ℕ} {l : List Answer} {found : List Report} → AnsweredBy r words l → HandsOutBy r words found → handed_out l ≡ found
only_these {r} {words} h out =
    let w = permitted r words in
    rw (h (steps_of r words) w) at (out.by_steps (steps_of r words) w)

-- reports of S: 90 05 03 and 8C 02 07
abbrev pub moved : Report
moved = reading.report 0 (pos 5) (minus 3)

abbrev pub pressed : Report
pressed = reading.report 4 (minus 2) (pos 7)

-- Marked. Behind the setting's own 256 stand 90 05 03, a silence, 8C 02 broken off, 8C 02 07, and 90 of a report that is going; the stretch 05 03
-- 257 8C becomes 9A 7F FF. The report 8C 02 07 begins after it, and is the answer to word 9.
replaced_s : Replaced Mm (finished (latched_in Mm moved) ∷ silent ∷ broken 2 (latched_in Mm pressed) ∷ finished (latched_in Mm pressed) ∷ []) (first 1 (latched_in Mm moved))
    (256 ∷ []) (0x90 ∷ []) (0x05 ∷ 0x03 ∷ 257 ∷ 0x8C ∷ []) (0x9A ∷ 0x7F ∷ 0xFF ∷ []) (0x02 ∷ 256 ∷ 0x8C ∷ 0x02 ∷ 0x07 ∷ 0x90 ∷ [])
unfolding computing
replaced_s =
    record {
      sound = ((refl, refl), (tt, (((refl, refl), omega arith), ((refl, refl), tt))));
      sound_going = ((refl, refl), omega arith);
      in_front = a_break;
      as_sent_lem = refl;
      legal = refl;
    }

pub marked_run : HandsOutAt Mm (256 ∷ 0x90 ∷ 0x9A ∷ 0x7F ∷ 0xFF ∷ 0x02 ∷ 256 ∷ 0x8C ∷ 0x02 ∷ 0x07 ∷ 0x90 ∷ []) 9 pressed
unfolding computing
marked_run =
    marked Mm (finished (latched_in Mm moved) ∷ silent ∷ broken 2 (latched_in Mm pressed) ∷ finished (latched_in Mm pressed) ∷ []) (first 1 (latched_in Mm moved))
    (256 ∷ []) (0x90 ∷ []) (0x05 ∷ 0x03 ∷ 257 ∷ 0x8C ∷ []) (0x9A ∷ 0x7F ∷ 0xFF ∷ []) (0x02 ∷ 256 ∷ 0x8C ∷ 0x02 ∷ 0x07 ∷ 0x90 ∷ []) replaced_s
    (finished (latched_in Mm moved) ∷ silent ∷ broken 2 (latched_in Mm pressed) ∷ []) (record { format = Mm; report = pressed; shows = false }) [] refl 9 refl refl (omega arith)

pub marked_answers : Answered Mm (256 ∷ 0x90 ∷ 0x9A ∷ 0x7F ∷ 0xFF ∷ 0x02 ∷ 256 ∷ 0x8C ∷ 0x02 ∷ 0x07 ∷ 0x90 ∷ [])
    (Nothing ∷ Nothing ∷ Dropped 1 ∷ Nothing ∷ Dropped 3 ∷ Dropped 1 ∷ Nothing ∷ Nothing ∷ Nothing ∷ answer.Report pressed ∷ Nothing ∷ [])
unfolding computing
marked_answers = computed Mm _ _ refl

-- reports of U: a fast move to the left, 87 85 00 85 00, and a slow one, 87 01 02 03 04
abbrev pub fast : Report
fast = record { buttons = 0; x1 = minus 123; y1 = pos 0; x2 = minus 123; y2 = pos 0 }

abbrev pub slow : Report
slow = record { buttons = 0; x1 = pos 1; y1 = pos 2; x2 = pos 3; y2 = pos 4 }

-- Unmarked, "readers that join a report halfway": the line is 87 85 00 85 00, a silence, and 87 01 02 03 04, and the 87 in front is lost. 85 would be a
-- header with the middle button down: it is dropped, and the report behind the silence is the answer to word 9.
joined_u : Replaced FiveByte (finished (latched_in FiveByte fast) ∷ silent ∷ finished (latched_in FiveByte slow) ∷ []) nothing
    [] [] (0x87 ∷ []) [] (0x85 ∷ 0x00 ∷ 0x85 ∷ 0x00 ∷ 257 ∷ 0x87 ∷ 0x01 ∷ 0x02 ∷ 0x03 ∷ 0x04 ∷ [])
unfolding computing
joined_u = record { sound = ((refl, refl), (tt, ((refl, refl), tt))); sound_going = tt; in_front = no_word; as_sent_lem = refl; legal = refl }

pub unmarked_run : HandsOutAt FiveByte (0x85 ∷ 0x00 ∷ 0x85 ∷ 0x00 ∷ 257 ∷ 0x87 ∷ 0x01 ∷ 0x02 ∷ 0x03 ∷ 0x04 ∷ []) 9 slow
unfolding computing
unmarked_run =
    unmarked FiveByte (finished (latched_in FiveByte fast) ∷ silent ∷ finished (latched_in FiveByte slow) ∷ []) nothing
    [] [] (0x87 ∷ []) [] (0x85 ∷ 0x00 ∷ 0x85 ∷ 0x00 ∷ 257 ∷ 0x87 ∷ 0x01 ∷ 0x02 ∷ 0x03 ∷ 0x04 ∷ []) joined_u
    (finished (latched_in FiveByte fast) ∷ silent ∷ []) (record { format = FiveByte; report = slow; shows = false }) [] refl 9 refl (finished (latched_in FiveByte fast) ∷ []) [] refl tt (omega arith)

pub unmarked_answers : Answered FiveByte (0x85 ∷ 0x00 ∷ 0x85 ∷ 0x00 ∷ 257 ∷ 0x87 ∷ 0x01 ∷ 0x02 ∷ 0x03 ∷ 0x04 ∷ [])
    (Dropped 1 ∷ Dropped 1 ∷ Dropped 1 ∷ Dropped 1 ∷ Nothing ∷ Nothing ∷ Nothing ∷ Nothing ∷ Nothing ∷ answer.Report slow ∷ [])
unfolding computing
unmarked_answers = computed FiveByte _ _ refl

-- Exactly: 90 05 03 loses its second byte, and of the two reports the other one is handed out
pub exactly_run : HandsOut Mm (0x90 ∷ 0x03 ∷ 0x8C ∷ 0x02 ∷ 0x07 ∷ []) (pressed ∷ [])
unfolding computing
exactly_run =
    exactly Mm refl ((refl, refl), ((refl, refl), tt)) tt no_word
    (of_finished [] (finished (latched_in Mm pressed) ∷ []) nothing (latched_in Mm moved) (0x90 ∷ 0x03 ∷ []) (stays (gone (stays none))) (omega arith))

pub exactly_answers : Answered Mm (0x90 ∷ 0x03 ∷ 0x8C ∷ 0x02 ∷ 0x07 ∷ []) (Nothing ∷ Nothing ∷ Dropped 2 ∷ Nothing ∷ answer.Report pressed ∷ [])
unfolding computing
exactly_answers = computed Mm _ _ refl

-- the broken-off 8C 02, and the same two bytes of a report that is going, lose the first: the finished report is handed out
pub exactly_broken_run : HandsOut Mm (0x02 ∷ 256 ∷ 0x90 ∷ 0x05 ∷ 0x03 ∷ []) (moved ∷ [])
unfolding computing
exactly_broken_run =
    exactly Mm refl (((refl, refl), omega arith), ((refl, refl), tt)) tt no_word
    (of_broken [] (finished (latched_in Mm moved) ∷ []) nothing 2 (latched_in Mm pressed) (0x02 ∷ []) (gone (stays none)))

pub exactly_going_run : HandsOut Mm (0x90 ∷ 0x05 ∷ 0x03 ∷ 0x02 ∷ []) (moved ∷ [])
unfolding computing
exactly_going_run =
    exactly Mm refl ((refl, refl), tt) ((refl, refl), omega arith) no_word (of_going (finished (latched_in Mm moved) ∷ []) 2 (latched_in Mm pressed) (0x02 ∷ []) (gone (stays none)))

-- Room: a slice of six numbers has room for the one report found; the sixth stays
pub room_run : (a : NewReader) (b : Reading) (after : List ℤ) → FreshPromise (letter_of Mm) a
    → ReadPromise a.reader (0x90 ∷ 0x03 ∷ 0x8C ∷ 0x02 ∷ 0x07 ∷ []) (pos 9 ∷ pos 9 ∷ pos 9 ∷ pos 9 ∷ pos 9 ∷ pos 9 ∷ []) b after
    → (b.refusal ≡ success) × (b.taken ≡ 5) × (b.reports ≡ 1) × (after ≡ pos 4 ∷ minus 2 ∷ pos 7 ∷ pos 0 ∷ pos 0 ∷ pos 9 ∷ [])
room_run a b after e q =
    let t = (exactly_run a e).by_read (pos 9 ∷ pos 9 ∷ pos 9 ∷ pos 9 ∷ pos 9 ∷ pos 9 ∷ []) after b q (omega arith) in
    (t.refusal, t.taken, t.reports, t.written)

-- so that a line whose word i is answered otherwise does not hand out the report there
only : {f : Format} {words : List ℕ} {l : List Answer} {i : ℕ} {p : Report} → Answered f words l → HandsOutAt f words i p → get_or l i Nothing ≡ answer.Report p
only {f} {words} {l} h at =
    let a = fresh_of (letter_of f) in
    let w = permitted a.reader words in
    rw (h a refl (steps_of a.reader words) w) at (at.by_steps a (steps_of a.reader words) refl w)

-- reports of T: 00 01 02 and 04 03 05
abbrev pub one_two : Report
one_two = reading.report 0 (pos 1) (pos 2)

abbrev pub three_five : Report
three_five = reading.report 4 (pos 3) (pos 5)

-- The mark is needed: in T, after a silence, 00 01 02 loses its first byte. The report 04 03 05 begins after the stretch and ends at word 5; the
-- reader takes its 04 for the end of another, and waits for a third byte there.
pub no_mark_answers : Answered ThreeByte (257 ∷ 0x01 ∷ 0x02 ∷ 0x04 ∷ 0x03 ∷ 0x05 ∷ [])
    (Nothing ∷ Nothing ∷ Nothing ∷ answer.Report (reading.report 1 (pos 2) (pos 4)) ∷ Nothing ∷ Nothing ∷ [])
unfolding computing
no_mark_answers = computed ThreeByte _ _ refl

pub mark_needed : Replaced ThreeByte (silent ∷ finished (latched_in ThreeByte one_two) ∷ finished (latched_in ThreeByte three_five) ∷ []) nothing
    [] (257 ∷ []) (0x00 ∷ []) [] (0x01 ∷ 0x02 ∷ 0x04 ∷ 0x03 ∷ 0x05 ∷ [])
    × EndsAt ThreeByte (silent ∷ finished (latched_in ThreeByte one_two) ∷ []) [] (0x00 ∷ []) [] 5
    × Within (silent ∷ finished (latched_in ThreeByte one_two) ∷ []) (257 ∷ []) (0x00 ∷ [])
    × (HandsOutAt ThreeByte (257 ∷ 0x01 ∷ 0x02 ∷ 0x04 ∷ 0x03 ∷ 0x05 ∷ []) 5 three_five → ⊥)
unfolding computing
mark_needed = (
  record { sound = (tt, ((refl, refl), ((refl, refl), tt))); sound_going = tt; in_front = no_word; as_sent_lem = refl; legal = refl },
  refl,
  omega arith,
  λ h. let e = only no_mark_answers h in let z : ◌≡◌ {A = ℕ} 0 1 = cc in omega arith,
)

-- A silence behind the stretch is needed: in U, after a silence, 87 85 00 85 00 loses its first byte. The report behind it ends at word 9 and is
-- dropped; the one that is handed out in front of it has the middle button down, and nobody pressed it.
pub no_silence_answers : Answered FiveByte (257 ∷ 0x85 ∷ 0x00 ∷ 0x85 ∷ 0x00 ∷ 0x87 ∷ 0x01 ∷ 0x02 ∷ 0x03 ∷ 0x04 ∷ [])
    (Nothing
    ∷ Nothing ∷ Nothing ∷ Nothing ∷ Nothing ∷ answer.Report (record { buttons = 2; x1 = pos 0; y1 = minus 123; x2 = pos 0; y2 = minus 121 })
    ∷ Dropped 1 ∷ Dropped 1 ∷ Dropped 1 ∷ Dropped 1 ∷ [])
unfolding computing
no_silence_answers = computed FiveByte _ _ refl

pub silence_needed : Replaced FiveByte (silent ∷ finished (latched_in FiveByte fast) ∷ finished (latched_in FiveByte slow) ∷ []) nothing
    [] (257 ∷ []) (0x87 ∷ []) [] (0x85 ∷ 0x00 ∷ 0x85 ∷ 0x00 ∷ 0x87 ∷ 0x01 ∷ 0x02 ∷ 0x03 ∷ 0x04 ∷ [])
    × EndsAt FiveByte (silent ∷ finished (latched_in FiveByte fast) ∷ []) [] (0x87 ∷ []) [] 9
    × Within (silent ∷ finished (latched_in FiveByte fast) ∷ []) (257 ∷ []) (0x87 ∷ [])
    × Unbroken (finished (latched_in FiveByte fast) ∷ [])
    × (HandsOutAt FiveByte (257 ∷ 0x85 ∷ 0x00 ∷ 0x85 ∷ 0x00 ∷ 0x87 ∷ 0x01 ∷ 0x02 ∷ 0x03 ∷ 0x04 ∷ []) 9 slow → ⊥)
unfolding computing
silence_needed = (
  record { sound = (tt, ((refl, refl), ((refl, refl), tt))); sound_going = tt; in_front = no_word; as_sent_lem = refl; legal = refl },
  refl,
  omega arith,
  tt,
  λ h. let e = only no_silence_answers h in let z : ◌≡◌ {A = ℕ} 0 1 = cc in omega arith,
)

-- That no report is broken off between is needed: in T, behind the stretch, come a silence, 00 broken off, and 04 03 05, which ends at word 6 and is
-- dropped
pub broken_answers : Answered ThreeByte (0x09 ∷ 257 ∷ 0x00 ∷ 256 ∷ 0x04 ∷ 0x03 ∷ 0x05 ∷ [])
    (Dropped 1 ∷ Nothing ∷ Nothing ∷ Dropped 1 ∷ Dropped 1 ∷ Dropped 1 ∷ Dropped 1 ∷ [])
unfolding computing
broken_answers = computed ThreeByte _ _ refl

pub unbroken_needed : Replaced ThreeByte (silent ∷ broken 1 (latched_in ThreeByte one_two) ∷ finished (latched_in ThreeByte three_five) ∷ []) nothing
    [] [] [] (0x09 ∷ []) (257 ∷ 0x00 ∷ 256 ∷ 0x04 ∷ 0x03 ∷ 0x05 ∷ [])
    × EndsAt ThreeByte (silent ∷ broken 1 (latched_in ThreeByte one_two) ∷ []) [] [] (0x09 ∷ []) 6
    × Within [] [] []
    × (HandsOutAt ThreeByte (0x09 ∷ 257 ∷ 0x00 ∷ 256 ∷ 0x04 ∷ 0x03 ∷ 0x05 ∷ []) 6 three_five → ⊥)
unfolding computing
unbroken_needed = (
  record { sound = (tt, (((refl, refl), omega arith), ((refl, refl), tt))); sound_going = tt; in_front = no_word; as_sent_lem = refl; legal = refl },
  refl,
  omega arith,
  λ h. let e = only broken_answers h in let z : ◌≡◌ {A = ℕ} 0 1 = cc in omega arith,
)

-- That a byte is removed is needed: where none is, the report itself is handed out too
pub none_removed_answers : Answered Mm (0x90 ∷ 0x05 ∷ 0x03 ∷ []) (Nothing ∷ Nothing ∷ answer.Report moved ∷ [])
unfolding computing
none_removed_answers = computed Mm _ _ refl

pub removal_needed : SoundIn Mm (finished (latched_in Mm moved) ∷ []) × Sub (0x90 ∷ 0x05 ∷ 0x03 ∷ []) (bytes_of Mm moved) × (HandsOut Mm (0x90 ∷ 0x05 ∷ 0x03 ∷ []) [] → ⊥)
unfolding computing
removal_needed = (
  ((refl, refl), tt),
  stays (stays (stays none)),
  λ h. let a = fresh_of (letter_of Mm) in let e = only_these (none_removed_answers a refl) (h a refl) in let z : ◌≡◌ {A = ℕ} 0 1 = cc in omega arith,
)
