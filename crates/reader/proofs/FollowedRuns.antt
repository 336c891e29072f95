-- Worked lines as they were sent: for each theorem of Followed a line that meets its conditions, with the answers computed; and for each condition a
-- line that lacks only this one, and of which other reports are handed out.
use Prim.Native.Nat.{ℕ}
use mathlib.Core.Path.{◌≡◌, refl}
use mathlib.Core.List.{List, [], ◌∷◌}
use native.Mathlib.Omega.{arith}
use Rattle.frames.specs.Passages.{Passage, silent, finished, broken, first, Unbroken, passage_words}
use Rattle.wire.specs.Line.{letter_of}
use Rattle.wire.specs.Messages.{Message, latched_in, message_bytes, SoundIn, SoundEnd, finished_reports}
use Rattle.wire.specs.declared.Format.TheVariants.{Mm, FiveByte, ThreeByte}
use Rattle.reader.specs.State.{ready}
use Rattle.reader.specs.Promises.{fresh_of}
use Rattle.reader.specs.DamagedLines.{HandsOutBy, HandsOut}
use Rattle.reader.specs.declared.Answer.TheVariants.{Nothing, Dropped}
use Rattle.reader.specs.declared.Answer.TheVariants as answer
use Rattle.reader.proofs.Computing.{computing}
use Rattle.reader.proofs.DamagedRuns.{AnsweredBy, Answered, computed_by, computed, only_these, moved, pressed, fast, slow, one_two, three_five}
use Rattle.reader.proofs.Followed.{followed_marked, fresh_followed_marked, followed_unbroken, fresh_followed}

-- In S: 90 05 03, a silence, 8C 02 broken off, 8C 02 07, and 90 of a report that is going
abbrev sent_s : List (Passage Message)
sent_s = finished (latched_in Mm moved) ∷ silent ∷ broken 2 (latched_in Mm pressed) ∷ finished (latched_in Mm pressed) ∷ []

abbrev words_s : List ℕ
words_s = 0x90 ∷ 0x05 ∷ 0x03 ∷ 257 ∷ 0x8C ∷ 0x02 ∷ 256 ∷ 0x8C ∷ 0x02 ∷ 0x07 ∷ 0x90 ∷ []

sound_s : SoundIn Mm sent_s × SoundEnd Mm (first 1 (latched_in Mm moved))
unfolding computing
sound_s = (((refl, refl), (tt, (((refl, refl), omega arith), ((refl, refl), tt)))), ((refl, refl), omega arith))

pub followed_marked_line : HandsOutBy (ready (letter_of Mm)) words_s (moved ∷ pressed ∷ [])
unfolding computing
followed_marked_line = followed_marked Mm sent_s (first 1 (latched_in Mm moved)) sound_s.0 sound_s.1 refl

pub fresh_followed_marked_line : HandsOut Mm words_s (moved ∷ pressed ∷ [])
unfolding computing
fresh_followed_marked_line = fresh_followed_marked Mm sent_s (first 1 (latched_in Mm moved)) sound_s.0 sound_s.1 refl

pub followed_marked_answers : AnsweredBy (ready (letter_of Mm)) words_s
    (Nothing ∷ Nothing ∷ answer.Report moved ∷ Nothing ∷ Nothing ∷ Nothing ∷ Dropped 2 ∷ Nothing ∷ Nothing ∷ answer.Report pressed ∷ Nothing ∷ [])
unfolding computing
followed_marked_answers = computed_by (ready (letter_of Mm)) _ _ refl

-- In U: 87 85 00 85 00, a silence, 87 01 02 03 04, and 87 01 of a report that is going. A ready reader hands out both reports.
abbrev sent_u : List (Passage Message)
sent_u = finished (latched_in FiveByte fast) ∷ silent ∷ finished (latched_in FiveByte slow) ∷ []

abbrev words_u : List ℕ
words_u = 0x87 ∷ 0x85 ∷ 0x00 ∷ 0x85 ∷ 0x00 ∷ 257 ∷ 0x87 ∷ 0x01 ∷ 0x02 ∷ 0x03 ∷ 0x04 ∷ 0x87 ∷ 0x01 ∷ []

sound_u : SoundIn FiveByte sent_u × SoundEnd FiveByte (first 2 (latched_in FiveByte slow))
unfolding computing
sound_u = (((refl, refl), (tt, ((refl, refl), tt))), ((refl, refl), omega arith))

pub followed_unbroken_line : HandsOutBy (ready (letter_of FiveByte)) words_u (fast ∷ slow ∷ [])
unfolding computing
followed_unbroken_line = followed_unbroken FiveByte sent_u (first 2 (latched_in FiveByte slow)) sound_u.0 sound_u.1 tt

pub followed_unbroken_answers : AnsweredBy (ready (letter_of FiveByte)) words_u
    (Nothing ∷ Nothing ∷ Nothing ∷ Nothing ∷ answer.Report fast ∷ Nothing ∷ Nothing ∷ Nothing ∷ Nothing ∷ Nothing ∷ answer.Report slow ∷ Nothing ∷ Nothing ∷ [])
unfolding computing
followed_unbroken_answers = computed_by (ready (letter_of FiveByte)) _ _ refl

-- and a fresh one the report behind the silence alone
pub fresh_followed_line : HandsOut FiveByte words_u (slow ∷ [])
unfolding computing
fresh_followed_line =
    fresh_followed FiveByte sent_u (first 2 (latched_in FiveByte slow)) sound_u.0 sound_u.1
    (finished (latched_in FiveByte fast) ∷ []) (finished (latched_in FiveByte slow) ∷ []) refl refl tt tt

pub fresh_followed_answers : Answered FiveByte words_u
    (Dropped 1 ∷ Dropped 1 ∷ Dropped 1 ∷ Dropped 1 ∷ Dropped 1 ∷ Nothing ∷ Nothing ∷ Nothing ∷ Nothing ∷ Nothing ∷ answer.Report slow ∷ Nothing ∷ Nothing ∷ [])
unfolding computing
fresh_followed_answers = computed FiveByte _ _ refl

-- That the reader is ready is needed: the fresh one does not hand out both
pub ready_needed : Unbroken sent_u × (HandsOut FiveByte words_u (finished_reports FiveByte sent_u) → ⊥)
unfolding computing
ready_needed = (
  tt,
  λ h.
      let a = fresh_of (letter_of FiveByte) in
      let e = only_these (fresh_followed_answers a refl) (h a refl) in
      let z : ◌≡◌ {A = ℕ} 0 1 = cc in omega arith,
)

-- So is the mark, or that no report is broken off: in T come 00 broken off and 04 03 05, of which a ready reader hands out nothing
abbrev sent_t : List (Passage Message)
sent_t = broken 1 (latched_in ThreeByte one_two) ∷ finished (latched_in ThreeByte three_five) ∷ []

abbrev words_t : List ℕ
words_t = 0x00 ∷ 256 ∷ 0x04 ∷ 0x03 ∷ 0x05 ∷ []

pub mark_or_unbroken_needed : SoundIn ThreeByte sent_t
    × (passage_words message_bytes sent_t ≡ words_t)
    × (HandsOutBy (ready (letter_of ThreeByte)) words_t (finished_reports ThreeByte sent_t) → ⊥)
unfolding computing
mark_or_unbroken_needed = (
  (((refl, refl), omega arith), ((refl, refl), tt)),
  refl,
  λ h.
      let e = only_these (computed_by (ready (letter_of ThreeByte)) words_t (Nothing ∷ Dropped 1 ∷ Dropped 1 ∷ Dropped 1 ∷ Dropped 1 ∷ []) refl) h in
      let z : ◌≡◌ {A = ℕ} 0 1 = cc in omega arith,
)

-- For a fresh reader it is needed behind the first silence
pub unbroken_behind_needed : HandsOut ThreeByte (257 ∷ words_t) (finished_reports ThreeByte sent_t) → ⊥
unfolding computing
unbroken_behind_needed h =
    let a = fresh_of (letter_of ThreeByte) in
    let e = only_these (computed ThreeByte (257 ∷ words_t) (Nothing ∷ Nothing ∷ Dropped 1 ∷ Dropped 1 ∷ Dropped 1 ∷ Dropped 1 ∷ []) refl a refl) (h a refl) in
    let z : ◌≡◌ {A = ℕ} 0 1 = cc in omega arith

-- and the silence has to be the first: with one in front of all, the report between the two is handed out too
pub first_silence_needed : HandsOut FiveByte (257 ∷ words_u) (finished_reports FiveByte (finished (latched_in FiveByte slow) ∷ [])) → ⊥
unfolding computing
first_silence_needed h =
    let a = fresh_of (letter_of FiveByte) in
    let l = Nothing ∷ Nothing ∷ Nothing ∷ Nothing ∷ Nothing ∷ answer.Report fast ∷ Nothing ∷ Nothing ∷ Nothing ∷ Nothing ∷ Nothing ∷ answer.Report slow ∷ Nothing ∷ Nothing ∷ [] in
    let e = only_these (computed FiveByte (257 ∷ words_u) l refl a refl) (h a refl) in
    let z : ◌≡◌ {A = ℕ} 0 1 = cc in omega arith

-- and the format unmarked: of 90 05 03, a silence and 8C 02 07 a fresh reader of S hands out the report in front of the silence too
pub no_mark_needed : HandsOut Mm (0x90 ∷ 0x05 ∷ 0x03 ∷ 257 ∷ 0x8C ∷ 0x02 ∷ 0x07 ∷ []) (finished_reports Mm (finished (latched_in Mm pressed) ∷ [])) → ⊥
unfolding computing
no_mark_needed h =
    let a = fresh_of (letter_of Mm) in
    let e = only_these (computed Mm _ (Nothing ∷ Nothing ∷ answer.Report moved ∷ Nothing ∷ Nothing ∷ Nothing ∷ answer.Report pressed ∷ []) refl a refl) (h a refl) in
    let z : ◌≡◌ {A = ℕ} 0 1 = cc in omega arith
