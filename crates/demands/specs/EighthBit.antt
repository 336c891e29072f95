-- The eighth bit of a Microsoft byte: "In V the reader shall clear bit 7 first: 108 and 236 are the same first byte". What demand 2 says of it stands in
-- `encoded_again`; demand 3 stands.
use Rattle.std.specs.Prelude.{ℕ, ◌<◌, ◌≡◌, refl, true, List, [], ◌∷◌, ◌++◌, length, ℤ, pos}
use Rattle.std.proofs.Common.{◌∙◌, ap, arith}
use Rattle.frames.specs.Passages as passages
use Rattle.frames.specs.Passages.{Passage, finished, nothing, InOne, in_finished_lem, Sub, gone}
use Rattle.frames.specs.Words.{line_words}
use Rattle.frames.proofs.Words.{passing}
use Rattle.wire.specs.Line.{letter_of}
use Rattle.wire.specs.Holds.{carried}
use Rattle.wire.specs.Reading.{report as move}
use Rattle.wire.specs.Messages.{Latched, Message, report, message_bytes, latched_in, showing_in, finished_reports}
use Rattle.wire.specs.declared.Format.TheVariants.{Microsoft}
use Rattle.reader.specs.EighthBit.{turned, seven_bits, TurnedOver, none, turns}
use Rattle.reader.specs.Promises.{ReadPromise}
use Rattle.reader.specs.Runs.{StepsPromise}
use Rattle.reader.specs.declared.Reader.{Reader}
use Rattle.reader.specs.State.{Read}
use Rattle.reader.specs.DamagedLines.{Within, EndsAt, HandsOut, HandsOutAt}
use Rattle.reader.proofs.EighthBit as reader
use Rattle.ballbox.specs.declared.BallBox.{BallBox}
use Rattle.ballbox.specs.declared.Event.{Event}
use Rattle.ballbox.specs.declared.Event.TheVariants.{Motion, Buttons}
use Rattle.ballbox.specs.declared.Stepped.{Stepped}
use Rattle.history.specs.Runs.{words_given}
use Rattle.history.proofs.Asking.{asked_sound}
use Rattle.demands.specs.Computing.{computing}
use Rattle.demands.specs.Worked.{slots, SendsWords, run_of, press}
use Rattle.demands.specs.Turned.{turned_none, turned_both, turned_length, turned_parts, turned_left, in_one_long, turned_at, turned_out}
use Rattle.demands.specs.Demand3.{Run, Front, from_then_on, sent, still_going, set_box, as_sent_lem, marked, exactly}
use Rattle.reader.specs.Line.{Reading}

-- a line, and the same with bit 7 of any of its bytes turned over, are answered alike, word by word
pub turned_steps : (r : Reader) {u v : List ℕ} (a b : List Read)
    → r.format ≡ letter_of Microsoft
    → TurnedOver u v
    → StepsPromise r u a
    → StepsPromise r v b
    → a ≡ b
turned_steps = reader.turned_steps

-- and by the long read: the same refusal, reader and counts, and the same number in each place of the slice
pub turned_read : (r : Reader) {u v : List ℕ} (out : List ℤ) (a b : Reading) (x y : List ℤ)
    → r.format ≡ letter_of Microsoft
    → TurnedOver u v
    → ReadPromise r u out a x
    → ReadPromise r v out b y
    → (a ≡ b) × (x ≡ y)
turned_read = reader.turned_read

-- "The box still sends it as 0.": a box that is set to V and asked only for reports sends no byte of 128 or over
pub sends_seven_bits : {b : BallBox} {a : Stepped} {events : List Event} {answers : List Stepped}
    → Run Microsoft b a events answers
    → passing seven_bits (words_given answers) ≡ true
sends_seven_bits {b} {a} {events} run =
    let s = asked_sound Microsoft a.next nothing events run.asked (set_box run) in
    rw (as_sent_lem run) (reader.line_seven_bits (sent a events) (still_going a events) s.0 s.1)

-- "Demand 3 stands": a port that turns over bit 7 of all bytes of the line, or of any, and then a stretch of what it
-- hands over replaced. A run of a box that is set to V, and `line`, what comes of its words.
module _ {b : BallBox} {a : Stepped} {events : List Event} {answers : List Stepped} (run : Run Microsoft b a events answers)
    {front : List ℕ} (in_front : Front a front)
    (pre old new post : List ℕ)
    (line : TurnedOver (words_given answers) (pre ++ (old ++ post))) where
  as_it_was : (x y z : List ℕ) × (words_given answers ≡ x ++ (y ++ z)) × TurnedOver x pre × TurnedOver y old × TurnedOver z post
  as_it_was =
      let p = turned_parts pre (old ++ post) line in
      let q = turned_parts old post p.4 in
      (p.0, q.0, q.1, p.2 ∙ ap (λ (l : List ℕ). p.0 ++ l) q.2, p.3, q.3, q.4)

  -- "each finished report that begins after the stretch is handed out as the box sent it"
  pub turned_marked : line_words new ≡ true
      → (before : List (Passage Message)) (r : Latched) (after : List (Passage Message))
      → sent a events ≡ before ++ (finished (report r) ∷ after)
      → (i : ℕ)
      → EndsAt Microsoft before front old new i
      → Within before pre old
      → HandsOutAt Microsoft (front ++ (pre ++ (new ++ post))) i (carried Microsoft r.report)
  turned_marked legal before r after is i place within =
      let w = as_it_was in
      let m = turned_length w.5 in
      turned_at (turned_both (turned_none front) (turned_both w.4 (turned_both (turned_none new) w.6)))
      (marked run in_front w.0 w.1 new w.2 w.3 legal before r after is i (rw m place) refl (rw (turned_length w.4, m) within))

  -- "If the stretch only removed bytes of a single report [..], exactly the finished reports other than that one are
  -- handed out, in the order sent."
  pub turned_exactly : {others : List (Passage Message)}
      → InOne message_bytes pre old (sent a events) (still_going a events) others
      → Sub new old
      → length new < length old
      → HandsOut Microsoft (front ++ (pre ++ (new ++ post))) (finished_reports Microsoft others)
  turned_exactly one less some =
      let w = as_it_was in
      let k = turned_left less w.5 in
      turned_out (turned_both (turned_none front) (turned_both w.4 (turned_both k.2 w.6)))
      (exactly run {pre = w.0} {old = w.1} k.0 w.2 in_front refl w.3
      (in_one_long message_bytes (turned_length w.4) (turned_length w.5) one) k.1 (rw (turned_length k.2, turned_length w.5) some))

-- Worked: a movement and a press, each of their bytes with bit 7 set, and of the movement's 85 BD became 00 256. The
-- press is the answer to word 5.
abbrev events_v : List Event
events_v = Motion (pos 5) (pos 3) ∷ slots 3 (Buttons 4 ∷ slots 3 [])

pub in_v : SendsWords Microsoft events_v
    (0x4C ∷ 0x05 ∷ 0x3D ∷ 0x60 ∷ 0x00 ∷ 0x00 ∷ [])
    (finished (latched_in Microsoft (move 0 (pos 5) (pos 3))) ∷ finished (showing_in Microsoft press) ∷ [])
unfolding computing
in_v = record { asked = refl; line = refl; is = refl; ends = refl }

pub turned_v : HandsOutAt Microsoft (0xCC ∷ 0x00 ∷ 256 ∷ 0xE0 ∷ 0x80 ∷ 0x80 ∷ []) 5 press
unfolding computing turned
turned_v =
    turned_marked (run_of in_v) from_then_on
    (0xCC ∷ []) (0x85 ∷ 0xBD ∷ []) (0x00 ∷ 256 ∷ []) (0xE0 ∷ 0x80 ∷ 0x80 ∷ [])
    (rw in_v.line (turns refl (turns refl (turns refl (turns refl (turns refl (turns refl none)))))))
    refl (finished (latched_in Microsoft (move 0 (pos 5) (pos 3))) ∷
    []) (record { format = Microsoft; report = press; shows = true }) [] in_v.is 5 refl (omega arith)

-- and the movement's second byte lost
pub turned_lost_v : HandsOut Microsoft (0xCC ∷ 0xBD ∷ 0xE0 ∷ 0x80 ∷ 0x80 ∷ []) (press ∷ [])
unfolding computing turned
turned_lost_v =
    turned_exactly (run_of in_v) from_then_on
    (0xCC ∷ []) (0x85 ∷ []) [] (0xBD ∷ 0xE0 ∷ 0x80 ∷ 0x80 ∷ [])
    (rw in_v.line (turns refl (turns refl (turns refl (turns refl (turns refl (turns refl none)))))))
    (in_finished_lem [] (finished (showing_in Microsoft press) ∷ []) nothing (latched_in Microsoft (move 0 (pos 5) (pos 3))) (omega arith) (omega arith))
    (gone passages.none) (omega arith)
