-- From the pin to the save, worked out in T with no button down at any time (the moves of WorkedDamage), and in V with the
-- first stop bit as bit 7; and for each thing that is asked of the program a run that lacks it: then M goes down.
use Rattle.std.specs.Prelude.{ℕ, ◌<◌, ◌≡◌, refl, List, [], ◌∷◌, ◌++◌, pos}
use Rattle.std.proofs.Common.{arith}
use Rattle.numbers.specs.Signed.{minus}
use Rattle.numbers.specs.Bits.{number, bit, bits}
use Rattle.wire.specs.Line.{letter_of}
use Rattle.wire.specs.Reading.{report}
use Rattle.wire.specs.declared.Format.TheVariants.{Microsoft, ThreeByte}
use Rattle.port.specs.Marks.{opened, cleared, plain, behind_mark, byte_of, quiet_of}
use Rattle.port.specs.Delivered.{sound, damaged, broken}
use Rattle.port.specs.Sessions.{read, thrown, quiet, lost, words_over, reads, sum, Alike, same, before_thrown, no_word, later, and_then}
use Rattle.port.specs.Hearing.{came, missed, Arrival, events_from, SureFrom}
use Rattle.port.specs.Arriving.{moment, is_damaged, is_broken, is_missed, nothing, sounds, harmed, Arrives, arrives}
use Rattle.port.specs.Promises.{Calls}
use Rattle.port.proofs.Rightly.{calls_are}
use Rattle.reader.specs.State.{ready}
use Rattle.reader.specs.DamagedLines.{TrueBy, is_ready}
use Rattle.reader.specs.declared.Answer.TheVariants.{Nothing, Dropped}
use Rattle.reader.specs.declared.Answer.TheVariants as answer
use Rattle.reader.proofs.DamagedRuns.{AnsweredBy, computed_by}
use Rattle.ballbox.specs.Box.{fresh_box}
use Rattle.ballbox.specs.declared.Event as box
use Rattle.ballbox.specs.declared.Event.TheVariants.{Motion, Host}
use Rattle.history.specs.Runs.{answers_to}
use Rattle.history.proofs.Permitted.{answer_permitted, answers_permitted}
use Rattle.demands.specs.Computing.{computing}
use Rattle.demands.specs.Demand3.{Run, from_then_on}
use Rattle.demands.specs.Worked.{slots, set_to}
use Rattle.demands.specs.WorkedDamage.{moves, far, near, false_press, words, run}
use Rattle.demands.specs.Pin.{from_the_pin_to_the_report}

-- A silence is 100 long. 00 is lost, and 02 is thrown away with it; E8 comes damaged; a break comes in; then a silence
-- stands, and the last report comes sound.
abbrev coming : Arrival
coming =
    record {
      silences = 0;
      waited = 40 ∷ [];
      moments =
          moment (missed (sound 0x02 ∷ [])) 0 [] ∷ moment (came (damaged 0xFF)) 0 [] ∷ moment (came (sound 0x00)) 0 (60 ∷ 30 ∷ [])
          ∷ moment (came (sound 0x01)) 0 [] ∷ moment (came broken) 0 [] ∷ moment (came (sound 0x00)) 1 (60 ∷ 60 ∷ [])
          ∷ moment (came (sound 0x00)) 0 [] ∷ moment (came (sound 0x01)) 0 [] ∷ moment (came (sound 0x00)) 0 [] ∷ [];
    }

comes : Arrives 0 coming words
unfolding cleared
comes =
    arrives 0 (40 ∷ [])
    (harmed (is_missed (sound 0x02 ∷ [])) (0x00 ∷ 0x02 ∷ []) 0 []
    (harmed (is_damaged 0xFF) (0xE8 ∷ []) 0 []
    (sounds 0x00 0 (60 ∷ 30 ∷ []) (omega arith)
    (sounds 0x01 0 [] (omega arith)
    (harmed is_broken [] 0 []
    (sounds 0x00 1 (60 ∷ 60 ∷ []) (omega arith)
    (sounds 0x00 0 [] (omega arith)
    (sounds 0x01 0 [] (omega arith)
    (sounds 0x00 0 [] (omega arith) nothing)))))))))

sure : SureFrom 100 coming
unfolding sum
sure =
    let l : ◌≡◌ {A = ℕ} 0 0 → 0 < 100 = λ _. omega arith in (
      (λ _. omega arith),
      (l, (l, ((λ _. omega arith), (l, (l, ((λ e. absurd (omega (arith, e))), (l, (l, (l, tt))))))))),
    )

abbrev told : List ℕ
told = 256 ∷ 256 ∷ 0x00 ∷ 0x01 ∷ 256 ∷ 0x00 ∷ 257 ∷ 0x00 ∷ 0x01 ∷ 0x00 ∷ []

pub is_told : words_over (opened 0 100) (events_from coming) ≡ told
unfolding words_over byte_of plain behind_mark quiet_of cleared
is_told = refl

calls : Calls (opened 0 100) (events_from coming) told
calls = rw is_told at (calls_are (opened 0 100) (events_from coming))

pub true_in_t : TrueBy (ready (letter_of ThreeByte)) told (far ∷ near ∷ near ∷ [])
unfolding computing
true_in_t = from_the_pin_to_the_report (run moves refl) from_then_on 0 100 refl coming (λ _. sure) same calls comes is_ready

pub told_answers : AnsweredBy (ready (letter_of ThreeByte)) told
    (Nothing ∷ Nothing ∷ Dropped 1 ∷ Dropped 1 ∷ Nothing ∷ Dropped 1 ∷ Nothing ∷ Nothing ∷ Nothing ∷ answer.Report near ∷ [])
unfolding computing
told_answers = computed_by (ready (letter_of ThreeByte)) _ _ refl

-- V on a card without seven data bits: 40 03 00 come with the first stop bit as bit 7, and the port clears it.
abbrev east : List box.Event
east = Motion (pos 3) (pos 0) ∷ slots 3 []

run_v : Run Microsoft fresh_box (set_to Microsoft) east (answers_to (set_to Microsoft).next east)
unfolding computing
run_v =
    record {
      good = refl;
      awake = refl;
      set = answer_permitted fresh_box (Host (letter_of Microsoft));
      asked = refl;
      permitted = answers_permitted (set_to Microsoft).next east;
    }

abbrev coming_v : Arrival
coming_v =
    record {
      silences = 0;
      waited = [];
      moments = moment (came (sound 0xC0)) 0 [] ∷ moment (came (sound 0x83)) 0 [] ∷ moment (came (sound 0x80)) 0 [] ∷ [];
    }

comes_v : Arrives 1 coming_v (0x40 ∷ 0x03 ∷ 0x00 ∷ [])
unfolding cleared number bits bit
comes_v = arrives 0 [] (sounds 0xC0 0 [] (omega arith) (sounds 0x83 0 [] (omega arith) (sounds 0x80 0 [] (omega arith) nothing)))

pub cleared_in_v : words_over (opened 1 100) (events_from coming_v) ≡ 0x40 ∷ 0x03 ∷ 0x00 ∷ []
unfolding words_over byte_of plain behind_mark cleared number bits bit
cleared_in_v = refl

pub true_in_v : TrueBy (ready (letter_of Microsoft)) (0x40 ∷ 0x03 ∷ 0x00 ∷ []) (report 0 (pos 3) (pos 0) ∷ [])
unfolding computing sum
true_in_v =
    let calls_v = rw cleared_in_v at (calls_are (opened 1 100) (events_from coming_v)) in
    let none : ◌≡◌ {A = ℕ} 0 0 → 0 < 100 = λ _. omega arith in
    from_the_pin_to_the_report run_v from_then_on 1 100 refl coming_v (λ _. (none, (none, (none, (none, tt))))) same calls_v comes_v is_ready

-- What is asked of the program and the tty: without it the port tells words of which a reader hands out that M went down.
-- The first byte of 00 02 E8 00 is the one harmed.
abbrev behind : List ℕ
behind = 0x02 ∷ 0xE8 ∷ 0x00 ∷ []

-- to be sure of a silence: a wait of its length is handed in behind the first byte, and none stood there
pub must_be_sure : (words_over (opened 0 100) (read 0x00 ∷ quiet 100 ∷ reads behind) ≡ 0x00 ∷ 257 ∷ behind)
    × AnsweredBy (ready (letter_of ThreeByte)) (0x00 ∷ 257 ∷ behind) (Nothing ∷ Dropped 1 ∷ Nothing ∷ Nothing ∷ answer.Report false_press ∷ [])
unfolding computing words_over byte_of plain behind_mark quiet_of cleared
must_be_sure = (refl, computed_by (ready (letter_of ThreeByte)) _ _ refl)

-- to tell a loss before what comes behind it, or to throw that away: the first byte is lost, and that is told three bytes
-- late
pub must_tell_in_time : (words_over (opened 0 100) (reads behind ++ (lost ∷ [])) ≡ behind ++ (256 ∷ []))
    × AnsweredBy (ready (letter_of ThreeByte)) (behind ++ (256 ∷ [])) (Nothing ∷ Nothing ∷ answer.Report false_press ∷ Nothing ∷ [])
unfolding computing words_over byte_of plain behind_mark cleared
must_tell_in_time = (refl, computed_by (ready (letter_of ThreeByte)) _ _ refl)

-- to let the tty mark errors (INPCK, PARMRK): 00 arrives as 02, its error is not marked
pub must_mark : (words_over (opened 0 100) (read 0x02 ∷ reads behind) ≡ 0x02 ∷ behind)
    × AnsweredBy (ready (letter_of ThreeByte)) (0x02 ∷ behind) (Nothing ∷ Nothing ∷ answer.Report (report 2 (pos 2) (minus 24)) ∷ Nothing ∷ [])
unfolding computing words_over byte_of plain behind_mark cleared
must_mark = (refl, computed_by (ready (letter_of ThreeByte)) _ _ refl)

-- A program whose first lot ends within a mark, FF; then the count of losses goes up, and it throws away the words of what
-- comes until nothing is left to be read.
pub cut_in_two : Alike (opened 0 100) (read 0x00 ∷ read 0xFF ∷ lost ∷ thrown 0x00 ∷ thrown 0x41 ∷ lost ∷ [])
    (events_from
    (record {
      silences = 0;
      waited = [];
      moments = moment (came (sound 0x00)) 0 [] ∷ moment (missed []) 0 [] ∷ moment (missed (damaged 0x41 ∷ [])) 0 [] ∷ [];
    }))
unfolding byte_of plain behind_mark
cut_in_two = later (and_then (no_word refl) before_thrown)
