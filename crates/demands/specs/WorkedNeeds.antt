-- What the theorems of Saves ask for, one by one: for each condition of `a_press_survives`, of `as_many_saves` and of
-- `no_save_unmade` a run that lacks this one alone, and what a reader hands out of it. Which conditions a run lacks is
-- computed with it, by a list that leaves none out.
use Rattle.std.specs.Prelude.{ℕ, suc, ◌*◌, ◌≡◌, refl, Bool, true, false, not, cond, ◌||◌, List, [], ◌∷◌, ◌++◌, eqb, leb, pos, length}
use Rattle.std.proofs.Common.{ap, arith, leb-true, eqb-true}
use Rattle.std.proofs.lemmas.Bool.{eqb-false, not-true}
use Rattle.numbers.specs.Signed.{minus}
use Rattle.numbers.proofs.Choices.{or_else}
use Rattle.frames.specs.Passages.{UnderWay, nothing, first, part_words}
use Rattle.wire.specs.Line.{letter_of, size_of}
use Rattle.wire.specs.Table.{five}
use Rattle.wire.specs.Messages.{Message, reply, message_bytes, latched_in, finished_reports}
use Rattle.wire.specs.Buttons.{middle, is_down, presses, buttons_of, presses_from, presses_among, CarriedBy}
use Rattle.wire.specs.declared.Report.{Report}
use Rattle.wire.specs.declared.Format.{Format}
use Rattle.wire.specs.declared.Format.TheVariants.{Mm, Microsoft, FiveByte, ThreeByte}
use Rattle.reader.specs.State.{fresh, ready, reader}
use Rattle.reader.specs.Counts.{handed_out}
use Rattle.reader.specs.Runs.{steps_of, answers}
use Rattle.reader.specs.declared.Reader.{Reader}
use Rattle.ballbox.specs.Box.{mode_o, mode_d, with_buttons, with_memory, dormant}
use Rattle.ballbox.specs.Presses.{remembered, memory}
use Rattle.ballbox.specs.Commands.{is_stream, letter_p, letterd, space}
use Rattle.ballbox.specs.Events.{bytes_left, asleep, woken}
use Rattle.ballbox.specs.Good.{good}
use Rattle.ballbox.specs.declared.BallBox.{BallBox}
use Rattle.ballbox.specs.declared.Event.{Event}
use Rattle.ballbox.specs.declared.Event.TheVariants.{Motion, Buttons, Host, Latch, Send}
use Rattle.history.specs.Runs.{words_given, answers_to}
use Rattle.history.specs.History.{next_box, passages_of}
use Rattle.history.specs.Carried.{Carries, Carrying}
use Rattle.history.specs.Asked.{all_unanswered}
use Rattle.history.specs.Presses.{buttons_told, made, owed, none_empties, no_host, never_ninth, slots_in, box_after, among_seven, without_ninth}
use Rattle.history.proofs.Presses.{at_rest_lem}
use Rattle.demands.specs.Computing.{computing}
use Rattle.demands.specs.Worked.{slots}
use Rattle.demands.specs.Taps.{box_in, with_x}
use Rattle.demands.specs.Saves.{Box, Press, Begins, carries_middle}

-- the words of a run, and the reports that a reader hands out of words
abbrev pub words_of : BallBox → List Event → List ℕ
words_of b events = words_given (answers_to b events)

abbrev pub handed : Reader → List ℕ → List Report
handed r words = handed_out (answers (steps_of r words))

-- The conditions, by their names in Saves: of `Box` and `Begins` (for a box in which nothing is going; where a report is
-- going, see below), of what comes before the press, of `Press`, and of counts.
pub data Condition : Type 0 where
  is_good : Condition
  is_awake : Condition
  is_format : Condition
  is_idle : Condition
  is_none : Condition
  is_unanswered : Condition
  is_carried : Condition
  is_stream_lem : Condition
  is_known : Condition
  is_change : Condition
  is_room : Condition
  is_kept : Condition
  is_quiet : Condition
  is_slots : Condition
  is_keeping : Condition
  is_never : Condition
  is_shown : Condition

-- a condition, and whether it is met; of many, those that are lacking
pub record Asked : Type 0 where
  pub condition : Condition
  pub met : Bool

abbrev pub asks : Condition → Bool → Asked
asks condition met = record { condition = condition; met = met }

abbrev pub lacking : List Asked → List Condition
lacking [] = []
lacking (a ∷ more) = cond a.met (lacking more) (a.condition ∷ lacking more)

-- where none is, all are met
abbrev pub Met : List Asked → Type 0
Met [] = Unit {0}
Met (a ∷ more) = (a.met ≡ true) × Met more

pub none_lacking : (asked : List Asked) → lacking asked ≡ [] → Met asked
none_lacking [] e = tt
none_lacking (a ∷ more) e = go a.met refl (none_lacking more) e
  where
    go : (t : Bool) → a.met ≡ t → (lacking more ≡ [] → Met more) → cond t (lacking more) (a.condition ∷ lacking more) ≡ [] → (a.met ≡ true) × Met more
    go true is rest none = (is, rest none)
    go false is rest none = absurd (omega (arith, ap length none))

-- what `a_press_survives` asks of a press
abbrev asks_of : Format → BallBox → List Event → ℕ → List Event → List Asked
asks_of f b front n back =
    let c = box_after b front in
    let d = next_box c (Buttons n) in
    asks is_good (good b)
    ∷ asks is_awake (not (dormant b))
    ∷ asks is_format (eqb b.settings.format (letter_of f))
    ∷ asks is_idle (not (bytes_left b))
    ∷ asks is_unanswered (all_unanswered front)
    ∷ asks is_stream_lem (is_stream c.settings.mode)
    ∷ asks is_known (leb n 7)
    ∷ asks is_change (not (eqb n c.settings.buttons))
    ∷ asks is_room (leb (length (remembered c.memory)) 7)
    ∷ asks is_kept (leb (length (remembered d.memory)) 7 || never_ninth d back)
    ∷ asks is_quiet (no_host back)
    ∷ asks is_slots (leb (suc (suc (length (remembered c.memory))) * size_of f) (slots_in back))
    ∷ []

-- Where none is lacking, the theorem applies: the list leaves no condition out.
pub all_met : (f : Format) (b : BallBox) (front : List Event) (n : ℕ) (back : List Event) → lacking (asks_of f b front n back) ≡ []
    → Box f b nothing × (all_unanswered front ≡ true) × Press f (box_after b front) n back
all_met f b front n back e =
    let c = box_after b front in
    let d = next_box c (Buttons n) in
    let k = length (remembered c.memory) in
    let after = length (remembered d.memory) in
    let (good_box, (awake, (format, (idle, (hosts, (stream, (known, (changes, (room, (kept, (quiet, (slots, _)))))))))))) =
    none_lacking (asks_of f b front n back) e in (
      record {
        carrying = at_rest_lem b good_box (not-true (bytes_left b) idle);
        awake = not-true (dormant b) awake;
        format = eqb-true b.settings.format (letter_of f) format;
        sound = tt;
      },
      hosts,
      record {
        stream = stream;
        known = leb-true n 7 known;
        changes = eqb-false n c.settings.buttons (not-true (eqb n c.settings.buttons) changes);
        room = leb-true k 7 room;
        kept = or_else (leb after 7) (never_ninth d back) (λ t. among_seven (leb-true after 7 t)) (λ t. without_ninth t) kept;
        quiet = quiet;
        slots = leb-true (suc (suc k) * size_of f) (slots_in back) slots;
      },
    )

-- A press that is not seen: of what the box owes, the states remembered and then the press, the reports that a ready
-- reader of f hands out show less. They are told with those that it handed out before the press.
pub record Missed (f : Format) (b : BallBox) (front : List Event) (n : ℕ) (back : List Event) (lacks : List Condition) (owes found : List ℕ) : Type 0 where
  pub lacked : lacking (asks_of f b front n back) ≡ lacks
  pub owing : remembered (box_after b front).memory ++ (n ∷ []) ≡ owes
  pub finding : buttons_of (handed (ready (letter_of f)) (words_of b (front ++ (Buttons n ∷ back)))) ≡ found

-- A bad box is refused with 6, and sends nothing.
abbrev bad : Format → BallBox
bad f = with_buttons 8 (box_in f)

pub good_needed : Missed Mm (bad Mm) [] 2 (slots 6 []) (is_good ∷ []) (2 ∷ []) []
unfolding computing
good_needed = record { lacked = refl; owing = refl; finding = refl }

-- A dormant box does not notice the press.
abbrev sleeping : Format → BallBox
sleeping f = box_after (box_in f) (Host letterd ∷ [])

pub awake_needed : Missed Mm (sleeping Mm) [] 2 (slots 6 []) (is_awake ∷ []) (2 ∷ []) []
unfolding computing asleep
awake_needed = record { lacked = refl; owing = refl; finding = refl }

-- A box in T, read by a reader of S.
pub format_needed : Missed Mm (box_in ThreeByte) [] 2 (slots 6 []) (is_format ∷ []) (2 ∷ []) []
unfolding computing
format_needed = record { lacked = refl; owing = refl; finding = refl }

-- A report of T is going, and its first byte has gone: the reader begins in its middle, and hands out M, where L was
-- pressed.
abbrev halfway : BallBox
halfway = box_after (box_in ThreeByte) (Motion (pos 2) (minus 24) ∷ slots 1 [])

pub idle_needed : Missed ThreeByte halfway [] 4 (slots 6 []) (is_idle ∷ []) (4 ∷ []) (2 ∷ [])
unfolding computing
idle_needed = record { lacked = refl; owing = refl; finding = refl }

-- A reply before the press: the reader of T takes the ACK for a first byte, and is out of step. A format letter, and `d`,
-- before it: the press comes in the other format, or is not noticed.
pub reply_in_front : Missed ThreeByte (box_in ThreeByte) (Host space ∷ []) 2 (slots 6 []) (is_unanswered ∷ []) (2 ∷ []) (6 ∷ [])
unfolding computing
reply_in_front = record { lacked = refl; owing = refl; finding = refl }

pub letter_in_front : Missed ThreeByte (box_in ThreeByte) (Host (letter_of Mm) ∷ []) 2 (slots 6 []) (is_unanswered ∷ []) (2 ∷ []) []
unfolding computing
letter_in_front = record { lacked = refl; owing = refl; finding = refl }

pub sleep_in_front : Missed Mm (box_in Mm) (Host letterd ∷ []) 2 (slots 6 []) (is_unanswered ∷ []) (2 ∷ []) []
unfolding computing asleep
sleep_in_front = record { lacked = refl; owing = refl; finding = refl }

-- Prompt mode remembers nothing, and sends nothing unasked.
pub stream_needed : Missed Mm (box_in Mm) (Host mode_d ∷ []) 2 (slots 6 []) (is_stream_lem ∷ []) (2 ∷ []) []
unfolding computing
stream_needed = record { lacked = refl; owing = refl; finding = refl }

-- Buttons above 7 are refused with 3; buttons that are no change are not shown again.
pub known_needed : Missed Mm (box_in Mm) [] 8 (slots 6 []) (is_known ∷ []) (8 ∷ []) []
unfolding computing
known_needed = record { lacked = refl; owing = refl; finding = refl }

pub change_needed : Missed Mm (box_in Mm) [] 0 (slots 6 []) (is_change ∷ []) (0 ∷ []) []
unfolding computing
change_needed = record { lacked = refl; owing = refl; finding = refl }

-- Eight are remembered: the press, 5, takes the place of the eighth, 6.
abbrev seven : List Event → List Event
seven events = Motion (pos 5) (pos 0) ∷ slots 1 (Buttons 1 ∷ Buttons 2 ∷ Buttons 3 ∷ Buttons 4 ∷ Buttons 1 ∷ Buttons 3 ∷ Buttons 7 ∷ events)

pub room_needed : Missed Mm (box_in Mm) (seven (Buttons 6 ∷ [])) 5 (slots 30 []) (is_room ∷ [])
    (1 ∷ 2 ∷ 3 ∷ 4 ∷ 1 ∷ 3 ∷ 7 ∷ 6 ∷ 5 ∷ []) (0 ∷ 1 ∷ 2 ∷ 3 ∷ 4 ∷ 1 ∷ 3 ∷ 7 ∷ 5 ∷ [])
unfolding computing
room_needed = record { lacked = refl; owing = refl; finding = refl }

-- Seven are remembered, and the press, 6, is the eighth; 5, a ninth, takes its place.
pub kept_needed : Missed Mm (box_in Mm) (seven []) 6 (Buttons 5 ∷ slots 27 []) (is_kept ∷ [])
    (1 ∷ 2 ∷ 3 ∷ 4 ∷ 1 ∷ 3 ∷ 7 ∷ 6 ∷ []) (0 ∷ 1 ∷ 2 ∷ 3 ∷ 4 ∷ 1 ∷ 3 ∷ 7 ∷ 5 ∷ [])
unfolding computing
kept_needed = record { lacked = refl; owing = refl; finding = refl }

-- O breaks off each report that would show the press.
abbrev again : List Event → List Event
again events = slots 1 (Host mode_o ∷ events)

pub quiet_needed : Missed Mm (box_in Mm) [] 2 (again (again (again (again (again (again [])))))) (is_quiet ∷ []) (2 ∷ []) []
unfolding computing
quiet_needed = record { lacked = refl; owing = refl; finding = refl }

-- One slot too few, with a report latched at the press of which no byte has gone.
pub slots_short : Missed Mm (box_in Mm) (Motion (pos 5) (pos 0) ∷ Latch ∷ []) 2 (slots 5 []) (is_slots ∷ []) (2 ∷ []) (0 ∷ [])
unfolding computing
slots_short = record { lacked = refl; owing = refl; finding = refl }

-- What is going at the start must be as the box shows it, and a report of f. A box that takes the report under way, 98 05
-- 00, for one that shows M, which it remembers: M is never shown. And an ACK that is going, to a reader of T.
abbrev mistaken : BallBox
mistaken =
    let b = box_after (box_in Mm) (Motion (pos 5) (pos 0) ∷ slots 1 (Buttons 2 ∷ [])) in
    with_memory (memory b.memory.states b.memory.count 1) b

abbrev under_way : UnderWay Message
under_way = first 1 (latched_in Mm (with_x 0 5))

pub showing_needed : (good mistaken ≡ true)
    × Carries mistaken under_way
    × (remembered mistaken.memory ++ (0 ∷ []) ≡ 2 ∷ 0 ∷ [])
    × (buttons_of (handed (ready (letter_of Mm)) (part_words message_bytes under_way ++ words_of mistaken (Buttons 0 ∷ slots 9 []))) ≡ 0 ∷ 0 ∷ [])
unfolding computing
showing_needed = (refl, (refl, record { left = omega arith; sendable = (refl, refl); awake = refl }), refl, refl)

abbrev answering : BallBox
answering = box_after (box_in ThreeByte) (Host space ∷ [])

pub sound_needed : Carrying answering (first 0 (reply (0x06 ∷ [])))
    × (buttons_of (handed (ready (letter_of ThreeByte)) (words_of answering (Buttons 2 ∷ slots 6 []))) ≡ 6 ∷ [])
unfolding computing
sound_needed = (
  record { good = refl; carries = (refl, record { left = omega arith; sendable = omega arith; awake = refl }); showing = refl },
  refl,
)

-- Nothing is lacking but the reader. In T a report was broken off before the press: a reader that was ready, and a fresh
-- one that has heard a silence before it, await another, and drop the press.
abbrev cut_short : List Event
cut_short = Send ∷ Motion (pos 1) (pos 0) ∷ slots 1 (Host mode_o ∷ [])

pub unbroken_needed : Missed ThreeByte (box_in ThreeByte) cut_short 2 (slots 6 []) [] (2 ∷ []) []
    × (handed (fresh (letter_of ThreeByte)) (words_of (box_in ThreeByte) (cut_short ++ (Buttons 2 ∷ slots 6 []))) ≡ [])
unfolding computing
unbroken_needed = (record { lacked = refl; owing = refl; finding = refl }, refl)

-- A fresh reader of T that has heard no silence drops all; one that keeps a byte of another line, or is given one in
-- front, takes it for the first of a report, and hands out M, where nobody pressed.
abbrev keeping : Format → List ℕ → Reader
keeping f bytes = reader (letter_of f) (five bytes) (length bytes) false

abbrev still : List Event
still = Motion (pos 1) (pos 0) ∷ slots 3 []

pub ready_needed : (handed (fresh (letter_of ThreeByte)) (words_of (box_in ThreeByte) (Buttons 2 ∷ slots 6 [])) ≡ [])
    × (buttons_of (handed (ready (letter_of ThreeByte)) (words_of (box_in ThreeByte) still)) ≡ 0 ∷ [])
    × (buttons_of (handed (keeping ThreeByte (0x02 ∷ [])) (words_of (box_in ThreeByte) still)) ≡ 2 ∷ [])
    × (buttons_of (handed (ready (letter_of ThreeByte)) (0x02 ∷ words_of (box_in ThreeByte) still)) ≡ 2 ∷ [])
unfolding computing
ready_needed = (refl, refl, refl, refl)

-- What a fresh reader hands out (`Follows`): in T all that is finished behind the first silence, not behind a later one; in
-- S what is finished before it too.
pub since_needed : (buttons_of (handed (fresh (letter_of ThreeByte)) (words_of (box_in ThreeByte) (Send ∷ still ++ (Send ∷ [])))) ≡ 0 ∷ [])
    × (buttons_of (handed (fresh (letter_of Mm)) (words_of (box_in Mm) (still ++ (Send ∷ [])))) ≡ 0 ∷ [])
unfolding computing
since_needed = (refl, refl)

-- what `as_many_saves` and `one_missed_at_most` ask of counts; `no_save_unmade` and `never_a_second_save` ask for less
abbrev asks_in : Format → BallBox → List Event → List Asked
asks_in f b events =
    asks is_good (good b)
    ∷ asks is_awake (not (dormant b))
    ∷ asks is_format (eqb b.settings.format (letter_of f))
    ∷ asks is_idle (not (bytes_left b))
    ∷ asks is_none (eqb (length (remembered b.memory)) 0)
    ∷ asks is_unanswered (all_unanswered events)
    ∷ asks is_carried (not (eqb (letter_of f) (letter_of Microsoft)))
    ∷ asks is_stream_lem (is_stream b.settings.mode)
    ∷ asks is_keeping (none_empties events)
    ∷ asks is_never (never_ninth b events)
    ∷ asks is_shown (eqb (length (remembered (box_after b events).memory)) 0)
    ∷ []

-- all that `as_many_saves` asks of the box, the events and M
pub record Counts (f : Format) (b : BallBox) (events : List Event) : Type 0 where
  pub begins : Begins f b
  pub hosts : all_unanswered events ≡ true
  pub carries : CarriedBy f (is_down middle)
  pub stream : is_stream b.settings.mode ≡ true
  pub keeps : none_empties events ≡ true
  pub never : never_ninth b events ≡ true
  pub shown : remembered (box_after b events).memory ≡ []

pub empty : (states : List ℕ) → eqb (length states) 0 ≡ true → states ≡ []
empty [] e = refl
empty (s ∷ states) e = absurd (omega (arith, eqb-true (suc (length states)) 0 e))

pub counts_met : (f : Format) (b : BallBox) (events : List Event) → lacking (asks_in f b events) ≡ [] → Counts f b events
counts_met f b events e =
    let (good_box, (awake, (format, (idle, (none, (hosts, (other, (stream, (keeps, (never, (shown, _))))))))))) = none_lacking (asks_in f b events) e in
    record {
      begins = record {
        good = good_box;
        awake = not-true (dormant b) awake;
        format = eqb-true b.settings.format (letter_of f) format;
        idle = not-true (bytes_left b) idle;
        none = empty (remembered b.memory) none;
      };
      hosts = hosts;
      carries = carries_middle f
          (λ v. eqb-false (letter_of f) (letter_of Microsoft) (not-true (eqb (letter_of f) (letter_of Microsoft)) other) (ap letter_of v));
      stream = stream;
      keeps = keeps;
      never = never;
      shown = empty (remembered (box_after b events).memory) shown;
    }

-- M is pressed so often; a watch that was told the buttons at the start, and one that was not, tell it so often, of what
-- a ready reader of f hands out.
pub record Miscounted (f : Format) (b : BallBox) (events : List Event) (lacks : List Condition) (pressed told fresh : ℕ) : Type 0 where
  pub lacked : lacking (asks_in f b events) ≡ lacks
  pub pressing : made (is_down middle) b events ≡ pressed
  pub telling : presses_from (is_down middle) b.settings.buttons (handed (ready (letter_of f)) (words_of b events)) ≡ told
  pub telling_fresh : presses_among (is_down middle) (handed (ready (letter_of f)) (words_of b events)) ≡ fresh

-- That f carries the button is needed of counts (`taps_untold`, of M in V), and of `no_press_unmade` for tests that none of
-- the three is: "M is up" comes true in the reports of V, while M is held.
abbrev is_up : ℕ → Bool
is_up n = not (is_down middle n)

abbrev holding : BallBox
holding = box_after (box_in Microsoft) (Buttons 2 ∷ slots 3 [])

pub carried_needed : (◌≡◌ {A = ℕ} (presses_from is_up 2 (finished_reports Microsoft (passages_of holding nothing (Motion (pos 5) (pos 0) ∷ slots 3 [])))) 1)
    × (◌≡◌ {A = ℕ} (presses is_up (is_up 2) (owed holding nothing)) 0)
unfolding computing presses
carried_needed = (refl, refl)

-- two taps
abbrev pub taps : List Event → List Event
taps events = Buttons 2 ∷ Buttons 0 ∷ Buttons 2 ∷ Buttons 0 ∷ events

-- Two presses are made, and none is told: at a bad box, at one that is dormant, of one in T by a reader of S, in V, in
-- prompt mode, behind P, and where all is still to be shown.
pub taps_untold : Miscounted Mm (bad Mm) (taps (slots 12 [])) (is_good ∷ []) 2 0 0
    × Miscounted Mm (sleeping Mm) (taps (slots 12 [])) (is_awake ∷ []) 2 0 0
    × Miscounted Mm (box_in ThreeByte) (taps (slots 12 [])) (is_format ∷ []) 2 0 0
    × Miscounted Microsoft (box_in Microsoft) (taps (slots 12 [])) (is_carried ∷ []) 2 0 0
    × Miscounted Mm (box_after (box_in Mm) (Host mode_d ∷ [])) (taps (Host mode_o ∷ slots 6 [])) (is_stream_lem ∷ []) 2 0 0
    × Miscounted Mm (box_in Mm) (taps (Host letter_p ∷ slots 3 [])) (is_keeping ∷ []) 2 0 0
    × Miscounted Mm (box_in Mm) (taps (slots 2 [])) (is_shown ∷ []) 2 0 0
unfolding computing asleep presses buttons_told
taps_untold = (
  record { lacked = refl; pressing = refl; telling = refl; telling_fresh = refl },
  record { lacked = refl; pressing = refl; telling = refl; telling_fresh = refl },
  record { lacked = refl; pressing = refl; telling = refl; telling_fresh = refl },
  record { lacked = refl; pressing = refl; telling = refl; telling_fresh = refl },
  record { lacked = refl; pressing = refl; telling = refl; telling_fresh = refl },
  record { lacked = refl; pressing = refl; telling = refl; telling_fresh = refl },
  record { lacked = refl; pressing = refl; telling = refl; telling_fresh = refl },
)

-- L changes seven times, and then M goes down, up, down and up: each of these takes the place of the one before it.
abbrev pub too_many : List Event
too_many = Buttons 4 ∷ Buttons 0 ∷ Buttons 4 ∷ Buttons 0 ∷ Buttons 4 ∷ Buttons 0 ∷ Buttons 4 ∷ taps (slots 24 [])

pub ninth_untold : Miscounted Mm (box_in Mm)
    too_many (is_never ∷ []) 2 0 0
unfolding computing presses buttons_told
ninth_untold = record { lacked = refl; pressing = refl; telling = refl; telling_fresh = refl }

-- Out of step in T, a reader shows the watches M down once, and then up, where it was tapped twice: a report is going at
-- the start, and an ACK comes first.
pub taps_mistold : Miscounted ThreeByte halfway (taps (slots 14 [])) (is_idle ∷ []) 2 1 0
    × Miscounted ThreeByte (box_in ThreeByte) (Host space ∷ Send ∷ taps (slots 12 [])) (is_unanswered ∷ []) 2 1 0
unfolding computing presses buttons_told
taps_mistold = (
  record { lacked = refl; pressing = refl; telling = refl; telling_fresh = refl },
  record { lacked = refl; pressing = refl; telling = refl; telling_fresh = refl },
)

-- Nobody presses, and a watch saves: a dormant box of T is woken, and its ACK is taken for a first byte; a box in U is
-- read by a reader of S, to which 87 is a first byte with all three down, and the same behind its letter; a report of T
-- is going at the start, and one of S, none of whose bytes has gone, that shows M, which is up by now; the box has yet to
-- show M down and up; and an ACK comes in front of a report.
pub nobody_pressed : Miscounted ThreeByte (sleeping ThreeByte) (Host mode_o ∷ Send ∷ Motion (pos 5) (pos 3) ∷ slots 3 []) (is_awake ∷ []) 0 1 0
    × Miscounted Mm (box_in FiveByte) (Motion (pos 5) (pos 0) ∷ slots 5 []) (is_format ∷ []) 0 1 0
    × Miscounted Mm (box_in Mm) (Host (letter_of FiveByte) ∷ Motion (pos 5) (pos 0) ∷ slots 5 []) (is_unanswered ∷ is_keeping ∷ []) 0 1 0
    × Miscounted ThreeByte halfway (slots 2 (Motion (pos 1) (pos 0) ∷ slots 3 [])) (is_idle ∷ []) 0 1 0
    × Miscounted Mm (box_after (box_in Mm) (Buttons 2 ∷ Host letter_p ∷ Latch ∷ Buttons 0 ∷ [])) (slots 3 []) (is_idle ∷ is_stream_lem ∷ []) 0 1 0
    × Miscounted Mm (box_after (box_in Mm) (Buttons 2 ∷ Buttons 0 ∷ [])) (slots 6 []) (is_none ∷ []) 0 1 0
    × Miscounted ThreeByte (box_in ThreeByte) (Host space ∷ Send ∷ Motion (pos 5) (pos 3) ∷ slots 3 []) (is_unanswered ∷ []) 0 1 0
unfolding computing asleep woken presses buttons_told
nobody_pressed = (
  record { lacked = refl; pressing = refl; telling = refl; telling_fresh = refl },
  record { lacked = refl; pressing = refl; telling = refl; telling_fresh = refl },
  record { lacked = refl; pressing = refl; telling = refl; telling_fresh = refl },
  record { lacked = refl; pressing = refl; telling = refl; telling_fresh = refl },
  record { lacked = refl; pressing = refl; telling = refl; telling_fresh = refl },
  record { lacked = refl; pressing = refl; telling = refl; telling_fresh = refl },
  record { lacked = refl; pressing = refl; telling = refl; telling_fresh = refl },
)
