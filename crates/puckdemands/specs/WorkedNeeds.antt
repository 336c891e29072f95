-- What the theorems of Saves ask for, one by one: for each condition of a device's `a_press_survives`, `as_many_saves`,
-- `one_missed_at_most` and `never_a_second_save` a run that lacks this one alone, and what a fresh reader hands out of it.
use Rattle.std.specs.Prelude.{ℕ, suc, ◌*◌, ◌≡◌, refl, not, ◌||◌, List, [], ◌∷◌, ◌++◌, map, eqb, leb, pos, length}
use Rattle.std.proofs.Common.{leb-true}
use Rattle.std.proofs.lemmas.Bool.{eqb-false, not-true}
use Rattle.numbers.proofs.Choices.{or_else}
use Rattle.fold.specs.Fold.{answers_over}
use Rattle.wire.specs.Buttons.{middle, is_down, presses, buttons_of, presses_from, presses_among}
use Rattle.wire.specs.declared.Report.{Report}
use Rattle.wire.specs.declared.Format.TheVariants.{Mm}
use Rattle.ballbox.specs.Box.{going_from, with_going}
use Rattle.ballbox.specs.Presses.{remembered}
use Rattle.ballbox.specs.Commands.{is_stream, letter_p}
use Rattle.ballbox.specs.Events.{bytes_left}
use Rattle.ballbox.specs.declared.Event.{Event}
use Rattle.ballbox.specs.declared.Event.TheVariants.{Motion, Buttons, Host, Latch, Send, Period}
use Rattle.history.specs.History.{next_box}
use Rattle.history.specs.Asked.{all_hosts}
use Rattle.history.specs.Presses.{buttons_told, no_host, never_ninth, slots_in, slots_from, among_seven, without_ninth}
use Rattle.vsxxx.specs.Buttons.{movements_in}
use Rattle.puck.specs.Device.{made, with_ball}
use Rattle.puck.specs.Rules.{mode_r, as_box}
use Rattle.puck.specs.Good.{good}
use Rattle.puck.specs.declared.Puck.{Puck}
use Rattle.puckreader.specs.State.{fresh}
use Rattle.puckreader.specs.Line.{handed_out, reads}
use Rattle.puckhistory.specs.Runs.{puck_after, puck_words, answers_to}
use Rattle.puckhistory.specs.Presses.{all_leave}
use Rattle.puckhistory.proofs.Permitted.{answers_permitted}
use Rattle.demands.specs.Worked.{slots}
use Rattle.demands.specs.Saves.{Press}
use Rattle.demands.specs.WorkedNeeds.{Condition, Asked, asks, lacking, none_lacking, empty, is_good, is_idle, is_none, is_stream_lem, is_known, is_change, is_room, is_kept}
use Rattle.demands.specs.WorkedNeeds.{is_quiet, is_slots, is_keeping, is_never, is_shown}
use Rattle.puckdemands.specs.Computing.{computing}
use Rattle.puckdemands.specs.Saves.{Steady}

-- the movements that a fresh reader hands out of words
abbrev handed : List ℕ → List Report
handed words = movements_in (handed_out (answers_over reads fresh words))

-- A device from its making on, which has sent its self-test; and one that streams.
abbrev tested : List Event → List Event
tested later = Send ∷ Send ∷ Send ∷ Send ∷ later

abbrev streams : List Event → List Event
streams later = tested (Host mode_r ∷ later)

abbrev start : Puck
start = made 0 1 3

-- what `a_press_survives` asks of a press
abbrev asks_of : List Event → ℕ → List Event → List Asked
asks_of front n back =
    let c = (puck_after start front).ball in
    let d = next_box c (Buttons n) in
    asks is_stream_lem (is_stream c.settings.mode)
    ∷ asks is_known (leb n 7)
    ∷ asks is_change (not (eqb n c.settings.buttons))
    ∷ asks is_room (leb (length (remembered c.memory)) 7)
    ∷ asks is_kept (leb (length (remembered d.memory)) 7 || never_ninth d back)
    ∷ asks is_quiet (no_host back)
    ∷ asks is_slots (leb (suc (suc (length (remembered c.memory))) * 3) (slots_in back))
    ∷ []

-- where none is lacking, there is a press
pub all_met : (front : List Event) (n : ℕ) (back : List Event) → lacking (asks_of front n back) ≡ [] → Press Mm (puck_after start front).ball n back
all_met front n back e =
    let c = (puck_after start front).ball in
    let d = next_box c (Buttons n) in
    let k = length (remembered c.memory) in
    let after = length (remembered d.memory) in
    let (stream, (known, (changes, (room, (kept, (quiet, (slots, _))))))) = none_lacking (asks_of front n back) e in
    record {
      stream = stream;
      known = leb-true n 7 known;
      changes = eqb-false n c.settings.buttons (not-true (eqb n c.settings.buttons) changes);
      room = leb-true k 7 room;
      kept = or_else (leb after 7) (never_ninth d back) (λ t. among_seven (leb-true after 7 t)) (λ t. without_ninth t) kept;
      quiet = quiet;
      slots = leb-true (suc (suc k) * 3) (slots_in back) slots;
    }

-- A press that is not seen: of the states remembered and then the press the movements show less.
pub record Missed (front : List Event) (n : ℕ) (back : List Event) (lacks : List Condition) (owes found : List ℕ) : Type 0 where
  pub lacked : lacking (asks_of front n back) ≡ lacks
  pub owing : remembered (puck_after start front).ball.memory ++ (n ∷ []) ≡ owes
  pub finding : buttons_of (handed (puck_words start (front ++ (Buttons n ∷ back)))) ≡ found

-- In prompt mode nothing is sent unasked; buttons above 7 are refused with 3; no change is not shown again; R breaks off
-- each report that would show the press; and one slot is too few, with a report latched at the press.
abbrev again : List Event → List Event
again events = slots 1 (Host mode_r ∷ events)

pub press_needed : Missed (tested []) 2 (slots 6 []) (is_stream_lem ∷ []) (2 ∷ []) []
    × Missed (streams []) 8 (slots 6 []) (is_known ∷ []) (8 ∷ []) []
    × Missed (streams []) 0 (slots 6 []) (is_change ∷ []) (0 ∷ []) []
    × Missed (streams []) 2 (again (again (again (again (again (again [])))))) (is_quiet ∷ []) (2 ∷ []) []
    × Missed (streams (Motion (pos 5) (pos 0) ∷ Period ∷ Latch ∷ [])) 2 (slots 5 []) (is_slots ∷ []) (2 ∷ []) (0 ∷ [])
unfolding computing remembered all_hosts never_ninth slots_from answers_over
press_needed = (
  record { lacked = refl; owing = refl; finding = refl },
  record { lacked = refl; owing = refl; finding = refl },
  record { lacked = refl; owing = refl; finding = refl },
  record { lacked = refl; owing = refl; finding = refl },
  record { lacked = refl; owing = refl; finding = refl },
)

-- Eight are remembered, and the press, 5, takes the place of the eighth, 6; seven are, the press, 6, is the eighth, and 5
-- takes its place.
abbrev seven : List Event → List Event
seven events = streams (Buttons 1 ∷ Buttons 2 ∷ Buttons 3 ∷ Buttons 4 ∷ Buttons 1 ∷ Buttons 3 ∷ Buttons 7 ∷ events)

pub ninth_needed : Missed (seven (Buttons 6 ∷ [])) 5 (slots 30 []) (is_room ∷ [])
    (1 ∷ 2 ∷ 3 ∷ 4 ∷ 1 ∷ 3 ∷ 7 ∷ 6 ∷ 5 ∷ []) (1 ∷ 2 ∷ 3 ∷ 4 ∷ 1 ∷ 3 ∷ 7 ∷ 5 ∷ [])
    × Missed (seven []) 6 (Buttons 5 ∷ slots 27 []) (is_kept ∷ [])
    (1 ∷ 2 ∷ 3 ∷ 4 ∷ 1 ∷ 3 ∷ 7 ∷ 6 ∷ []) (1 ∷ 2 ∷ 3 ∷ 4 ∷ 1 ∷ 3 ∷ 7 ∷ 5 ∷ [])
unfolding computing remembered all_hosts never_ninth slots_from answers_over
ninth_needed = (
  record { lacked = refl; owing = refl; finding = refl },
  record { lacked = refl; owing = refl; finding = refl },
)

-- what `Steady` asks of counts
abbrev asks_in : Puck → List Event → List Asked
asks_in p events =
    asks is_good (good p)
    ∷ asks is_stream_lem (is_stream p.ball.settings.mode)
    ∷ asks is_idle (not (bytes_left p.ball))
    ∷ asks is_none (eqb (length (remembered p.ball.memory)) 0)
    ∷ asks is_keeping (all_leave events)
    ∷ asks is_never (never_ninth p.ball (map as_box events))
    ∷ asks is_shown (eqb (length (remembered (puck_after p events).ball.memory)) 0)
    ∷ []

-- where none is lacking, the run is steady
pub counts_met : (p : Puck) (events : List Event) → lacking (asks_in p events) ≡ [] → Steady p events (answers_to p events)
counts_met p events e =
    let (good_device, (stream, (idle, (none, (keeps, (never, (shown, _))))))) = none_lacking (asks_in p events) e in
    record {
      good = good_device;
      stream = stream;
      idle = not-true (bytes_left p.ball) idle;
      none = empty (remembered p.ball.memory) none;
      keeps = keeps;
      never = never;
      shown = empty (remembered (puck_after p events).ball.memory) shown;
      permitted = answers_permitted p events;
    }

-- M is pressed so often; a watch that was told the buttons at the start, and one that was not, tell it so often.
pub record Miscounted (p : Puck) (events : List Event) (lacks : List Condition) (pressed told unaware : ℕ) : Type 0 where
  pub lacked : lacking (asks_in p events) ≡ lacks
  pub pressing : presses (is_down middle) (is_down middle p.ball.settings.buttons) (buttons_told events) ≡ pressed
  pub telling : presses_from (is_down middle) p.ball.settings.buttons (handed (puck_words p events)) ≡ told
  pub telling_fresh : presses_among (is_down middle) (handed (puck_words p events)) ≡ unaware

abbrev taps : List Event → List Event
taps events = Buttons 2 ∷ Buttons 0 ∷ Buttons 2 ∷ Buttons 0 ∷ events

abbrev streaming : Puck
streaming = puck_after start (streams [])

abbrev sixteen : Puck
sixteen = record { ball = streaming.ball; test = streaming.test; revision = 16; maker = 3 }

-- Two presses are made, and none is told: by a device that is not good, of revision 16, which is refused with 6; in prompt
-- mode; behind P; and where all is still to be shown.
pub taps_untold : Miscounted sixteen (taps (slots 12 [])) (is_good ∷ []) 2 0 0
    × Miscounted (puck_after start (tested [])) (taps (Host mode_r ∷ slots 6 [])) (is_stream_lem ∷ []) 2 0 0
    × Miscounted streaming (taps (Host letter_p ∷ slots 3 [])) (is_keeping ∷ []) 2 0 0
    × Miscounted streaming (taps (slots 2 [])) (is_shown ∷ []) 2 0 0
unfolding computing remembered all_hosts never_ninth answers_over presses buttons_told
taps_untold = (
  record { lacked = refl; pressing = refl; telling = refl; telling_fresh = refl },
  record { lacked = refl; pressing = refl; telling = refl; telling_fresh = refl },
  record { lacked = refl; pressing = refl; telling = refl; telling_fresh = refl },
  record { lacked = refl; pressing = refl; telling = refl; telling_fresh = refl },
)

-- L changes seven times, and then M goes down, up, down and up: each of these takes the place of the one before it.
pub ninth_untold : Miscounted streaming
    (Buttons 4 ∷ Buttons 0 ∷ Buttons 4 ∷ Buttons 0 ∷ Buttons 4 ∷ Buttons 0 ∷ Buttons 4 ∷ taps (slots 24 [])) (is_never ∷ []) 2 0 0
unfolding computing remembered all_hosts never_ninth answers_over presses buttons_told
ninth_untold = record { lacked = refl; pressing = refl; telling = refl; telling_fresh = refl }

-- Nobody presses, and a watch saves: 9A 00 00 is going at the start, in a device whose M is up (no run leads to it, and it
-- is good); and the device has yet to show M down and up. So too where `never_a_second_save` is not from the making on.
pub nobody_pressed : Miscounted (with_ball (with_going (going_from (0x9A ∷ 0x00 ∷ 0x00 ∷ [])) streaming.ball) streaming) (slots 3 []) (is_idle ∷ []) 0 1 0
    × Miscounted (puck_after streaming (Buttons 2 ∷ Buttons 0 ∷ [])) (slots 6 []) (is_none ∷ []) 0 1 0
unfolding computing remembered all_hosts never_ninth answers_over presses buttons_told
nobody_pressed = (
  record { lacked = refl; pressing = refl; telling = refl; telling_fresh = refl },
  record { lacked = refl; pressing = refl; telling = refl; telling_fresh = refl },
)

-- The stretch must be over at the press (`seen_after_the_stretch`): here it is the first byte of the report that shows it.
pub stretch_before_it : (puck_words start (streams (Buttons 2 ∷ slots 6 [])) ≡ 0xA1 ∷ 0x32 ∷ 0x00 ∷ 0x00 ∷ 0x9A ∷ 0x00 ∷ 0x00 ∷ 257 ∷ 257 ∷ 257 ∷ [])
    × (handed (0xA1 ∷ 0x32 ∷ 0x00 ∷ 0x00 ∷ 0x00 ∷ 0x00 ∷ 257 ∷ 257 ∷ 257 ∷ []) ≡ [])
unfolding computing answers_over
stretch_before_it = (refl, refl)
