-- The recording of small inputs, computed. In the comments a blank stands for a tab and / for a newline.
use Rattle.std.specs.Prelude.{◌≡◌, refl, List, [], ◌∷◌, map, ℕ}
use Rattle.numbers.specs.Bits.{bit, bits, number}
use Rattle.numbers.specs.Signed.{signed, twos, held, excess, held_sum, sum_excess, held_long}
use Rattle.wire.specs.Line.{named_by, size_by, marked_by, known}
use Rattle.wire.specs.Table.{bytes_s, bytes_t, bytes_u, bytes_by}
use Rattle.text.specs.Decimals.{digits_of, size_in, places_of, decimal_of, readable, plus_in, number_in}
use Rattle.ballbox.specs.Thrown.{added}
use Rattle.ballbox.specs.Box.{fresh_box, going_from}
use Rattle.ballbox.specs.Presses.{remembered, remembering, to_show, showing_first, shown, hidden}
use Rattle.ballbox.specs.Motion.{counted, counted_over, placed_at, placed, moved_by, apart, has_moved}
use Rattle.ballbox.specs.Latching.{limits, limited, limit_excess, movement, taken, taken_over, cleared, latched_report, latched, with_second, second_latched}
use Rattle.ballbox.specs.Commands.{command_of, obeyed}
use Rattle.ballbox.specs.Events.{on_buttons, latching, with_byte_ready, after, memory_after, next_byte, sending, dropped, on_host, awake}
use Rattle.ballbox.specs.Good.{good, good_settings, good_track, good_going, good_memory}
use Rattle.ballbox.specs.Promises.{step_of}
use Rattle.listing.specs.Lines.{lines_in}
use Rattle.driver.specs.Lines.{alone_in, format_in, motion_in, with_fields, said_by}
use Rattle.driver.specs.Recorded.{word_bytes, record_line}
use Rattle.driver.specs.Driving.{slots, line_done, records_from, recording_of}

-- lines of events, and the whole recording
pub record Example : Type 0 where
  pub input : List ℕ
  pub output : List ℕ

-- a movement in S, and a slot more: F S/M 5 -3/S 4/
-- F S/B 144/B 5/B 3/Q/
abbrev move : Example
move =
    record {
      input = 70 ∷ 9 ∷ 83 ∷ 10 ∷ 77 ∷ 9 ∷ 53 ∷ 9 ∷ 45 ∷ 51 ∷ 10 ∷ 83 ∷ 9 ∷ 52 ∷ 10 ∷ [];
      output = 70 ∷ 9 ∷ 83 ∷ 10 ∷ 66 ∷ 9 ∷ 49 ∷ 52 ∷ 52 ∷ 10 ∷ 66 ∷ 9 ∷ 53 ∷ 10 ∷ 66 ∷ 9 ∷ 51 ∷ 10 ∷ 81 ∷ 10 ∷ [];
    }

-- a tap of the middle button: two reports: F T/N 2/N 0/S 6/
-- F T/B 2/B 0/B 0/B 0/B 0/B 0/
abbrev tap : Example
tap =
    record {
      input = 70 ∷ 9 ∷ 84 ∷ 10 ∷ 78 ∷ 9 ∷ 50 ∷ 10 ∷ 78 ∷ 9 ∷ 48 ∷ 10 ∷ 83 ∷ 9 ∷ 54 ∷ 10 ∷ [];
      output = 70 ∷ 9 ∷ 84 ∷ 10 ∷ 66 ∷ 9 ∷ 50 ∷ 10 ∷ 66 ∷ 9 ∷ 48 ∷ 10 ∷ 66 ∷ 9 ∷ 48 ∷ 10 ∷ 66 ∷ 9 ∷ 48 ∷ 10 ∷ 66 ∷ 9 ∷ 48 ∷ 10 ∷ 66 ∷ 9 ∷ 48 ∷ 10 ∷ [];
    }

-- a report that was latched and is broken off by R: nothing is latched by a Send: F S/M 1 0/T/C 82/S/
-- F S/X/Q/
abbrev asked : Example
asked =
    record {
      input = 70 ∷ 9 ∷ 83 ∷ 10 ∷ 77 ∷ 9 ∷ 49 ∷ 9 ∷ 48 ∷ 10 ∷ 84 ∷ 10 ∷ 67 ∷ 9 ∷ 56 ∷ 50 ∷ 10 ∷ 83 ∷ 10 ∷ [];
      output = 70 ∷ 9 ∷ 83 ∷ 10 ∷ 88 ∷ 10 ∷ 81 ∷ 10 ∷ [];
    }

-- an event that the box refuses: F U/S/N 8/S/
-- F U/Q/E 3/
abbrev refused : Example
refused =
    record {
      input = 70 ∷ 9 ∷ 85 ∷ 10 ∷ 83 ∷ 10 ∷ 78 ∷ 9 ∷ 56 ∷ 10 ∷ 83 ∷ 10 ∷ [];
      output = 70 ∷ 9 ∷ 85 ∷ 10 ∷ 81 ∷ 10 ∷ 69 ∷ 9 ∷ 51 ∷ 10 ∷ [];
    }

-- a line that is bad, without its newline: F U/S/B 5
-- F U/Q/E 3/
abbrev badline : Example
badline =
    record {
      input = 70 ∷ 9 ∷ 85 ∷ 10 ∷ 83 ∷ 10 ∷ 66 ∷ 9 ∷ 53 ∷ [];
      output = 70 ∷ 9 ∷ 85 ∷ 10 ∷ 81 ∷ 10 ∷ 69 ∷ 9 ∷ 51 ∷ 10 ∷ [];
    }

-- a movement of more than 16 bits: F W/M 32768 0/
-- F W/E 2/
abbrev wide : Example
wide =
    record {
      input = 70 ∷ 9 ∷ 87 ∷ 10 ∷ 77 ∷ 9 ∷ 51 ∷ 50 ∷ 55 ∷ 54 ∷ 56 ∷ 9 ∷ 48 ∷ 10 ∷ [];
      output = 70 ∷ 9 ∷ 87 ∷ 10 ∷ 69 ∷ 9 ∷ 50 ∷ 10 ∷ [];
    }

-- no line at all:
-- E 1/
abbrev none : Example
none =
    record {
      input = [];
      output = 69 ∷ 9 ∷ 49 ∷ 10 ∷ [];
    }

-- no format first: S/F U/
-- E 1/
abbrev unset : Example
unset =
    record {
      input = 83 ∷ 10 ∷ 70 ∷ 9 ∷ 85 ∷ 10 ∷ [];
      output = 69 ∷ 9 ∷ 49 ∷ 10 ∷ [];
    }

-- a format and no more, without its newline: F V
-- F V/
abbrev setting : Example
setting =
    record {
      input = 70 ∷ 9 ∷ 86 ∷ [];
      output = 70 ∷ 9 ∷ 86 ∷ 10 ∷ [];
    }

abbrev examples : List Example
examples = move ∷ tap ∷ asked ∷ refused ∷ badline ∷ wide ∷ none ∷ unset ∷ setting ∷ []

-- what they compute with
unfoldable computing : Unit {0}
unfolding recording_of records_from line_done slots record_line word_bytes said_by with_fields motion_in format_in alone_in
    lines_in digits_of size_in places_of decimal_of readable plus_in number_in step_of good good_settings good_track good_going
    good_memory on_buttons latching with_byte_ready after memory_after next_byte sending dropped on_host awake command_of obeyed
    limits limited limit_excess movement taken taken_over cleared latched_report latched with_second second_latched counted
    counted_over placed_at placed moved_by apart has_moved remembered remembering to_show showing_first shown hidden fresh_box
    going_from added named_by size_by marked_by known bytes_s bytes_t bytes_u bytes_by held excess held_sum sum_excess held_long signed twos number bits bit
computing = tt

pub computed : map (λ e. recording_of e.input) examples ≡ map (λ e. e.output) examples
unfolding computing
computed = refl
