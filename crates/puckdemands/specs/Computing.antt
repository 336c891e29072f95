-- All that worked runs compute with: what says `unfolding computing` sees through the rules of the device, of its box and of its reader, and what they rest on.
use Rattle.numbers.specs.Bits.{number, bit, bits}
use Rattle.numbers.specs.Signed.{held, excess, held_sum, sum_excess, held_long, signed}
use Rattle.frames.specs.Sender.{passages_over, going_over}
use Rattle.frames.specs.Words.{line_words}
use Rattle.frames.specs.Frame.{move_of}
use Rattle.wire.specs.Line.{named_by, size_by, known}
use Rattle.wire.specs.Table.{bytes_s, bytes_by}
use Rattle.wire.specs.Places.{like, fits_first, fits_later}
use Rattle.wire.specs.Reading.{read_s}
use Rattle.ballbox.specs.Thrown.{added}
use Rattle.ballbox.specs.Box.{going_from}
use Rattle.ballbox.specs.Presses.{remembering, to_show, showing_first, shown, hidden}
use Rattle.ballbox.specs.Motion.{counted, counted_over, placed_at, placed, moved_by, apart, has_moved}
use Rattle.ballbox.specs.Latching.{limits, limited, limit_excess, movement, taken, taken_over, cleared, latched_report, latched}
use Rattle.ballbox.specs.Commands.{command_of, obeyed}
use Rattle.ballbox.specs.Events.{on_buttons, on_period, latching, with_byte_ready, after, memory_after, next_byte, sending, dropped, on_host, awake}
use Rattle.ballbox.specs.Good as boxes
use Rattle.ballbox.specs.Excesses.{thrown}
use Rattle.ballbox.specs.Promises as ballbox
use Rattle.history.specs.History as history
use Rattle.history.specs.Sums.{sum_of}
use Rattle.history.specs.Account.{added_over}
use Rattle.vsxxx.specs.SelfTests.{test_bytes, test_of, is_test, is_buttons}
use Rattle.vsxxx.specs.Reports.{size_from, fits_start, fits_behind}
use Rattle.puck.specs.Device.{powered_box, powered}
use Rattle.puck.specs.Rules.{by_box, by_t, test_byte, in_test, out_of_test, rules}
use Rattle.puck.specs.Good.{follows, rests, good_test, good}
use Rattle.puck.specs.Promises.{step_of}
use Rattle.puckreader.specs.Rules.{word_of}
use Rattle.puckhistory.specs.Runs.{puck_after, puck_words}
use Rattle.puckhistory.specs.History.{box_tells, test_tells, told_by}
use Rattle.puckhistory.specs.Account.{thrown_since}

unfoldable pub computing : Unit {0}
unfolding number bit bits held excess held_sum sum_excess held_long signed passages_over going_over line_words move_of named_by
    size_by known bytes_s bytes_by like fits_first fits_later read_s added going_from remembering to_show showing_first shown
    hidden counted counted_over placed_at placed moved_by apart has_moved limits limited limit_excess movement taken taken_over
    cleared latched_report latched command_of obeyed on_buttons on_period latching with_byte_ready after memory_after next_byte
    sending dropped on_host awake boxes.good boxes.good_settings boxes.good_track boxes.good_going boxes.good_memory
    ballbox.step_of history.told_by test_bytes test_of is_test is_buttons size_from fits_start fits_behind powered_box powered
    by_box by_t test_byte in_test out_of_test rules follows rests good_test good step_of word_of puck_after puck_words box_tells
    test_tells told_by thrown sum_of added_over thrown_since
computing = tt
