-- All that figures and worked runs compute with: what says `unfolding computing` sees through the rules of the box and of the reader, and what they rest on.
use Rattle.std.specs.Int.Count.{ones, ones_in}
use Rattle.numbers.specs.Signed.{held, excess, held_sum, sum_excess, held_long}
use Rattle.numbers.specs.Parity.{with_parity}
use Rattle.frames.specs.Sender.{passages_over, going_over}
use Rattle.wire.specs.Digits.{digit, undigit}
use Rattle.wire.specs.Table.{rows_v, bytes_v, rows_a, bytes_a, bytes_b, rows_w, bytes_w, bytes_by}
use Rattle.wire.specs.Reading.{read_w}
use Rattle.reader.proofs.Computing as reader
use Rattle.ballbox.specs.Thrown.{added}
use Rattle.ballbox.specs.Box.{fresh_box, going_from}
use Rattle.ballbox.specs.Presses.{remembered, remembering, to_show, showing_first, shown, hidden}
use Rattle.ballbox.specs.Motion.{counted, counted_over, placed_at, placed, moved_by, apart, has_moved}
use Rattle.ballbox.specs.Latching.{limits, limited, limit_excess, movement, taken, taken_over, cleared, latched_report, latched, with_second, second_latched}
use Rattle.ballbox.specs.Commands.{command_of, code_byte, obeyed}
use Rattle.ballbox.specs.Events.{on_buttons, latching, with_byte_ready, after, memory_after, next_byte, sending, dropped, on_host, awake}
use Rattle.ballbox.specs.Good.{good, good_settings, good_track, good_going, good_memory}
use Rattle.ballbox.specs.Promises.{step_of}
use Rattle.ballbox.specs.Excesses.{thrown}
use Rattle.history.specs.Runs.{answer_to, answers_to}
use Rattle.history.specs.History.{told_by}
use Rattle.history.specs.Asked.{all_hosts}
use Rattle.history.specs.Sums.{thrown_in, sum_of}
use Rattle.history.specs.Account.{added_over, never_a}
use Rattle.history.specs.Presses.{changes_in, states_over, never_ninth, slots_from, box_after, last_box}

unfoldable pub computing : Unit {0}
unfolding reader.computing ones ones_in held excess held_sum sum_excess held_long added with_parity digit undigit rows_v
    bytes_v rows_a bytes_a bytes_b rows_w bytes_w bytes_by read_w fresh_box going_from counted counted_over placed_at placed moved_by
    apart has_moved limits limited limit_excess movement taken taken_over cleared latched_report latched with_second
    second_latched command_of code_byte obeyed on_buttons latching with_byte_ready after memory_after next_byte sending dropped
    on_host awake good good_settings good_track good_going good_memory remembered remembering to_show showing_first shown hidden
    step_of passages_over going_over answer_to answers_to told_by all_hosts changes_in states_over never_ninth slots_from box_after
    last_box thrown thrown_in sum_of added_over never_a
computing = tt
