-- Latching: what a report takes of the box.
use Rattle.std.specs.Prelude.{ℕ, false, cond, eqb, ℤ, pos, set}
use Rattle.numbers.specs.Signed.{minus, held, excess}
use Rattle.wire.specs.Line.{letter_of}
use Rattle.wire.specs.Table.{bytes_of, bytes_by}
use Rattle.wire.specs.Holds.{◌to◌}
use Rattle.wire.specs.Reading.{report, at}
use Rattle.wire.specs.declared.Report.{Report}
use Rattle.wire.specs.declared.Range.{Range}
use Rattle.wire.specs.declared.Format.TheVariants.{Relative, FiveByte}
use Rattle.ballbox.specs.Thrown.{excesses}
use Rattle.ballbox.specs.Box.{pair, zeros, going_from, with_track, with_going, with_memory, with_due, over_limit}
use Rattle.ballbox.specs.Presses.{to_show, showing_first}
use Rattle.ballbox.specs.Motion.{is_a}
use Rattle.ballbox.specs.declared.Pair.{Pair}
use Rattle.ballbox.specs.declared.Track.{Track}
use Rattle.ballbox.specs.declared.Going.{Going}
use Rattle.ballbox.specs.declared.Excess.{Excess}
use Rattle.ballbox.specs.declared.BallBox.{BallBox}

-- "Movement is held to -127..127 in the eight-bit formats (000 section 10) and to -2048..2047 in B; the excess is lost."
-- In A it is the position, which lies in 0 to 4095 as it is.
unfoldable pub limits : ℕ → Range
limits letter =
    cond (is_a letter) (pos 0 to pos 4095)
    (cond (eqb letter (letter_of Relative)) (minus 2048 to pos 2047)
    (minus 127 to pos 127))

unfoldable pub limited : ℕ → ℤ → ℤ
limited letter v = held (limits letter).low (limits letter).high v

-- "Whatever limits a movement shall also give back the excess, with its sign"
unfoldable pub limit_excess : ℕ → ℤ → ℤ
limit_excess letter v = excess (limits letter).low (limits letter).high v

-- "Latching takes buttons and movement (in A the position, otherwise the counters)"
unfoldable pub movement : ℕ → Track → Pair
movement letter t = cond (is_a letter) t.position t.counter

unfoldable pub taken : ℕ → Track → Pair
taken letter t = pair (limited letter (movement letter t).x) (limited letter (movement letter t).y)

unfoldable pub taken_over : ℕ → Track → Excess
taken_over letter t = excesses (limit_excess letter (movement letter t).x) (limit_excess letter (movement letter t).y)

-- "clears the counters and sets last position to position"
unfoldable pub cleared : Track → Track
cleared t = record { counter = zeros; position = t.position; last = t.position }

-- the movement is taken out of the box, and its excess added up; "the excess is lost" to the reports
abbrev pub movement_taken : BallBox → BallBox
movement_taken b = over_limit (taken_over b.settings.format b.track) (with_track (cleared b.track) b)

-- the report that is latched, with the buttons that it is to show; in U its second pair is zero: "bytes 4 and 5 are held as 0 until then"
unfoldable pub latched_report : BallBox → Report
latched_report b =
    report (to_show b) (taken b.settings.format b.track).x (taken b.settings.format b.track).y

-- "a report is latched, due is cleared"
unfoldable pub latched : BallBox → BallBox
latched b =
    with_due false
    (with_memory (showing_first b.memory)
    (with_going (going_from (bytes_by b.settings.format (latched_report b))) (movement_taken b)))

-- a report of U that has nothing but its second pair
abbrev pub second_only : Pair → Report
second_only p = record { buttons = 0; x1 = pos 0; y1 = pos 0; x2 = p.x; y2 = p.y }

-- "bytes 4 and 5" of what is going, put in
unfoldable pub with_second : Pair → Going → Going
with_second p g =
    record {
      length = g.length;
      sent = g.sent;
      bytes = set (set g.bytes 3 (at 3 (bytes_of FiveByte (second_only p)))) 4 (at 4 (bytes_of FiveByte (second_only p)));
    }

-- "In U, the second pair is latched the same way, without buttons"; "due stays"
unfoldable pub second_latched : BallBox → BallBox
second_latched b = with_going (with_second (taken b.settings.format b.track) b.going) (movement_taken b)
