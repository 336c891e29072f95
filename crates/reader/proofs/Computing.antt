-- All that a worked line computes with: what says `unfolding computing` sees through the rules, and what they rest on.
use Rattle.numbers.specs.Bits.{bit, bits, number}
use Rattle.numbers.specs.Signed.{signed, twos, untwos}
use Rattle.fold.specs.Fold.{run}
use Rattle.frames.specs.Words.{line_words}
use Rattle.wire.specs.Line.{named_by, size_by, marked_by, known}
use Rattle.wire.specs.Table.{bytes_s, bytes_t, bytes_u}
use Rattle.wire.specs.Holds.{holds, accepted}
use Rattle.wire.specs.Places.{like, fits_first, fits_later, fits_at, fits_by}
use Rattle.wire.specs.Reading.{read_s, read_v, read_t, read_u, report_by, plus_zero, settled_by}
use Rattle.reader.specs.Good.{placed, good}
use Rattle.reader.specs.Rules.{entered, dropping, keep, start, stray, lose, byte_of, break_of, silence_of, word_of}
use Rattle.reader.specs.Counts.{dropped_among}
use Rattle.fold.specs.Calls.{sum, line, call}
use Rattle.reader.specs.Promises.{fresh_of, step_of}
use Rattle.reader.specs.Runs.{steps_of}

unfoldable pub computing : Unit {0}
unfolding fresh_of step_of call steps_of line sum run dropped_among good placed word_of byte_of keep start stray lose break_of silence_of dropping entered named_by size_by marked_by known line_words fits_by fits_at fits_first fits_later like report_by read_s read_v read_t read_u plus_zero settled_by bytes_s bytes_t bytes_u holds accepted signed twos untwos number bits bit
computing = tt
