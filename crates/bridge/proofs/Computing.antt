-- All that a worked line computes with: what says `unfolding computing` sees through the rules, and what they rest on.
use Rattle.numbers.specs.Bits.{bit, bits, number}
use Rattle.numbers.specs.Signed.{signed, twos, untwos, held, excess}
use Rattle.fold.specs.Fold.{run}
use Rattle.fold.specs.Calls.{sum, line, call}
use Rattle.wire.specs.Line.{named_by, size_by, marked_by, known}
use Rattle.wire.specs.Table.{bytes_v, rows_v}
use Rattle.wire.specs.Places.{like, fits_first, fits_later, fits_at, fits_by}
use Rattle.wire.specs.Reading.{read_s, read_v, read_a, read_t, read_u, report_by}
use Rattle.reader.specs.Good as reader
use Rattle.reader.specs.Rules.{entered, dropping, keep, start, stray, lose, byte_of, break_of, silence_of, word_of}
use Rattle.reader.specs.Counts.{dropped_among}
use Rattle.reader.specs.Promises as promises
use Rattle.bridge.specs.Remembered.{since_base, movement, one_more, counted_by, noted, good_base}
use Rattle.bridge.specs.Splitting.{count_of, split, becomes}
use Rattle.bridge.specs.Good.{good}
use Rattle.bridge.specs.Promises.{fresh_of}

unfoldable pub computing : Unit {0}
unfolding fresh_of promises.fresh_of call line sum run dropped_among good reader.good reader.placed good_base word_of byte_of keep start stray lose break_of silence_of dropping entered named_by size_by marked_by known fits_by fits_at fits_first fits_later like report_by read_s read_v read_a read_t read_u bytes_v rows_v movement since_base one_more counted_by noted count_of split becomes held excess signed twos untwos number bits bit
computing = tt
