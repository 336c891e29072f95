-- All that a worked line computes with: what says `unfolding computing` sees through the rules, and what they rest on.
use lib.Count.{ones, ones_in}
use Rattle.numbers.specs.Bits.{bit, bits, number}
use Rattle.frames.specs.Words.{line_words}
use Rattle.wire.specs.Line.{named_by, size_by, known}
use Rattle.wire.specs.Places.{like, fits_first, fits_later, fits_at, fits_by}
use Rattle.yard.specs.Stands.{minus_zero, least_v, least, least_w, barred, barred_by, stands_by}
use Rattle.yard.specs.Good.{gone_rightly, good}
use Rattle.yard.specs.Rules.{first_with, one_more, byte_can, silence_of, word_of}
use Rattle.yard.specs.Log.{sendable, checked_of}
use Rattle.yard.specs.Promises.{fresh_of, step_of, check_of}

unfoldable pub computing : Unit {0}
unfolding fresh_of step_of check_of checked_of sendable word_of byte_can silence_of one_more first_with good gone_rightly stands_by barred_by barred minus_zero least_v least least_w line_words named_by size_by known fits_by fits_at fits_first fits_later like ones ones_in number bits bit
computing = tt
