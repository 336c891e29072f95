-- All that a worked call computes with: what says `unfolding computing` sees through the rules of replies, and of the report reader.
use Rattle.reader.proofs.Computing as reader
use Rattle.replies.specs.Replying.{letter_of_code, letter_fits, fits, more, broken, placed}
use Rattle.replies.specs.Replying as replying
use Rattle.replies.specs.Good.{good}
use Rattle.replies.specs.Rules.{reply_to, keep, pass, word_of}
use Rattle.replies.specs.Promises.{tell_of, step_of}

unfoldable pub computing : Unit {0}
unfolding reader.computing letter_of_code letter_fits fits more broken placed replying.good good reply_to keep pass word_of tell_of step_of
computing = tt
