-- All that a worked line with tellings computes with.
use Rattle.wire.specs.Table.{rows_v, bytes_v}
use Rattle.replies.proofs.Computing as replies
use Rattle.tellings.specs.Items.{legal_items}
use Rattle.tellings.proofs.Apart.{done_of}

unfoldable pub computing : Unit {0}
unfolding replies.computing rows_v bytes_v legal_items done_of
computing = tt
