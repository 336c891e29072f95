-- `default`: U is unmarked.
use Rattle.wire.specs.Line.{marked_by, named_by}
use Rattle.reader.proofs.ReaderDefault.default.Goals as goal

pub returns : goal.returns
unfolding marked_by named_by
returns c = c.no_bytes.ensures
