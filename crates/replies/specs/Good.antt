-- A good reader that is told of replies: a good report reader, and a good reply that is awaited, or none.
use Rattle.std.specs.Prelude.{Bool, ◌&&◌}
use Rattle.reader.specs.Good as readers
use Rattle.replies.specs.Replying as awaited
use Rattle.replies.specs.declared.ToldReader.{ToldReader}

unfoldable pub good : ToldReader → Bool
good s = readers.good s.reader && awaited.good s.awaited
