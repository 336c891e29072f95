-- A good converter: a good reader; a base only in A, each number of it 0 to 4095; the last middle and the count are free.
use Rattle.std.specs.Prelude.{Bool, ◌&&◌}
use Rattle.reader.specs.Good as reader
use Rattle.bridge.specs.Remembered.{good_base}
use Rattle.bridge.specs.declared.Bridge.{Bridge}

unfoldable pub good : Bridge → Bool
good b = reader.good b.reader && good_base b.reader.format b.past.base
