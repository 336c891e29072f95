-- The recording of V that a bridge makes of a recording of any format: "line words of any format in, V bytes out".
use Rattle.std.specs.Prelude.{ℕ, List, [], ◌∷◌, ◌++◌}
use Rattle.wire.specs.Line.{letter_of}
use Rattle.wire.specs.declared.Format.TheVariants.{FiveByte}
use Rattle.reader.specs.Rules.{word_of}
use Rattle.listing.specs.Scanning.{width, recording_of}
use Rattle.listing.specs.declared.Found.{Found}
use Rattle.listing.specs.declared.Found.TheVariants.{Nothing, Format, Word, Bad, Over, End}
use Rattle.bridge.specs.Splitting.{bytes_all}
use Rattle.bridge.specs.Line.{given, behind}
use Rattle.bridge.specs.Promises.{fresh_of}
use Rattle.bridge.specs.declared.Bridge.{Bridge}
use Rattle.mbridge.specs.Lines.{format_line, byte_lines, bad_line, over_line}

-- the bridge before a format has come
abbrev pub waiting : Bridge
waiting = (fresh_of (letter_of FiveByte)).bridge

-- what is found in a recording goes to the bridge: a format has a fresh one, and a word is the next of its line
unfoldable pub bridge_behind : Bridge → Found → Bridge
bridge_behind b Nothing = b
bridge_behind b (Format f) = (fresh_of f).bridge
bridge_behind b (Word n w) = behind b (word_of b.reader w)
bridge_behind b (Bad n) = b
bridge_behind b Over = b
bridge_behind b End = b

-- what is written of it: the format V, each byte of the V reports that a report becomes, and how the recording ends where it is not whole
unfoldable pub lines_for : Bridge → Found → List ℕ
lines_for b Nothing = []
lines_for b (Format f) = format_line
lines_for b (Word n w) = byte_lines (bytes_all (given b (word_of b.reader w)).sent)
lines_for b (Bad n) = bad_line n
lines_for b Over = over_line
lines_for b End = []

-- one after the other
unfoldable pub lines_from : Bridge → List Found → List ℕ
lines_from b [] = []
lines_from b (f ∷ fs) = lines_for b f ++ lines_from (bridge_behind b f) fs

-- of a whole input
unfoldable pub bridged_of : List ℕ → List ℕ
bridged_of input = lines_from waiting (recording_of width input)
