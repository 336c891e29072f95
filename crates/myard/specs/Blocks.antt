-- What holds of the judge while more is to be read.
use Rattle.std.specs.Prelude.{◌≤◌}
use Rattle.listing.specs.Scanning.{most_lines}
use Rattle.myard.specs.declared.Judge.{Judge}

-- no line too many, and a line of five bytes at most
abbrev pub Within : Judge → Type 0
Within j = (j.scanner.line ≤ most_lines) × (j.scanner.count ≤ 5)
