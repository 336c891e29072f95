-- The lines of what is left of the bytes, behind what was put, are all of them.
use Rattle.std.proofs.Common.{◌≡◌, length, drop}
use Rattle.text.specs.Growth.{slice, filled_by}
use Rattle.mbridge.specs.Lines.{byte_lines}
use Rattle.mbridge.proofs.lines.Given as goal

abbrev pub invariant-loop-b : goal.invariant-loop-b
invariant-loop-b l =
    (filled_by (slice l.out l.end) (byte_lines (drop l.b-index l.bytes)) ≡ filled_by (slice l.initial.out l.at) (byte_lines l.bytes)) × (length l.out ≡ length l.initial.out)
