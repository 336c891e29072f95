-- Block behind block.
use Rattle.std.proofs.Common.{◌≡◌, ◌-◌, ◌≤◌, length, take}
use Rattle.msalvage.specs.Blocks.{Holds}
use Rattle.msalvage.proofs.filled.Given as goal

abbrev pub invariant-loop-count : goal.invariant-loop-count
invariant-loop-count l = record { holds : Holds l.system.turn (take l.count l.input); within : l.count ≤ length l.input; long : length l.input ≡ length l.initial.input }

abbrev pub decreases-loop-count : goal.decreases-loop-count
decreases-loop-count l = length l.initial.input - l.count
