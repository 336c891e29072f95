-- Block after block.
use Rattle.std.proofs.Common.{◌≤◌, length, take}
use Rattle.shell.specs.Standing.{Stands}
use Rattle.readback.specs.Held.{Ready, to_go}
use Rattle.mtable.specs.Program.{mtable}
use Rattle.mtable.specs.Blocks.{rest, tells}
use Rattle.mtable.proofs.whole.Given as goal

abbrev pub invariant-every_block : goal.invariant-every_block
invariant-every_block l =
    let held = take l.place.held l.input in
    (l.place.held ≤ length l.input) × Ready l.place.reader held × Stands mtable l.system.turn (rest l.place.reader held) (tells l.place.reader held)

abbrev pub decreases-every_block : goal.decreases-every_block
decreases-every_block l = to_go l.place.reader l.place.held
