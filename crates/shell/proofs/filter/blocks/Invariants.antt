-- Read after read, each nearer to the end.
use Rattle.std.proofs.Common.{◌≡◌, ◌+◌, ◌≤◌, length}
use Rattle.shell.specs.Filters.{Called}
use Rattle.shell.proofs.filter.blocks.Given as goal

abbrev pub invariant-loop : goal.invariant-loop
invariant-loop g l =
    record {
      goes : Called g.F.Filter.program g.F.Filter.rest g.F.Filter.reads g.F.Filter.room l.name (length l.initial.input) (length l.initial.out) l.initial.system.turn l.initial.here
          → Called g.F.Filter.program g.F.Filter.rest g.F.Filter.reads g.F.Filter.room l.name (length l.input) (length l.out) l.system.turn l.here
          × (g.F.Filter.left l.here + l.counter ≤ g.F.Filter.left l.initial.here);
      input : length l.input ≡ length l.initial.input;
      out : length l.out ≡ length l.initial.out;
    }
