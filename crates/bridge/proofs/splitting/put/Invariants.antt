-- What is written, what is to come, and the old bytes behind it are the whole.
use Prim.Native.Nat.{◌+◌, ◌-◌, ◌*◌, ◌≤◌}
use mathlib.Core.Path.{◌≡◌}
use mathlib.Core.List.{◌++◌}
use lib.ListN.{length, take, drop}
use Rattle.bridge.specs.Splitting.{NearMove, split, bytes_all}
use Rattle.bridge.proofs.splitting.put.Given as goal

abbrev pub invariant-loop-n : goal.invariant-loop-n
invariant-loop-n l =
    record {
      near : NearMove l.left;
      room : 3 * l.n + 3 * (l.count - l.n) ≤ length l.out;
      long : length l.out ≡ length l.initial.out;
      whole : take (3 * l.n) l.out ++ (bytes_all (split (l.count - l.n) l.buttons l.left) ++ drop (3 * l.n + 3 * (l.count - l.n)) l.out) ≡ bytes_all (split l.count l.buttons l.initial.left) ++ drop (3 * l.count) l.initial.out;
    }
