-- What is told of the words behind those passed, with the count so far, is told of the log.
use Prim.Native.Nat.{◌≤◌}
use mathlib.Core.Path.{◌≡◌}
use mathlib.Core.Bool.{true}
use lib.ListN.{length, drop}
use Rattle.yard.specs.Good.{good}
use Rattle.yard.specs.Log.{checked_of}
use Rattle.yard.proofs.Logs.{rest}
use Rattle.yard.proofs.log.sendable.Given as goal

abbrev pub invariant-loop-word : goal.invariant-loop-word
invariant-loop-word l = record {
  said : checked_of l.initial.next l.words ≡ rest l.next l.sendable (length l.words) (drop l.word-index l.words);
  sound : good l.next ≡ true;
  few : l.sendable ≤ l.word-index;
}
