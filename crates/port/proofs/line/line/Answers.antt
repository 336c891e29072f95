-- The next byte gives no word, a word with a place, or one without.
use mathlib.Core.Path.{◌≡◌}
use lib.ListN.{length}
use native.Mathlib.Omega.{arith}
use Rattle.fold.proofs.Loops.{stands_none}
use Rattle.port.specs.Line.{hears_bytes}
use Rattle.port.proofs.Loop.{lawful, far, ends_all, nothing_more, word_more, no_room}
use Rattle.port.proofs.line.line.Goals as goal
use Rattle.port.proofs.line.line.Goals.{in-Some+else-written-out, in_default}

pub loop-taken-init : goal.loop-taken-init
loop-taken-init c = stands_none hears_bytes lawful c.args.port c.args.raw.now c.args.out.now

pub returns-then-written-out : goal.returns-then-written-out
returns-then-written-out c =
    let l = c.loop-taken in
    let e = c.byte-heard.ensures in
    no_room l.invariant (omega arith) e c.in-Some.is (omega arith)

pub loop-taken-preserved : goal.loop-taken-preserved
loop-taken-preserved c =
    let l = c.loop-taken in
    elim c.match-heard.branch [
      | in-Some+else-written-out w ↦ rw (w.out-is, w.written-is) (word_more l.invariant (omega arith) c.byte-heard.ensures w.in-Some.is (omega (arith, far l.invariant)))
      | in_default w ↦ rw (w.out-is, w.written-is) (nothing_more l.invariant (omega arith) c.byte-heard.ensures w.in_default.is)
    ]

pub returns : goal.returns
returns c =
    let l = c.loop-taken in
    let all : length c.args.raw.now ≡ l.taken = omega (arith, far l.invariant) in
    rw all (ends_all l.invariant (omega arith))
