use Prim.Native.Nat.{◌+◌, ◌*◌, ◌<◌, ◌≤◌}
use mathlib.Core.Path.{◌≡◌}
use mathlib.Core.List.{[]}
use native.Mathlib.Omega.{arith}
use lib.ListN.{length}
use Rattle.fold.proofs.Loops as loops
use Rattle.wire.proofs.Letters.{at_most_five}
use Rattle.reader.proofs.Parts.{below_size_lem}
use Rattle.bridge.specs.Line.{converted_in, converts}
use Rattle.bridge.proofs.Keeps.{good_reader}
use Rattle.bridge.proofs.Counted.{lawful}
use Rattle.bridge.proofs.Loop.{far, more, ends_before}
use Rattle.bridge.proofs.Bridge.line.Goals as goal

pub loop-at-init : goal.loop-at-init
loop-at-init c = record { stands = loops.stands_none converts lawful c.args.self c.args.words.now c.args.out.now; sound = c.requires }

pub slice_bounds-first-count : goal.slice_bounds-first-count
slice_bounds-first-count c = omega (arith, far c.loop-at.invariant.stands)

pub returns-then-t-eq0 : goal.returns-then-t-eq0
returns-then-t-eq0 c =
    let here : c.loop-at.at < length c.args.words.now = omega arith in
    rw c.converted.ensures (ends_before {a = converted_in c.first-t.result} c.loop-at.invariant.stands here c.first-t.ensures.begins c.if-t-eq0.true)

pub overflow_add-reports : goal.overflow_add-reports
overflow_add-reports c =
    let here : c.loop-at.at < length c.args.words.now = omega arith in
    omega (arith, far (more {a = converted_in c.first-t.result} c.loop-at.invariant.stands here c.first-t.ensures.begins c.first-t.ensures.one c.if-t-eq0.false), c.well_formed.1.0.1)

pub overflow_add-sent : goal.overflow_add-sent
overflow_add-sent c =
    let here : c.loop-at.at < length c.args.words.now = omega arith in
    omega (arith, far (more {a = converted_in c.first-t.result} c.loop-at.invariant.stands here c.first-t.ensures.begins c.first-t.ensures.one c.if-t-eq0.false), c.well_formed.1.1.0.1)

pub overflow_add-dropped : goal.overflow_add-dropped
overflow_add-dropped c =
    let here : c.loop-at.at < length c.args.words.now = omega arith in
    let r = c.args.self.reader in
    omega (arith, far (more {a = converted_in c.first-t.result} c.loop-at.invariant.stands here c.first-t.ensures.begins c.first-t.ensures.one c.if-t-eq0.false), below_size_lem r (good_reader c.args.self c.requires), at_most_five r.format, c.well_formed.1.0.1)

pub loop-at-preserved : goal.loop-at-preserved
loop-at-preserved c =
    let here : c.loop-at.at < length c.args.words.now = omega arith in
    record {
      stands =
          let places : 3 * (c.loop-at.sent + c.first-t.result.sent) ≡ 3 * c.loop-at.sent + 3 * c.first-t.result.sent = omega arith in
          rw places (more {a = converted_in c.first-t.result} c.loop-at.invariant.stands here c.first-t.ensures.begins c.first-t.ensures.one c.if-t-eq0.false);
      sound = (c.first-t.ensures.begins []).sound;
    }

pub returns : goal.returns
returns c =
    let all : length c.args.words.now ≤ c.loop-at.at = omega arith in
    let here : length c.args.words.now ≡ c.loop-at.at = omega (arith, far c.loop-at.invariant.stands) in
    rw (c.converted-2.ensures, here) (loops.ends_all converts lawful c.loop-at.invariant.stands all)
