use mathlib.Core.Path.{refl, sym, ◌∙◌, ap}
use native.Mathlib.Omega.{arith}
use Rattle.wire.proofs.Letters.{at_most_five}
use Rattle.reader.specs.Line.{whole}
use Rattle.reader.proofs.Parts.{below_size_lem}
use Rattle.reader.proofs.Loop.{starts, far, unchanged, ends_before, ends_all, and_part}
use Rattle.reader.proofs.Reader.line.Goals as goal

pub loop-at-init : goal.loop-at-init
loop-at-init c =
    (starts c.args.self c.args.words.now c.args.out.now, c.requires, refl)

pub returns-then-t-eq0 : goal.returns-then-t-eq0
returns-then-t-eq0 c =
    let here = and_part c.loop-at.invariant.0 c.swiftly-q.ensures.0 in
    let b = c.slowly-t.ensures in
    rw c.reading.ensures (ap (whole _) (unchanged here b c.if-t-eq0.true) ∙ ends_before here b c.if-t-eq0.true)

pub slowly-t-requires : goal.slowly-t-requires
slowly-t-requires c =
    let e = c.swiftly-q.ensures in (sym (e.2 ∙ c.loop-at.invariant.2), e.1)

pub loop-at-preserved : goal.loop-at-preserved
loop-at-preserved c =
    let here = and_part c.loop-at.invariant.0 c.swiftly-q.ensures.0 in
    let turn = and_part here c.slowly-t.ensures.stands in
    let b = c.slowly-t.ensures in
    (turn, b.sound, b.same_format ∙ c.swiftly-q.ensures.2 ∙ c.loop-at.invariant.2)

pub overflow_add-at : goal.overflow_add-at
overflow_add-at c =
    let here = and_part c.loop-at.invariant.0 c.swiftly-q.ensures.0 in
    omega (arith, (far here).within, c.well_formed.1.0.1)

pub overflow_add-dropped : goal.overflow_add-dropped
overflow_add-dropped c =
    let here = and_part c.loop-at.invariant.0 c.swiftly-q.ensures.0 in
    omega (arith, (far here).few, below_size_lem c.args.self c.requires, at_most_five c.args.self.format, c.well_formed.1.0.1)

pub offset_bounds-words-at-in-loop-at : goal.offset_bounds-words-at-in-loop-at
offset_bounds-words-at-in-loop-at c =
    let here = and_part c.loop-at.invariant.0 c.swiftly-q.ensures.0 in
    omega (arith, (far here).within, c.well_formed.1.0.1)

pub slice_bounds-slowly-count : goal.slice_bounds-slowly-count
slice_bounds-slowly-count c =
    let here = and_part c.loop-at.invariant.0 c.swiftly-q.ensures.0 in
    omega (arith, (far here).within)

pub slice_bounds-slowly-start : goal.slice_bounds-slowly-start
slice_bounds-slowly-start c =
    let here = and_part c.loop-at.invariant.0 c.swiftly-q.ensures.0 in
    omega (arith, (far here).within)

pub overflow_add-at-in-loop-at : goal.overflow_add-at-in-loop-at
overflow_add-at-in-loop-at c =
    let here = and_part c.loop-at.invariant.0 c.swiftly-q.ensures.0 in
    let turn = and_part here c.slowly-t.ensures.stands in
    omega (arith, (far turn).within, c.well_formed.1.0.1)

pub overflow_add-dropped-in-loop-at : goal.overflow_add-dropped-in-loop-at
overflow_add-dropped-in-loop-at c =
    let here = and_part c.loop-at.invariant.0 c.swiftly-q.ensures.0 in
    let turn = and_part here c.slowly-t.ensures.stands in
    omega (arith, (far turn).few, below_size_lem c.args.self c.requires, at_most_five c.args.self.format, c.well_formed.1.0.1)

pub returns : goal.returns
returns c =
    rw c.reading-2.ensures (ends_all c.loop-at.invariant.0 c.loop-at-test.false)
