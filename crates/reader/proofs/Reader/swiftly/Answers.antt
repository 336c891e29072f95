use mathlib.Core.Path.{◌≡◌, refl, sym, ◌∙◌, ap}
use mathlib.Core.Bool.{not}
use native.Mathlib.Omega.{arith}
use lib.Dec.{eqb}
use borrow.Author.Tests.{not-false}
use Rattle.numbers.proofs.Choices.{neither}
use Rattle.reader.specs.Good.{good}
use Rattle.reader.specs.State.{ready}
use Rattle.reader.proofs.Parts.{below_size_lem}
use Rattle.reader.proofs.WholeReports.{is_ready}
use Rattle.reader.proofs.Loop.{starts, far, and_run, and_silences, and_part, leaves, handed}
use Rattle.reader.proofs.Reader.swiftly.Goals as goal

pub returns-then-not-quick : goal.returns-then-not-quick
returns-then-not-quick c =
    rw c.reading.ensures (starts c.args.self c.args.words.now c.args.out.now, c.requires, refl)

pub returns-then-not-is_ready : goal.returns-then-not-is_ready
returns-then-not-is_ready c =
    rw c.reading-then-not-is_ready.ensures (starts c.args.self c.args.words.now c.args.out.now, c.requires, refl)

pub loop-at-init : goal.loop-at-init
loop-at-init c =
    let a = c.args in starts (ready a.self.format) a.words.now a.out.now

pub passed-q-requires : goal.passed-q-requires
passed-q-requires c =
    omega (arith, below_size_lem c.args.self c.requires)

pub overflow_add-at : goal.overflow_add-at
overflow_add-at c =
    let ran = and_run c.loop-at.invariant refl c.passed-q.ensures in
    omega (arith, (far ran).within, c.well_formed.1.1.0.1)

pub offset_bounds-words-at-in-loop-at : goal.offset_bounds-words-at-in-loop-at
offset_bounds-words-at-in-loop-at c =
    let ran = and_run c.loop-at.invariant refl c.passed-q.ensures in
    omega (arith, (far ran).within, c.well_formed.1.1.0.1)

pub slice_bounds-alike-count : goal.slice_bounds-alike-count
slice_bounds-alike-count c =
    let ran = and_run c.loop-at.invariant refl c.passed-q.ensures in
    omega (arith, (far ran).within)

pub slice_bounds-alike-start : goal.slice_bounds-alike-start
slice_bounds-alike-start c =
    let ran = and_run c.loop-at.invariant refl c.passed-q.ensures in
    omega (arith, (far ran).within)

pub loop-at-preserved-then-n-gt0 : goal.loop-at-preserved-then-n-gt0
loop-at-preserved-then-n-gt0 c =
    let ran = and_run c.loop-at.invariant refl c.passed-q.ensures in
    and_silences ran refl c.alike-n.ensures

pub offset_bounds-words-at-in-loop-at-2 : goal.offset_bounds-words-at-in-loop-at-2
offset_bounds-words-at-in-loop-at-2 c =
    let ran = and_run c.loop-at.invariant refl c.passed-q.ensures in
    omega (arith, (far ran).within, c.well_formed.1.1.0.1)

pub slice_bounds-one_by_one-count : goal.slice_bounds-one_by_one-count
slice_bounds-one_by_one-count c =
    let ran = and_run c.loop-at.invariant refl c.passed-q.ensures in
    omega (arith, (far ran).within)

pub slice_bounds-one_by_one-start : goal.slice_bounds-one_by_one-start
slice_bounds-one_by_one-start c =
    let ran = and_run c.loop-at.invariant refl c.passed-q.ensures in
    omega (arith, (far ran).within)

pub one_by_one-t-requires : goal.one_by_one-t-requires
one_by_one-t-requires c =
    let calm : let r = c.args.self in r ≡ ready r.format = is_ready c.args.self c.requires (sym c.is_ready.ensures ∙ c.if-not-is_ready.false) in
    let same : ready c.args.self.format ≡ c.args.self = sym calm in
    rw c.no_bytes-ready.ensures (ap good same ∙ c.requires)

pub overflow_add-at-in-loop-at : goal.overflow_add-at-in-loop-at
overflow_add-at-in-loop-at c =
    let ran = and_run c.loop-at.invariant refl c.passed-q.ensures in
    let part = rw c.no_bytes-ready.ensures at c.one_by_one-t.ensures in
    let turn = and_part ran part.stands in
    omega (arith, (far turn).within, c.well_formed.1.1.0.1)

pub overflow_add-dropped : goal.overflow_add-dropped
overflow_add-dropped c =
    let ran = and_run c.loop-at.invariant refl c.passed-q.ensures in
    let part = rw c.no_bytes-ready.ensures at c.one_by_one-t.ensures in
    let turn = and_part ran part.stands in
    omega (arith, (far turn).few, c.well_formed.1.1.0.1)

pub returns-then-is_ready-t : goal.returns-then-is_ready-t
returns-then-is_ready-t c =
    let calm : let r = c.args.self in r ≡ ready r.format = is_ready c.args.self c.requires (sym c.is_ready.ensures ∙ c.if-not-is_ready.false) in
    let same : ready c.args.self.format ≡ c.args.self = sym calm in
    let ran = and_run c.loop-at.invariant refl c.passed-q.ensures in
    let part = rw c.no_bytes-ready.ensures at c.one_by_one-t.ensures in
    let turn = and_part ran part.stands in
    rw c.reading-then-is_ready-t.ensures (handed turn same, part.sound, part.same_format)

pub loop-at-preserved : goal.loop-at-preserved
loop-at-preserved c =
    let ran = and_run c.loop-at.invariant refl c.passed-q.ensures in
    let part = rw c.no_bytes-ready.ensures at c.one_by_one-t.ensures in
    let turn = and_part ran part.stands in
    let u = c.one_by_one-t.result.next in
    let two = neither (not c.is_ready-in-loop-at.result) (eqb c.one_by_one-t.result.taken 0) c.if-is_ready-t.false in
    leaves turn (is_ready u part.sound (sym c.is_ready-in-loop-at.ensures ∙ not-false _ two.0) ∙ ap ready part.same_format)

pub returns : goal.returns
returns c =
    let calm : let r = c.args.self in r ≡ ready r.format = is_ready c.args.self c.requires (sym c.is_ready.ensures ∙ c.if-not-is_ready.false) in
    let same : ready c.args.self.format ≡ c.args.self = sym calm in
    rw (c.reading-2.ensures, c.no_bytes-ready.ensures) (handed c.loop-at.invariant same, ap good same ∙ c.requires, refl)
