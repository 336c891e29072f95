use Prim.Native.Nat.{◌+◌, ◌-◌, ◌/◌, ◌≤◌}
use mathlib.Core.Path.{◌≡◌, refl, sym, ◌∙◌}
use native.Mathlib.Omega.{arith}
use lib.ListN.{length, get_or, take, drop, length-drop}
use borrow.Author.Tests.{eqb-true, not-false}
use Rattle.numbers.proofs.Choices.{neither}
use Rattle.fold.proofs.Parts.{rest_is}
use Rattle.wire.proofs.Letters.{at_most_five}
use Rattle.wire.specs.Line.{size_by}
use Rattle.reader.specs.State.{ready}
use Rattle.reader.specs.Parts.{Stands}
use Rattle.reader.proofs.Loop.{starts, far, on, over, none_alike, alike_more, silences_stand}
use Rattle.reader.proofs.WholeReports.{three_or_more, either, whole_stands}
use Rattle.reader.proofs.whole.runs.Goals as goal

pub loop-taken-init : goal.loop-taken-init
loop-taken-init c = let a = c.args in
    let s = starts (ready a.letter) a.words.now a.out.now in
    (s, far s)

pub overflow_add-taken : goal.overflow_add-taken
overflow_add-taken c = omega (arith, at_most_five c.args.letter, c.size-size.ensures, c.loop-taken.invariant.1.within, c.well_formed.1.0.1)

pub loop-taken-preserved-then-whole : goal.loop-taken-preserved-then-whole
loop-taken-preserved-then-whole c =
    let l = c.loop-taken in
    let a = c.args in
    let rest = take (length a.words.now - l.taken) (drop l.taken a.words.now) in
    let places = take (length l.out - l.used) (drop l.used l.out) in
    let long_rest : size_by a.letter ≤ length rest = rw (rest_is a.words.now l.taken, length-drop) (omega (arith, c.size-size.ensures)) in
    let room : 5 ≤ length places = rw (rest_is l.out l.used, length-drop) (omega arith) in
    let report : Stands (ready a.letter) rest places (ready a.letter) (size_by a.letter) 5 1 0 c.put.new.out =
    rw (c.put.ensures, c.report_of-report.ensures, c.front.ensures)
    (whole_stands a.letter places room (size_by a.letter) rest refl (either a.letter c.requires) long_rest (sym c.whole.ensures ∙ c.if-whole.true)) in
    let next : l.used / 5 + 1 ≡ (l.used + 5) / 5 = omega arith in
    let reported = rw (← c.size-size.ensures, next) at (on l.invariant.0 report) in
    (reported, far reported)

pub bounds-rest-1 : goal.bounds-rest-1
bounds-rest-1 c = let l = c.loop-taken in
    rw (rest_is c.args.words.now l.taken, length-drop) (omega (arith, c.size-size.ensures, three_or_more (either c.args.letter c.requires)))

pub loop-taken-preserved : goal.loop-taken-preserved
loop-taken-preserved c =
    let l = c.loop-taken in
    let a = c.args in
    let rest = take (length a.words.now - l.taken) (drop l.taken a.words.now) in
    let some : 3 ≤ length rest = rw (rest_is a.words.now l.taken, length-drop) (omega (arith, c.size-size.ensures, three_or_more (either a.letter c.requires))) in
    let is : get_or rest 0 0 ≡ 257 = eqb-true _ 257 (not-false _ (neither _ _ c.if-rest.false).0) in
    let silent = over l.invariant.0 (silences_stand a.letter 1 rest _ (alike_more none_alike (omega (arith, some)) (omega (arith, is)) (omega (arith, is)))) in
    (silent, far silent)

pub returns : goal.returns
returns c =
    let s = c.loop-taken.invariant in
    rw (sym s.1.places) s.0
