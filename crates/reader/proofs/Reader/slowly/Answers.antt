use Prim.Native.Nat.{ℕ, ◌+◌, ◌*◌}
use Rattle.std.proofs.Common.{rules}
use mathlib.Core.Path.{◌≡◌, refl, sym, ◌∙◌, ap}
use mathlib.Core.Bool.{true, not}
use native.Mathlib.Omega.{arith}
use lib.ListN.{get_or, length-drop}
use lib.Dec.{eqb, leb}
use borrow.Author.Tests.{eqb-true, eq-eqb, leb-true, not-true, not-false}
use Rattle.numbers.proofs.Choices.{neither}
use Rattle.numbers.proofs.Tested.{left, right, holds}
use Rattle.fold.proofs.Parts.{rest_is}
use Rattle.wire.proofs.Letters.{at_most_five}
use Rattle.wire.specs.Line.{marked_by}
use Rattle.reader.specs.Good.{good}
use Rattle.wire.specs.Refusals.{number_if}
use Rattle.reader.specs.Parts.{Stands, Begins}
use Rattle.reader.proofs.Parts.{below_size_lem}
use Rattle.reader.proofs.Loop.{starts, far, all_taken, took, none_taken, skipped}
use Rattle.reader.proofs.Reader.slowly.Goals as goal

pub loop-at-init : goal.loop-at-init
loop-at-init c = let a = c.args in
    let s = starts a.self a.words.now a.out.now in
    (s, c.requires.1, refl, far s, λ _. refl, search rules)

pub first-t-requires : goal.first-t-requires
first-t-requires c = let l = c.loop-at in
    (c.requires.0 ∙ sym l.invariant.2, l.invariant.1, rw (rest_is c.args.words.now l.at, length-drop) (omega arith))

pub returns-then-t-eq0 : goal.returns-then-t-eq0
returns-then-t-eq0 c =
    let refused : let l = c.loop-at in
    Begins c.args.self c.args.words.now c.args.out.now
    (record { refusal = number_if c.first-t.result.refusal; next = l.r; taken = l.at; reports = 0; dropped = l.dropped }) c.first-t.new.out = let i = c.loop-at.invariant in none_taken i.0 i.1 i.2 c.first-t.ensures.0 i.4 c.if-t-eq0.true in
    rw c.reading.ensures refused

pub overflow_add-at : goal.overflow_add-at
overflow_add-at c =
    let turn : let l = c.loop-at in
    let a = c.args in
    let t = c.first-t.result in
    Stands a.self a.words.now a.out.now t.next (l.at + t.taken) (5 * t.reports) t.reports (l.dropped + t.dropped) c.first-t.new.out = let i = c.loop-at.invariant in took i.0 i.1 i.2 c.first-t.ensures.0 in
    omega (arith, (far turn).within, c.well_formed.1.1.0.1)

pub overflow_add-dropped : goal.overflow_add-dropped
overflow_add-dropped c =
    let turn : let l = c.loop-at in
    let a = c.args in
    let t = c.first-t.result in
    Stands a.self a.words.now a.out.now t.next (l.at + t.taken) (5 * t.reports) t.reports (l.dropped + t.dropped) c.first-t.new.out = let i = c.loop-at.invariant in took i.0 i.1 i.2 c.first-t.ensures.0 in
    omega (arith, (far turn).few, below_size_lem c.args.self c.requires.1, at_most_five c.args.self.format, c.well_formed.1.1.0.1)

pub returns-then-t-word : goal.returns-then-t-word
returns-then-t-word c =
    let turn : let l = c.loop-at in
    let a = c.args in
    let t = c.first-t.result in
    Stands a.self a.words.now a.out.now t.next (l.at + t.taken) (5 * t.reports) t.reports (l.dropped + t.dropped) c.first-t.new.out = let i = c.loop-at.invariant in took i.0 i.1 i.2 c.first-t.ensures.0 in
    let stays : let u = c.first-t.result.next in
    (good u ≡ true) × (u.format ≡ c.args.self.format) = let i = c.loop-at.invariant in
    let b = c.first-t.ensures.0 in
    (b.sound, b.same_format ∙ i.2) in
    let k = stays in
    rw c.reading-then-t-word.ensures (record { stands = turn; stops = λ e. absurd (c.if-t-eq0.false (omega arith)); sound = k.0; same_format = k.1 })

pub offset_bounds-words-at-then-awaits-t : goal.offset_bounds-words-at-then-awaits-t
offset_bounds-words-at-then-awaits-t c =
    let turn : let l = c.loop-at in
    let a = c.args in
    let t = c.first-t.result in
    Stands a.self a.words.now a.out.now t.next (l.at + t.taken) (5 * t.reports) t.reports (l.dropped + t.dropped) c.first-t.new.out = let i = c.loop-at.invariant in took i.0 i.1 i.2 c.first-t.ensures.0 in
    omega (arith, (far turn).within, c.well_formed.1.1.0.1)

pub slice_bounds-alike-count : goal.slice_bounds-alike-count
slice_bounds-alike-count c =
    let turn : let l = c.loop-at in
    let a = c.args in
    let t = c.first-t.result in
    Stands a.self a.words.now a.out.now t.next (l.at + t.taken) (5 * t.reports) t.reports (l.dropped + t.dropped) c.first-t.new.out = let i = c.loop-at.invariant in took i.0 i.1 i.2 c.first-t.ensures.0 in
    omega (arith, (far turn).within, c.well_formed.1.1.0.1)

pub slice_bounds-alike-start : goal.slice_bounds-alike-start
slice_bounds-alike-start c =
    let turn : let l = c.loop-at in
    let a = c.args in
    let t = c.first-t.result in
    Stands a.self a.words.now a.out.now t.next (l.at + t.taken) (5 * t.reports) t.reports (l.dropped + t.dropped) c.first-t.new.out = let i = c.loop-at.invariant in took i.0 i.1 i.2 c.first-t.ensures.0 in
    omega (arith, (far turn).within)

pub overflow_add-at-then-awaits-t : goal.overflow_add-at-then-awaits-t
overflow_add-at-then-awaits-t c =
    let none : c.first-t.result.reports ≡ 0 = let t = c.first-t.result in eqb-true t.reports 0 (not-false _ (neither (not (eqb t.reports 0)) _ c.if-t-word.false).0) in
    let lost : let l = c.loop-at in
    let a = c.args in
    let t = c.first-t.result in
    Stands a.self a.words.now a.out.now t.next (l.at + t.taken + c.alike-n.result) 0 0 (l.dropped + t.dropped + c.alike-n.result) c.first-t.new.out = let f = c.first-t in
    let l = c.loop-at in
    let i = l.invariant in
    let some = eqb f.result.dropped 0 in
    let byte = leb (get_or c.args.words.now l.at 0) 255 in
    let both = left _ byte c.if-awaits-t.true in
    skipped i.0 i.1 i.2 f.ensures.0 none f.ensures.1 (not-true _ (ap (λ (letter : ℕ). not (marked_by letter)) i.2 ∙ sym i.5 ∙ left _ (not some) both))
    (λ e. holds (sym (not-true _ (right _ (not some) both)) ∙ eq-eqb _ _ e))
    (leb-true _ 255 (right _ byte c.if-awaits-t.true)) c.alike-n.ensures in
    omega (arith, (far lost).within, c.well_formed.1.1.0.1)

pub overflow_add-dropped-then-awaits-t : goal.overflow_add-dropped-then-awaits-t
overflow_add-dropped-then-awaits-t c =
    let none : c.first-t.result.reports ≡ 0 = let t = c.first-t.result in eqb-true t.reports 0 (not-false _ (neither (not (eqb t.reports 0)) _ c.if-t-word.false).0) in
    let lost : let l = c.loop-at in
    let a = c.args in
    let t = c.first-t.result in
    Stands a.self a.words.now a.out.now t.next (l.at + t.taken + c.alike-n.result) 0 0 (l.dropped + t.dropped + c.alike-n.result) c.first-t.new.out = let f = c.first-t in
    let l = c.loop-at in
    let i = l.invariant in
    let some = eqb f.result.dropped 0 in
    let byte = leb (get_or c.args.words.now l.at 0) 255 in
    let both = left _ byte c.if-awaits-t.true in
    skipped i.0 i.1 i.2 f.ensures.0 none f.ensures.1 (not-true _ (ap (λ (letter : ℕ). not (marked_by letter)) i.2 ∙ sym i.5 ∙ left _ (not some) both))
    (λ e. holds (sym (not-true _ (right _ (not some) both)) ∙ eq-eqb _ _ e))
    (leb-true _ 255 (right _ byte c.if-awaits-t.true)) c.alike-n.ensures in
    omega (arith, (far lost).few, below_size_lem c.args.self c.requires.1, at_most_five c.args.self.format, c.well_formed.1.1.0.1)

pub loop-at-smaller-then-awaits-t : goal.loop-at-smaller-then-awaits-t
loop-at-smaller-then-awaits-t c =
    let none : c.first-t.result.reports ≡ 0 = let t = c.first-t.result in eqb-true t.reports 0 (not-false _ (neither (not (eqb t.reports 0)) _ c.if-t-word.false).0) in
    let lost : let l = c.loop-at in
    let a = c.args in
    let t = c.first-t.result in
    Stands a.self a.words.now a.out.now t.next (l.at + t.taken + c.alike-n.result) 0 0 (l.dropped + t.dropped + c.alike-n.result) c.first-t.new.out = let f = c.first-t in
    let l = c.loop-at in
    let i = l.invariant in
    let some = eqb f.result.dropped 0 in
    let byte = leb (get_or c.args.words.now l.at 0) 255 in
    let both = left _ byte c.if-awaits-t.true in
    skipped i.0 i.1 i.2 f.ensures.0 none f.ensures.1 (not-true _ (ap (λ (letter : ℕ). not (marked_by letter)) i.2 ∙ sym i.5 ∙ left _ (not some) both))
    (λ e. holds (sym (not-true _ (right _ (not some) both)) ∙ eq-eqb _ _ e))
    (leb-true _ 255 (right _ byte c.if-awaits-t.true)) c.alike-n.ensures in
    omega (arith, (far lost).within)

pub loop-at-preserved-then-awaits-t : goal.loop-at-preserved-then-awaits-t
loop-at-preserved-then-awaits-t c =
    let stays : let u = c.first-t.result.next in
    (good u ≡ true) × (u.format ≡ c.args.self.format) = let i = c.loop-at.invariant in
    let b = c.first-t.ensures.0 in
    (b.sound, b.same_format ∙ i.2) in
    let none : c.first-t.result.reports ≡ 0 = let t = c.first-t.result in eqb-true t.reports 0 (not-false _ (neither (not (eqb t.reports 0)) _ c.if-t-word.false).0) in
    let lost : let l = c.loop-at in
    let a = c.args in
    let t = c.first-t.result in
    Stands a.self a.words.now a.out.now t.next (l.at + t.taken + c.alike-n.result) 0 0 (l.dropped + t.dropped + c.alike-n.result) c.first-t.new.out = let f = c.first-t in
    let l = c.loop-at in
    let i = l.invariant in
    let some = eqb f.result.dropped 0 in
    let byte = leb (get_or c.args.words.now l.at 0) 255 in
    let both = left _ byte c.if-awaits-t.true in
    skipped i.0 i.1 i.2 f.ensures.0 none f.ensures.1 (not-true _ (ap (λ (letter : ℕ). not (marked_by letter)) i.2 ∙ sym i.5 ∙ left _ (not some) both))
    (λ e. holds (sym (not-true _ (right _ (not some) both)) ∙ eq-eqb _ _ e))
    (leb-true _ 255 (right _ byte c.if-awaits-t.true)) c.alike-n.ensures in
    let k = stays in
    (lost, k.0, k.1, far lost, λ e. absurd (c.if-t-eq0.false (omega arith)), c.loop-at.invariant.5)

pub loop-at-preserved : goal.loop-at-preserved
loop-at-preserved c =
    let turn : let l = c.loop-at in
    let a = c.args in
    let t = c.first-t.result in
    Stands a.self a.words.now a.out.now t.next (l.at + t.taken) (5 * t.reports) t.reports (l.dropped + t.dropped) c.first-t.new.out = let i = c.loop-at.invariant in took i.0 i.1 i.2 c.first-t.ensures.0 in
    let stays : let u = c.first-t.result.next in
    (good u ≡ true) × (u.format ≡ c.args.self.format) = let i = c.loop-at.invariant in
    let b = c.first-t.ensures.0 in
    (b.sound, b.same_format ∙ i.2) in
    let none : c.first-t.result.reports ≡ 0 = let t = c.first-t.result in eqb-true t.reports 0 (not-false _ (neither (not (eqb t.reports 0)) _ c.if-t-word.false).0) in
    let k = stays in
    let s = rw none at turn in
    (s, k.0, k.1, far s, λ e. absurd (c.if-t-eq0.false (omega arith)), c.loop-at.invariant.5)

pub returns : goal.returns
returns c = let i = c.loop-at.invariant in rw c.reading-2.ensures (all_taken i.0 i.1 i.2 i.4 c.loop-at-test.false)
