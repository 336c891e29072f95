use mathlib.Core.Path.{sym, ◌∙◌}
use native.Mathlib.Omega.{arith}
use lib.ListN.{get_or}
use Rattle.fold.proofs.Parts.{rest_is}
use Rattle.frames.specs.Words.{is_byte}
use Rattle.wire.specs.Line.{size_by}
use Rattle.choosing.proofs.Walk.{reaches}
use Rattle.salvage.specs.Picking.{valid_by}
use Rattle.salvage.proofs.Loop.{begins, one_at_most, run_more, word_more, stops, finishes}
use Rattle.salvage.proofs.pick_runs.Goals as goal

pub loop-at-init : goal.loop-at-init
loop-at-init c = let a = c.args in begins a.letter a.words.now a.places.now

pub returns-then-runs-places : goal.returns-then-runs-places
returns-then-runs-places c =
    let l = c.loop-at in
    let here = rw (rest_is c.args.words.now l.at) at (sym c.run_starts.ensures ∙ c.if-run_starts.true) in
    rw c.told.ensures (stops l.invariant (omega (arith, c.requires.0)) (omega arith) c.if-runs-places.true here)

pub overflow_add-at : goal.overflow_add-at
overflow_add-at c =
    let l = c.loop-at in
    let here = rw (rest_is c.args.words.now l.at) at (sym c.run_starts.ensures ∙ c.if-run_starts.true) in
    omega (arith, c.requires.0, c.requires.2, reaches (size_by c.args.letter) (valid_by c.args.letter) c.args.words.now l.at (omega arith) (omega (arith, c.requires.0)) here)

pub loop-at-preserved-then-run_starts : goal.loop-at-preserved-then-run_starts
loop-at-preserved-then-run_starts c =
    let l = c.loop-at in
    let here = rw (rest_is c.args.words.now l.at) at (sym c.run_starts.ensures ∙ c.if-run_starts.true) in
    rw c.requires.0 (run_more l.invariant (omega (arith, c.requires.0)) (omega arith) c.if-runs-places.false here)

pub overflow_add-left : goal.overflow_add-left
overflow_add-left c =
    let l = c.loop-at in
    omega (arith, l.invariant.small, c.byte-left.ensures, c.requires.2, one_at_most (is_byte (get_or c.args.words.now l.at 0)))

pub loop-at-preserved : goal.loop-at-preserved
loop-at-preserved c =
    let l = c.loop-at in
    let here = rw (rest_is c.args.words.now l.at) at (sym c.run_starts.ensures ∙ c.if-run_starts.false) in
    rw c.byte-left.ensures (word_more l.invariant (omega arith) here)

pub returns : goal.returns
returns c =
    let l = c.loop-at in
    rw c.told-2.ensures (finishes l.invariant (omega arith))
