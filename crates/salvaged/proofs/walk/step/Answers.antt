-- `step`: by what is at the place.
use mathlib.Core.Path.{sym, ◌∙◌}
use native.Mathlib.Omega.{arith}
use lib.ListN.{get_or}
use borrow.Author.Tests.{le-leb, lt-leb}
use Rattle.fold.proofs.Parts.{rest_is}
use Rattle.salvaged.proofs.Runs.{within, run_short}
use Rattle.salvaged.proofs.Walking.{run_step, byte_step, mark_step}
use Rattle.salvaged.proofs.walk.step.Goals as goal

pub report-found-requires : goal.report-found-requires
report-found-requires c =
    (c.requires.0, c.requires.1.in_words, rw (rest_is c.args.words.now c.args.s.at) at (sym c.starts.ensures ∙ c.if-starts.true))

pub overflow_add-at : goal.overflow_add-at
overflow_add-at c =
    let a = c.args in
    let here = rw (rest_is a.words.now a.s.at) at (sym c.starts.ensures ∙ c.if-starts.true) in
    omega (arith, c.requires.0.sized, c.requires.0.few, within a.letter a.words.now a.s.at c.requires.1.in_words here)

pub item-requires : goal.item-requires
item-requires c =
    let a = c.args in
    let here = rw (rest_is a.words.now a.s.at) at (sym c.starts.ensures ∙ c.if-starts.true) in
    rw c.report-found.ensures (run_short a.letter a.words.now a.s.at c.requires.1.in_words here c.requires.0.few)

pub returns-then-starts : goal.returns-then-starts
returns-then-starts c =
    let a = c.args in
    let here = rw (rest_is a.words.now a.s.at) at (sym c.starts.ensures ∙ c.if-starts.true) in
    rw (c.reached.ensures, c.requires.0.sized)
    (run_step a.letter a.words.now a.s.at a.s.left a.s.told a.out.now c.requires.1.in_words c.requires.1.small here _ _ _ _
    c.left_out-before.ensures (rw c.report-found.ensures at c.item.ensures))

pub returns-then-words-at-le255 : goal.returns-then-words-at-le255
returns-then-words-at-le255 c =
    let a = c.args in
    let none = rw (rest_is a.words.now a.s.at) at (sym c.starts.ensures ∙ c.if-starts.false) in
    rw c.reached-then-words-at-le255.ensures
    (byte_step a.letter a.words.now a.s.at a.s.left a.s.told a.out.now c.requires.1.in_words c.requires.1.small none
    (le-leb (get_or a.words.now a.s.at 0) 255 c.if-words-at-le255.true))

pub returns : goal.returns
returns c =
    let a = c.args in
    let none = rw (rest_is a.words.now a.s.at) at (sym c.starts.ensures ∙ c.if-starts.false) in
    rw c.reached-2.ensures
    (mark_step a.letter a.words.now a.s.at a.s.left a.s.told a.out.now c.requires.1.in_words c.requires.1.small none
    (lt-leb (get_or a.words.now a.s.at 0) 255 c.if-words-at-le255.false) _ _ c.left_out.ensures)
