-- The words have room, and are told at once.
use native.Mathlib.Omega.{arith}
use mathlib.Core.Path.{refl, sym, subst}
use mathlib.Core.List.{List}
use lib.Seq.{length-take-le}
use mir.Syntax.{w64}
use mir.Facts.{to_z_pos}
use Rattle.std.proofs.Common.{is_ok}
use Rattle.shell.specs.Outside.{Said}
use Rattle.mwidth.proofs.Words.{words_there, words_are}
use Rattle.mwidth.proofs.tell.Goals as goal

pub slice_bounds-bytes-end : goal.slice_bounds-bytes-end
slice_bounds-bytes-end c =
    let first = c.bytes_to-number in
    let second = c.decimal_to-behind in
    let third = c.bytes_to-n in
    words_there _ _ _ _ first.result second.result third.result c.args.line _ c.args.why.now refl (to_z_pos w64 {n = c.args.line} (omega arith)) (omega arith) c.requires first.ensures second.ensures third.ensures

pub slice_bounds-say-end : goal.slice_bounds-say-end
slice_bounds-say-end c =
    let first = c.bytes_to-number in
    let second = c.decimal_to-behind in
    let third = c.bytes_to-n in
    sym (length-take-le _ _ (words_there _ _ _ _ first.result second.result third.result c.args.line _ c.args.why.now refl (to_z_pos w64 {n = c.args.line} (omega arith)) (omega arith) c.requires first.ensures second.ensures third.ensures))

pub returns : goal.returns
returns c =
    let first = c.bytes_to-number in
    let second = c.decimal_to-behind in
    let third = c.bytes_to-n in
    let say = c.say in
    subst (λ (l : List _). Said c.args.system.now.turn say.new.self.turn (is_ok say.result) l)
    (words_are _ _ _ _ first.result second.result third.result c.args.line _ c.args.why.now refl (to_z_pos w64 {n = c.args.line} (omega arith)) (omega arith) c.requires first.ensures second.ensures third.ensures)
    say.ensures.said
