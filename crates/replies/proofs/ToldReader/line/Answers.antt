-- `line`: the reply at the front, and the report reader's own long read.
use Prim.Native.Nat.{◌≤◌}
use mathlib.Core.Path.{sym, ◌∙◌, ap}
use native.Mathlib.Omega.{arith}
use lib.ListN.{length, drop, length-drop}
use Rattle.fold.proofs.Parts.{rest_is}
use Rattle.reader.proofs.Goodness.{read_line}
use Rattle.reader.proofs.Bounds.{within}
use Rattle.replies.proofs.Fronts.{front_within}
use Rattle.replies.proofs.Lines.{assembled, line_front}
use Rattle.replies.proofs.ToldReader.line.Goals as goal

pub offset_bounds-words-first : goal.offset_bounds-words-first
offset_bounds-words-first c = let short : c.over-first.result.taken ≤ length c.args.words.now = rw c.over-first.ensures (front_within c.args.words.now c.args.self.awaited) in
    omega (arith, short, c.well_formed.1.0.1)

pub slice_bounds-read-count : goal.slice_bounds-read-count
slice_bounds-read-count c = rw c.over-first.ensures (front_within c.args.words.now c.args.self.awaited)

pub slice_bounds-read-start : goal.slice_bounds-read-start
slice_bounds-read-start c = rw c.over-first.ensures (front_within c.args.words.now c.args.self.awaited)

pub overflow_add-result : goal.overflow_add-result
overflow_add-result c = let o = c.over-first in
    let short : o.result.taken ≤ length c.args.words.now = rw o.ensures (front_within c.args.words.now c.args.self.awaited) in
    let r = c.read-rest in
    let some = rw (rest_is c.args.words.now o.result.taken, length-drop) at (within _ _ _ _ _ r.ensures).some in
    omega (arith, short, some, c.well_formed.1.0.1)

pub returns : goal.returns
returns c = let ws = c.args.words.now in
    let s = c.args.self in
    let o = c.over-first in
    let r = c.read-rest in
    let own = rw (rest_is ws o.result.taken) at r.ensures ∙ read_line s.reader (drop o.result.taken ws) c.args.out.now c.requires in
    rw c.closed-then.ensures (sym (line_front ws s.awaited s.reader c.args.out.now c.requires ∙ rw (← o.ensures) (ap (assembled o.result) (sym own))))
