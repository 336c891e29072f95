-- What is told.
use borrow.Author.Rules.{rules}
use native.Mathlib.Omega.{arith}
use Prim.Native.Nat.{◌≤◌}
use mathlib.Core.Path.{sym, ◌∙◌}
use lib.ListN.{length}
use lib.Seq.{length-take-le}
use Rattle.hearing.proofs.Steps.{stands, within}
use Rattle.mwatch.specs.Watching.{gone_words}
use Rattle.mwatch.proofs.Looking.{few_words, gone_told, ends}
use Rattle.mwatch.proofs.end.Goals as goal

pub slice_bounds-say-end : goal.slice_bounds-say-end
slice_bounds-say-end c =
    let short : length (gone_words c.args.session.teller) ≤ 131 = few_words c.args.session.teller (search rules) (search rules) (search rules) in
    let n = c.counts_to-n in
    let l = c.args.session.teller in
    within c.args.out.now n.new.out (gone_words l) n.result n.ensures (omega (arith, short, c.requires))

pub slice_bounds-say-end-2 : goal.slice_bounds-say-end-2
slice_bounds-say-end-2 c =
    let short : length (gone_words c.args.session.teller) ≤ 131 = few_words c.args.session.teller (search rules) (search rules) (search rules) in
    let n = c.counts_to-n in
    let l = c.args.session.teller in
    sym (length-take-le n.result n.new.out (within c.args.out.now n.new.out (gone_words l) n.result n.ensures (omega (arith, short, c.requires))))

pub returns : goal.returns
returns c =
    let short : length (gone_words c.args.session.teller) ≤ 131 = few_words c.args.session.teller (search rules) (search rules) (search rules) in
    let n = c.counts_to-n in
    let l = c.args.session.teller in
    let text =
    stands c.args.out.now n.new.out (gone_words l) n.result n.ensures (omega (arith, short, c.requires)) in
    ends c.args.system.now.turn c.say.new.self.turn c.args.session _ _ (text ∙ gone_told c.args.session) c.say.ensures.said
