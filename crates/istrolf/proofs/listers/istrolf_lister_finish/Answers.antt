-- 6 for what stands for no lister, and then the end below.
use mathlib.Core.Path.{ap, ◌∙◌}
use Rattle.listing.specs.Promises as listing
use Rattle.listing.specs.declared.Lister.{Lister}
use Rattle.istrolf.specs.Listers.{whole, packed_whole}
use Rattle.istrolf.specs.Promises.{finish_of}
use Rattle.istrolf.specs.declared.ListedBytes.{ListedBytes}
use Rattle.istrolf.proofs.listers.istrolf_lister_finish.Goals as goal

pub returns-in-Ok : goal.returns-in-Ok
unfolding finish_of
returns-in-Ok c = let a = c.args in
    let i = c.finish.ensures ∙ ap (λ (m : Lister). listing.finish_of m a.out.now) c.in-Ok.ensures.1 in
    simp c.in-Ok.ensures.0
    (ap (λ (l : ListedBytes). whole l c.finish.new.out) c.from.ensures ∙ ap packed_whole i)

pub returns-in-Err : goal.returns-in-Err
unfolding finish_of
returns-in-Err c = let a = c.args in
    simp c.in-Err.ensures.0 (ap (λ (l : ListedBytes). whole l a.out.now) c.refused_listed.ensures)
