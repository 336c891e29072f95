-- The salvage below, with its mark.
use mathlib.Core.Path.{ap, ◌∙◌}
use Rattle.istrolf.specs.Salvages.{whole, packed_whole}
use Rattle.istrolf.specs.Promises.{salvage_of}
use Rattle.istrolf.specs.declared.SalvagedBytes.{SalvagedBytes}
use Rattle.istrolf.proofs.salvages.istrolf_salvage_list.Goals as goal

pub returns : goal.returns
unfolding salvage_of
returns c =
    let l = c.list in
    ap (λ (t : SalvagedBytes). whole t l.new.out) c.from.ensures ∙ ap packed_whole l.ensures
