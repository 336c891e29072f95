-- 6 for what stands for no bridge, and then the call below.
use mathlib.Core.Path.{ap, ◌∙◌}
use Rattle.bridge.specs.Promises as bridge
use Rattle.bridge.specs.declared.Bridge.{Bridge}
use Rattle.istrolf.specs.Bridges.{whole, packed_long}
use Rattle.istrolf.specs.Promises.{convert_of}
use Rattle.istrolf.specs.declared.ConvertedWords.{ConvertedWords}
use Rattle.istrolf.proofs.bridges.istrolf_bridge_convert.Goals as goal

pub returns-in-Ok : goal.returns-in-Ok
unfolding convert_of
returns-in-Ok c = let a = c.args in
    let i = c.convert.ensures ∙ ap (λ (b : Bridge). bridge.convert_of b a.words.now a.out.now) c.in-Ok.ensures.1 in
    simp c.in-Ok.ensures.0
    (ap (λ (l : ConvertedWords). whole l c.convert.new.out) c.from.ensures ∙ ap packed_long i)

pub returns-in-Err : goal.returns-in-Err
unfolding convert_of
returns-in-Err c = let a = c.args in
    simp c.in-Err.ensures.0 (ap (λ (l : ConvertedWords). whole l a.out.now) c.refused_converted.ensures)
