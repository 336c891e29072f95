use mathlib.Core.Path.{◌∙◌}
use Rattle.std.proofs.Common.{ℕ, eqb, rules, tests}
use Rattle.std.proofs.lemmas.Iterator.{YieldsList-from_slice}
use Rattle.std.proofs.lemmas.Iterator.Search.{position_from_yields_List}
use Rattle.text.proofs.Lengths.{searched}
use Rattle.text.proofs.length_to.Goals as goal

pub returns : goal.returns
returns c = c.unwrap_or.ensures ∙ searched c.args.stop c.args.bytes.now c.position.result
    (position_from_yields_List (λ (b : ℕ). eqb b c.args.stop) _ _ _ c.position.ensures.ran (YieldsList-from_slice c.args.bytes.now cc) (λ x b q k. search (rules, tests)))
