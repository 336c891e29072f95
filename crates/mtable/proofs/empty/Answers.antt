use native.Mathlib.Omega.{arith}
use Prim.Native.Nat.{suc, ◌+◌}
use mathlib.Core.Path.{◌≡◌, sym, ◌∙◌, ap}
use Rattle.text.specs.Growth.{grown, grown_by}
use Rattle.mtable.specs.Table.{comma, commas}
use Rattle.mtable.proofs.Commas.{one_more_lem}
use Rattle.mtable.proofs.empty.Goals as goal

pub loop-k-preserved : goal.loop-k-preserved
loop-k-preserved c =
    let l = c.loop-k in
    let t = c.args.row in
    let n : l.k + 1 ≡ suc l.k = omega arith in
    c.with-r.ensures ∙ ap (λ (t : _). grown t comma) l.invariant ∙ one_more_lem t l.k ∙ ap (λ k. grown_by t (commas k)) (sym n)
