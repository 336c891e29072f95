use native.Mathlib.Omega.{arith}
use Prim.Native.Nat.{ℕ, suc, ◌+◌}
use mathlib.Core.Path.{◌≡◌, sym, ◌∙◌, ap}
use mathlib.Core.List.{[], ◌∷◌}
use lib.ListN.{take, get_or}
use lib.Seq.{take-suc}
use Rattle.text.specs.Growth.{grown, grown_by}
use Rattle.text.specs.declared.Text.{Text}
use Rattle.text.proofs.Laws.{both}
use Rattle.mtable.proofs.words.Goals as goal

pub loop-b-preserved : goal.loop-b-preserved
loop-b-preserved c =
    let l = c.loop-b in
    let i = l.b-index in
    let bytes = c.args.bytes.now in
    let byte = get_or bytes i 0 in
    let next : i + 1 ≡ suc i = omega arith in
    c.with-r.ensures ∙ ap (λ (t : Text). grown t byte) l.invariant ∙ both c.args.text (take i bytes) (byte ∷ [])
    ∙ ap (grown_by c.args.text) (sym (take-suc bytes i 0 c.loop-b-test.true) ∙ ap (λ (n : ℕ). take n bytes) (sym next))
