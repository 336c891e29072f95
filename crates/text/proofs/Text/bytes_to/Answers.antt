use native.Mathlib.Omega.{arith}
use Prim.Native.Nat.{suc, ◌+◌}
use mathlib.Core.Path.{◌≡◌, sym, ◌∙◌, ap}
use mathlib.Core.List.{[], ◌∷◌}
use lib.ListN.{take, get_or}
use lib.Seq.{take-suc}
use Rattle.text.specs.Growth.{slice, filled, filled_by}
use Rattle.text.proofs.Filled.{both_filled}
use Rattle.text.proofs.Text.bytes_to.Goals as goal

pub loop-b-preserved : goal.loop-b-preserved
loop-b-preserved c =
    let l = c.loop-b in
    let bytes = c.args.bytes.now in
    let start = slice c.args.out.now c.args.at in
    let byte = get_or bytes l.b-index 0 in
    let next : l.b-index + 1 ≡ suc l.b-index = omega arith in
    c.byte_to-to.ensures ∙ ap (λ (t : _). filled t byte) l.invariant ∙ both_filled start (take l.b-index bytes) (byte ∷ [])
    ∙ ap (filled_by start) (sym (take-suc bytes l.b-index 0 (omega arith)) ∙ ap (λ (n : _). take n bytes) (sym next))
