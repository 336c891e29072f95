-- Two fields, or no tab between them.
use native.Mathlib.Omega.{arith}
use mathlib.Core.Path.{◌≡◌, ◌∙◌, ap}
use Prim.Native.Nat.{◌+◌, ◌-◌}
use Rattle.fold.proofs.Parts.{rest_is}
use Rattle.text.specs.Decimals.{plain, number_in}
use Rattle.driver.proofs.Reading.{one_field, two_fields}
use Rattle.driver.proofs.lines.motion.Goals as goal

pub returns-then-n-bytes : goal.returns-then-n-bytes
returns-then-n-bytes c = one_field _ _ c.length_to-n.ensures c.if-n-bytes.true

pub returns : goal.returns
returns c = let l = c.args.bytes.now in
    let n = c.length_to-n in
    let size : n.result - 0 ≡ n.result = omega arith in
    two_fields l n.result _ _ _ n.ensures (rw size at c.number.ensures) (c.number-2.ensures ∙ ap (number_in plain) (rest_is l (n.result + 1))) c.motion_of.ensures
