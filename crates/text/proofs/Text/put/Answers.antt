-- `put`: whether there is room.
use native.Mathlib.Omega.{arith}
use mathlib.Core.Path.{◌≡◌, sym, ◌∙◌}
use Prim.Native.Nat.{◌+◌, ◌-◌}
use lib.ListN.{length}
use Rattle.std.proofs.Common.{rules, length-take-le}
use Rattle.std.proofs.lemmas.Slice.{put_mid-paste}
use Rattle.text.proofs.Laws.{too_long, no_room, put_is}
use Rattle.text.proofs.Text.put.Goals.{then-n-gt40-via-then-n-gt40, then-n-gt40-via-else-n-gt40+then-out-n, then-n-gt40-via-else-n-gt40+else-out-n+then-out-n-2}
use Rattle.text.proofs.Text.put.Goals as goal

pub returns-then-n-gt40 : goal.returns-then-n-gt40
returns-then-n-gt40 c =
    let a = c.args in
    elim c.then-n-gt40.branch [
      | then-n-gt40-via-then-n-gt40 w ↦ too_long a.self a.at a.out.now w.if-n-gt40.true
      | then-n-gt40-via-else-n-gt40+then-out-n w ↦ no_room a.self a.at a.out.now w.if-n-gt40.false (omega (arith, w.if-out-n.true))
      | then-n-gt40-via-else-n-gt40+else-out-n+then-out-n-2 w ↦ no_room a.self a.at a.out.now w.if-n-gt40.false (omega (arith, w.if-out-n.false, w.if-out-n-2.true))
    ]

pub returns : goal.returns
returns c =
    let a = c.args in
    let p = put_is a.self a.at a.out.now (omega arith) (omega arith) in
    let n : a.self.len ≡ a.at + a.self.len - a.at = omega arith in
    let forty : length a.self.bytes ≡ 40 = search rules in
    let k = c.copy_from_slice.ensures.after in
    (p.0, put_mid-paste _ _ _ _ _ _ k n (sym (length-take-le a.self.len a.self.bytes (omega arith))) ∙ p.1)
