-- `read_microsoft`: the fields of V.
use Prim.Native.Nat.{◌<◌}
use lib.IntN.{pos, neg_ℤ, ◌-ℤ◌}
use lib.Signed.{mag}
use mathlib.Core.List.{◌++◌}
use mathlib.Core.Path.{◌≡◌, refl, ◌∙◌, ap}
use mir.Syntax.{w16}
use mir.Val.{to_z, of_z}
use native.Mathlib.Omega.{arith}
use Rattle.numbers.proofs.Machine.{kept, minus_fits, minus_kept}
use Rattle.numbers.proofs.Twos.{untwos_near}
use Rattle.numbers.specs.Bits.{number, bits}
use Rattle.numbers.specs.Signed.{untwos}
use Rattle.wire.proofs.Fields.{buttons_v, byte_x, byte_y}
use Rattle.wire.specs.Reading.{read_v}
use Rattle.wire.proofs.reading.read_microsoft.Goals as goal

pub overflow_sub-y : goal.overflow_sub-y
overflow_sub-y c =
    let wire_y : c.unwrapped_byte-y.result ≡ untwos 128 (number (bits 2 2 c.args.b1 ++ bits 6 0 c.args.b3)) = c.unwrapped_byte-y.ensures ∙ ap (untwos 128) (byte_y c.args.b1 c.args.b3) in
    let near : mag c.unwrapped_byte-y.result < 128 = rw wire_y
    (untwos_near 128 (number (bits 2 2 c.args.b1 ++ bits 6 0 c.args.b3)) (omega (arith, byte_y c.args.b1 c.args.b3))) in
    rw (kept w16 c.unwrapped_byte-y.type_inv refl) (minus_fits w16 c.unwrapped_byte-y.result (omega (arith, near)))

pub returns : goal.returns
unfolding read_v
returns c =
    let wire_y : c.unwrapped_byte-y.result ≡ untwos 128 (number (bits 2 2 c.args.b1 ++ bits 6 0 c.args.b3)) = c.unwrapped_byte-y.ensures ∙ ap (untwos 128) (byte_y c.args.b1 c.args.b3) in
    let near : mag c.unwrapped_byte-y.result < 128 = rw wire_y
    (untwos_near 128 (number (bits 2 2 c.args.b1 ++ bits 6 0 c.args.b3)) (omega (arith, byte_y c.args.b1 c.args.b3))) in
    let north : to_z w16 (of_z w16 (pos 0 -ℤ to_z w16 (of_z w16 c.unwrapped_byte-y.result))) ≡ neg_ℤ (untwos 128 (number (bits 2 2 c.args.b1 ++ bits 6 0 c.args.b3))) = let e : to_z w16 (of_z w16 c.unwrapped_byte-y.result) ≡ c.unwrapped_byte-y.result = kept w16 c.unwrapped_byte-y.type_inv refl in
    rw e (minus_kept w16 c.unwrapped_byte-y.result (omega (arith, near)) ∙ ap neg_ℤ wire_y) in
    c.report.ensures
    ∙ simp (buttons_v c.args.b1, kept w16 c.unwrapped_byte-x.type_inv c.unwrapped_byte-x.ensures, byte_x c.args.b1 c.args.b2, north)
