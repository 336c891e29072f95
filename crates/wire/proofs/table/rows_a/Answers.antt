-- `rows_a`: the rows of A and B, each under its parity.
use Prim.Native.Nat.{ℕ}
use lib.ListN.{length}
use mathlib.Core.Bool.{Bool}
use mathlib.Core.List.{List}
use mathlib.Core.Path.{◌≡◌, refl, sym, ◌∙◌, ap}
use Rattle.numbers.proofs.Ones.{number_parity}
use Rattle.numbers.specs.Bits.{number, bits}
use Rattle.numbers.specs.Parity.{with_parity, evened}
use Rattle.wire.proofs.Sums.{sum_a, sum_low, sum_high}
use Rattle.wire.specs.Table.{rows_a}
use Rattle.wire.proofs.table.rows_a.Goals as goal

-- seven bits under their parity, from the number that they make
bits_of : {n : ℕ} (row : List Bool) → n ≡ number row → length row ≡ 7 → evened n ≡ number (with_parity row)
bits_of row e l = ap evened e ∙ sym (number_parity row l)

pub returns : goal.returns
unfolding bits rows_a
returns c = simp
    (c.with_parity.ensures ∙ bits_of _ (sum_a c.args.r.buttons c.requires.0) refl, c.with_parity-2.ensures ∙ bits_of _ (sym (sum_low c.args.x)) refl, c.with_parity-3.ensures ∙ bits_of _ (sym (sum_high c.args.x c.requires.1)) refl, c.with_parity-4.ensures ∙ bits_of _ (sym (sum_low c.args.y)) refl, c.with_parity-5.ensures ∙ bits_of _ (sym (sum_high c.args.y c.requires.2)) refl)
