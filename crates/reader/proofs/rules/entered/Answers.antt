-- `entered`: in V the bits 6 to 0, and elsewhere the byte itself.
use Prim.Native.Nat.{ℕ, ◌%◌}
use mathlib.Core.Path.{◌≡◌, sym}
use mathlib.Core.Bool.{Bool, true, false, cond}
use lib.Dec.{eqb}
use Rattle.numbers.proofs.Rows.{number_low}
use Rattle.wire.specs.Line.{letter_of}
use Rattle.wire.specs.declared.Format.TheVariants.{Microsoft}
use Rattle.reader.specs.Rules.{entered}
use Rattle.reader.proofs.rules.entered.Goals as goal

enters : (letter byte : ℕ) (t : Bool) → eqb letter (letter_of Microsoft) ≡ t → entered letter byte ≡ cond t (byte % 128) byte
unfolding entered
enters letter byte t e = rw (e, number_low 7)

pub returns-then-clears : goal.returns-then-clears
returns-then-clears c = sym (enters c.args.letter c.args.byte true c.if-clears.true-raw)

pub returns : goal.returns
returns c = sym (enters c.args.letter c.args.byte false c.if-clears.false-raw)
